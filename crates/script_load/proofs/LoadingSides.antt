-- What loading the interface files of a script gives of what the files held, by what was read of them.
use Rattle.std.proofs.Common.{◌≡◌, ℕ, List, Option, Some, None, refl, sym, subst}
use Rattle.std.specs.Prelude.{Result, Ok, Err, IsErr, IsErrAnd}
use Rattle.schema_files.specs.declared.load_fault.LoadFault.{LoadFault}
use Rattle.schema_files.specs.declared.load_fault.LoadFault.TheVariants.{Refused, Read, Memory}
use Rattle.schema_files.proofs.CallerLemmas.{ForSchema}
use Rattle.script_lines.specs.Scripts.{Script}
use Rattle.tars_base.specs.Contents.{Contents, AreTold, HoldsOnly}
use Rattle.tars_model.specs.Declarations.{Declared}
use Rattle.script_load.specs.LoadSteps.{IsServerAnswered, AreSidesAnswered}
use Rattle.script_load.specs.SidesLoading.{SidesAnswer, sides, refused, LoadsSides, bad_client, one_file, bad_server, two_files}
use Rattle.script_load.specs.declared.sides.Sides.{Sides}
use Rattle.script_load.proofs.LawsSides.{one_sides}

-- what loading the interface files returned, for what was held
abbrev pub ForSides : Option Contents → Script → Result Sides LoadFault → Type 0
ForSides told s result = (first : Contents) × (later : Contents) × AreTold told first × AreTold told later × AreSidesAnswered first later s result

module _ (told : Option Contents) (s : Script) where
  -- what an error says of a result
  pub by_error : (fault : LoadFault) (result : Result Sides LoadFault) → IsErr result × IsErrAnd result (λ x. x ≡ fault) → ForSides told s (Err fault) → ForSides told s result
  by_error fault (Ok both) is says = absurd (cc (is.0))
  by_error fault (Err own) is says = subst (λ (f : LoadFault). ForSides told s (Err f)) (sym is.1) says

  only_this : (first later : Contents) (answer : SidesAnswer) → LoadsSides first later s answer → HoldsOnly (LoadsSides first later s) answer
  only_this first later answer loads = record { holds = loads; only = λ other also. one_sides first later s other answer also loads }

  -- nothing more is read after a client's file that is refused
  pub client_failed : (fault : LoadFault) → ForSchema told s.client (Err fault) → ForSides told s (Err fault)
  client_failed (Refused line) given = (given.0, given.0, given.1, given.1, only_this given.0 given.0 (refused line) (bad_client line given.2.holds))
  client_failed Read given = (given.0, given.0, given.1, given.1, tt)
  client_failed Memory given = (given.0, given.0, given.1, given.1, tt)

  -- what the server's schema is answered with
  abbrev pub ForServer : Declared → Result Declared LoadFault → Type 0
  ForServer client result = (later : Contents) × AreTold told later × IsServerAnswered later client s.server result

  module _ (client : Declared) (given : ForSchema told s.client (Ok client)) where
    server_refused : (later : Contents) (line : List ℕ) (server : Option (List ℕ)) → s.server ≡ server → IsServerAnswered later client server (Err (Refused line))
        → LoadsSides given.0 later s (refused line)
    server_refused later line None is own = absurd own
    server_refused later line (Some file) is own = bad_server client file line given.2.holds is own.holds

    pub server_failed : (fault : LoadFault) → ForServer client (Err fault) → ForSides told s (Err fault)
    server_failed (Refused line) own = (given.0, own.0, given.1, own.1, only_this given.0 own.0 (refused line) (server_refused own.0 line s.server refl own.2))
    server_failed Read own = (given.0, own.0, given.1, own.1, tt)
    server_failed Memory own = (given.0, own.0, given.1, own.1, tt)

    both_loaded : (later : Contents) (own : Declared) (server : Option (List ℕ)) → s.server ≡ server → IsServerAnswered later client server (Ok own) → LoadsSides given.0 later s (sides client own)
    both_loaded later own None is same = subst (λ (d : Declared). LoadsSides given.0 later s (sides client d)) (sym same) (one_file client given.2.holds is)
    both_loaded later own (Some file) is loads = two_files client own file given.2.holds is loads.holds

    -- both schemas
    pub sides_loaded : (own : Declared) → ForServer client (Ok own) → ForSides told s (Ok (record { client = client; server = own }))
    sides_loaded own answered = (given.0, answered.0, given.1, answered.1, only_this given.0 answered.0 (sides client own) (both_loaded answered.0 own s.server refl answered.2))
