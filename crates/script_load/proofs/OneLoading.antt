-- Whatever the files hold, loading a script gives one answer, and no other.
use Rattle.std.proofs.Common.{◌≡◌, ◌⊎◌, inl, inr, ℕ, List, refl, sym, ap, ◌∙◌, subst}
use Rattle.schema_files.specs.FileReading.{FileAnswer, ReadsFile}
use Rattle.schema_files.specs.FileReading as file
use Rattle.schema_files.specs.Refusals.{refusal_line}
use Rattle.schema_files.proofs.CallerLemmas.{one_file}
use Rattle.script_lines.specs.Scripts.{Script, IsScript, IsScriptFault}
use Rattle.script_lines.specs.declared.fault.ScriptFault.{ScriptFault}
use Rattle.script_lines.proofs.CallerLemmas.{some_outcome, one_script, one_fault, not_both}
use Rattle.script_session.specs.declared.session.Session.{Session}
use Rattle.tars_base.specs.Contents.{Held, HoldsOnly}
use Rattle.tars_model.specs.Declarations.{Declared}
use Rattle.script_load.specs.LineFaults.{IsFirstFault}
use Rattle.script_load.specs.Loading.{LoadAnswer, loaded, refused, unread, Loads, no_script, long_script, bad_form, no_interface, bad_interface, bad_line, session}
use Rattle.script_load.specs.Sessions.{IsSession}
use Rattle.script_load.specs.SidesLoading.{SidesAnswer, LoadsSides}
use Rattle.script_load.specs.SidesLoading as side
use Rattle.script_load.specs.TextFaults.{form_fault, line_fault}
use Rattle.script_load.specs.declared.faults.LineFault.{LineFault}
use Rattle.script_load.proofs.FirstFaults.{one_first_fault}
use Rattle.script_load.proofs.LawsSession.{one_session, not_both_ways}
use Rattle.script_load.proofs.LawsSides.{the_sides, some_sides, one_sides}
use Rattle.script_load.proofs.LoadedSides.{sides_have}
use Rattle.script_load.proofs.SchemaSides.{HasFuncs}
use Rattle.script_load.proofs.ScriptOrder.{IsOrdered, are_ordered}
use Rattle.script_load.proofs.SomeSession.{some_session}
use Rattle.script_load.proofs.Values.{one_value, value_or_none}

-- ---- the rows of loading, step by step

module _ (held : Held) (name : List ℕ) where
  -- the lines are judged over both schemas
  abbrev AfterSides : Script → SidesAnswer → LoadAnswer → Type 0
  AfterSides s (side.unread gone) answer = answer ≡ unread gone
  AfterSides s (side.refused line) answer = answer ≡ refused line
  AfterSides s (side.sides client server) answer =
      ((fault : LineFault) × IsFirstFault client server s fault × (answer ≡ refused (refusal_line name (line_fault fault))))
      ⊎ ((l : Session) × IsSession s client server l × (answer ≡ loaded l))

  abbrev BySides : Script → LoadAnswer → Type 0
  BySides s answer = (given : SidesAnswer) × LoadsSides (held 1) (held 2) s given × AfterSides s given answer

  abbrev ByText : List ℕ → LoadAnswer → Type 0
  ByText text answer =
      ((fault : ScriptFault) × IsScriptFault text fault × (answer ≡ refused (refusal_line name (form_fault fault)))) ⊎ ((s : Script) × IsScript text s × BySides s answer)

  abbrev AfterFile : FileAnswer → LoadAnswer → Type 0
  AfterFile (file.unread gone) answer = answer ≡ unread gone
  AfterFile (file.refused line) answer = answer ≡ refused line
  AfterFile (file.whole text) answer = ByText text answer

  abbrev ByFile : LoadAnswer → Type 0
  ByFile answer = (given : FileAnswer) × ReadsFile (held 0) name given × AfterFile given answer

  by_row : (answer : LoadAnswer) → Loads held name answer → ByFile answer
  by_row answer (no_script gone reads) = (file.unread gone, reads, refl)
  by_row answer (long_script line reads) = (file.refused line, reads, refl)
  by_row answer (bad_form text fault reads has) = (file.whole text, reads, inl (fault, has, refl))
  by_row answer (no_interface text gone s reads says loads) = (file.whole text, reads, inr (s, says, (side.unread gone, loads, refl)))
  by_row answer (bad_interface text line s reads says loads) = (file.whole text, reads, inr (s, says, (side.refused line, loads, refl)))
  by_row answer (bad_line text s client server fault reads says loads first) =
      (file.whole text, reads, inr (s, says, (side.sides client server, loads, inl (fault, first, refl))))
  by_row answer (session text s client server l reads says loads is) =
      (file.whole text, reads, inr (s, says, (side.sides client server, loads, inr (l, is, refl))))

  abbrev Given : LoadAnswer → Type 0
  Given answer = Loads held name answer

  after_sides : (text : List ℕ) (s : Script) → ReadsFile (held 0) name (file.whole text) → IsScript text s → (given : SidesAnswer) → LoadsSides (held 1) (held 2) s given
      → (answer : LoadAnswer) → AfterSides s given answer → Given answer
  after_sides text s reads says (side.unread gone) loads answer is = subst Given (sym is) (no_interface text gone s reads says loads)
  after_sides text s reads says (side.refused line) loads answer is = subst Given (sym is) (bad_interface text line s reads says loads)
  after_sides text s reads says (side.sides client server) loads answer (inl (fault, first, is)) = subst Given (sym is) (bad_line text s client server fault reads says loads first)
  after_sides text s reads says (side.sides client server) loads answer (inr (l, session_is, is)) = subst Given (sym is) (session text s client server l reads says loads session_is)

  after_file : (given : FileAnswer) → ReadsFile (held 0) name given → (answer : LoadAnswer) → AfterFile given answer → Given answer
  after_file (file.unread gone) reads answer is = subst Given (sym is) (no_script gone reads)
  after_file (file.refused line) reads answer is = subst Given (sym is) (long_script line reads)
  after_file (file.whole text) reads answer (inl (fault, has, is)) = subst Given (sym is) (bad_form text fault reads has)
  after_file (file.whole text) reads answer (inr (s, says, (given, loads, after))) = after_sides text s reads says given loads answer after

  -- ---- some answer

  some_after_sides : (text : List ℕ) (s : Script) → IsScript text s → (given : SidesAnswer) → LoadsSides (held 1) (held 2) s given → (answer : LoadAnswer) × AfterSides s given answer
  some_after_sides text s says (side.unread gone) loads = (unread gone, refl)
  some_after_sides text s says (side.refused line) loads = (refused line, refl)
  some_after_sides text s says (side.sides client server) loads =
      let have = sides_have (held 1) (held 2) s client server loads in
      by_outcome (some_session one_value client server (value_or_none client) (value_or_none server) have.0 have.1 s (are_ordered text s says))
    where
      by_outcome : ((l : Session) × IsSession s client server l) ⊎ ((fault : LineFault) × IsFirstFault client server s fault) → (answer : LoadAnswer) × AfterSides s (side.sides client server) answer
      by_outcome (inl (l, is)) = (loaded l, inr (l, is, refl))
      by_outcome (inr (fault, first)) = (refused (refusal_line name (line_fault fault)), inl (fault, first, refl))

  some_by_text : (text : List ℕ) → (answer : LoadAnswer) × ByText text answer
  some_by_text text = by_outcome (some_outcome text)
    where
      by_outcome : ((s : Script) × IsScript text s) ⊎ ((fault : ScriptFault) × IsScriptFault text fault) → (answer : LoadAnswer) × ByText text answer
      by_outcome (inl (s, says)) =
          let some = some_after_sides text s says (the_sides (held 1) (held 2) s) (some_sides (held 1) (held 2) s) in
          (some.0, inr (s, says, (the_sides (held 1) (held 2) s, some_sides (held 1) (held 2) s, some.1)))
      by_outcome (inr (fault, has)) = (refused (refusal_line name (form_fault fault)), inl (fault, has, refl))

  some_after_file : (given : FileAnswer) → (answer : LoadAnswer) × AfterFile given answer
  some_after_file (file.unread gone) = (unread gone, refl)
  some_after_file (file.refused line) = (refused line, refl)
  some_after_file (file.whole text) = some_by_text text

  -- ---- no other

  same_lines : (s : Script) (client server : Declared) → IsOrdered s → HasFuncs client → HasFuncs server → (a b : LoadAnswer) → AfterSides s (side.sides client server) a
      → AfterSides s (side.sides client server) b → a ≡ b
  same_lines s client server ordered client_has server_has a b (inl (fault, first, is)) (inl (other, also, is_too)) =
      is ∙ ap (λ (f : LineFault). refused (refusal_line name (line_fault f))) (one_first_fault one_value client server client_has server_has s ordered fault other first also) ∙ sym is_too
  same_lines s client server ordered client_has server_has a b (inl (fault, first, is)) (inr (l, session_is, is_too)) =
      absurd (not_both_ways one_value s client server client_has server_has l fault session_is first)
  same_lines s client server ordered client_has server_has a b (inr (l, session_is, is)) (inl (fault, first, is_too)) =
      absurd (not_both_ways one_value s client server client_has server_has l fault session_is first)
  same_lines s client server ordered client_has server_has a b (inr (l, session_is, is)) (inr (m, session_too, is_too)) =
      is ∙ ap (λ (x : Session). loaded x) (one_session one_value s client server client_has server_has l m session_is session_too) ∙ sym is_too

  same_after_sides : (text : List ℕ) (s : Script) → IsScript text s → (given : SidesAnswer) → LoadsSides (held 1) (held 2) s given → (a b : LoadAnswer) → AfterSides s given a
      → AfterSides s given b → a ≡ b
  same_after_sides text s says (side.unread gone) loads a b is is_too = is ∙ sym is_too
  same_after_sides text s says (side.refused line) loads a b is is_too = is ∙ sym is_too
  same_after_sides text s says (side.sides client server) loads a b is is_too =
      let have = sides_have (held 1) (held 2) s client server loads in
      same_lines s client server (are_ordered text s says) have.0 have.1 a b is is_too

  same_by_sides : (text : List ℕ) (s : Script) → IsScript text s → (a b : LoadAnswer) → BySides s a → BySides s b → a ≡ b
  same_by_sides text s says a b (given, loads, after) (other, also, after_too) =
      same_after_sides text s says given loads a b after
      (subst (λ (x : SidesAnswer). AfterSides s x b) (one_sides (held 1) (held 2) s other given also loads) after_too)

  same_by_text : (text : List ℕ) (a b : LoadAnswer) → ByText text a → ByText text b → a ≡ b
  same_by_text text a b (inl (fault, has, is)) (inl (other, have, is_too)) =
      is ∙ ap (λ (f : ScriptFault). refused (refusal_line name (form_fault f))) (one_fault text fault other has have) ∙ sym is_too
  same_by_text text a b (inl (fault, has, is)) (inr (s, says, by)) = absurd (not_both text s fault says has)
  same_by_text text a b (inr (s, says, by)) (inl (fault, has, is)) = absurd (not_both text s fault says has)
  same_by_text text a b (inr (s, says, by)) (inr (t, also, by_too)) =
      same_by_sides text s says a b by (subst (λ (x : Script). BySides x b) (one_script text t s also says) by_too)

  same_after_file : (given : FileAnswer) (a b : LoadAnswer) → AfterFile given a → AfterFile given b → a ≡ b
  same_after_file (file.unread gone) a b is is_too = is ∙ sym is_too
  same_after_file (file.refused line) a b is is_too = is ∙ sym is_too
  same_after_file (file.whole text) a b is is_too = same_by_text text a b is is_too

  pub same_answer : (a b : LoadAnswer) → Loads held name a → Loads held name b → a ≡ b
  same_answer a b first second =
      let (given, reads, after) = by_row a first in
      let (other, also, after_too) = by_row b second in
      let one = one_file (held 0) name in
      same_after_file given a b after (subst (λ (x : FileAnswer). AfterFile x b) (one.1.only other also ∙ sym (one.1.only given reads)) after_too)

-- ---- the one answer

abbrev pub OneAnswer : Held → List ℕ → Type 0
OneAnswer held name = (answer : LoadAnswer) × HoldsOnly (Loads held name) answer

-- what holds is the one answer
pub only_answer : (held : Held) (name : List ℕ) (answer : LoadAnswer) → Loads held name answer → HoldsOnly (Loads held name) answer
only_answer held name answer loads = record { holds = loads; only = λ other also. same_answer held name other answer also loads }

pub one_answer : (held : Held) (name : List ℕ) → OneAnswer held name
one_answer held name =
    let read = one_file (held 0) name in
    let some = some_after_file held name read.0 in
    (some.0, only_answer held name some.0 (after_file held name read.0 read.1.holds some.0 some.1))
