-- Loading the interface files of a script gives one answer, and no other.
use Rattle.std.proofs.Common.{◌≡◌, ℕ, Option, Some, None, List, refl, sym, ap, ◌∙◌, subst}
use Rattle.schema_files.specs.SchemaLoading.{SchemaAnswer, LoadsSchema}
use Rattle.schema_files.specs.SchemaLoading as schema
use Rattle.schema_files.proofs.CallerLemmas.{one_schema}
use Rattle.script_lines.specs.Scripts.{Script}
use Rattle.tars_base.specs.Contents.{Contents, HoldsOnly}
use Rattle.tars_model.specs.Declarations.{Declared}
use Rattle.script_rules.proofs.Names.{some_is}
use Rattle.script_load.specs.SidesLoading.{SidesAnswer, sides, refused, unread, LoadsSides, no_client, bad_client, one_file, no_server, bad_server, two_files}

-- the answer after the client's schema, by what the server's file gives
abbrev with_server : Declared → SchemaAnswer → SidesAnswer
with_server client (schema.declared own) = sides client own
with_server client (schema.refused line) = refused line
with_server client (schema.unread name) = unread name

abbrev by_server : Contents → Declared → Option (List ℕ) → SidesAnswer
by_server later client None = sides client client
by_server later client (Some file) = with_server client (one_schema later file).0

-- and by what the client's file gives
abbrev answer_by : Contents → Option (List ℕ) → SchemaAnswer → SidesAnswer
answer_by later server (schema.declared client) = by_server later client server
answer_by later server (schema.refused line) = refused line
answer_by later server (schema.unread name) = unread name

module _ (first later : Contents) (s : Script) where
  abbrev pub the_sides : SidesAnswer
  the_sides = answer_by later s.server (one_schema first s.client).0

  client_is : (answer : SchemaAnswer) → LoadsSchema first s.client answer → answer ≡ (one_schema first s.client).0
  client_is answer loads = (one_schema first s.client).1.only answer loads

  server_is : (file : List ℕ) (answer : SchemaAnswer) → LoadsSchema later file answer → answer ≡ (one_schema later file).0
  server_is file answer loads = (one_schema later file).1.only answer loads

  by_client : (answer : SchemaAnswer) → LoadsSchema first s.client answer → answer_by later s.server answer ≡ the_sides
  by_client answer loads = ap (answer_by later s.server) (client_is answer loads)

  named : (client : Declared) (file : List ℕ) (answer : SchemaAnswer) → LoadsSchema first s.client (schema.declared client) → s.server ≡ Some file → LoadsSchema later file answer
      → with_server client answer ≡ the_sides
  named client file answer loads is own =
      ap (with_server client) (server_is file answer own) ∙ sym (ap (by_server later client) is) ∙ by_client (schema.declared client) loads

  -- no other answer is given
  pub only_sides : (other : SidesAnswer) → LoadsSides first later s other → other ≡ the_sides
  only_sides other (no_client name loads) = by_client (schema.unread name) loads
  only_sides other (bad_client line loads) = by_client (schema.refused line) loads
  only_sides other (one_file client loads is) = sym (ap (by_server later client) is) ∙ by_client (schema.declared client) loads
  only_sides other (no_server client file name loads is own) = named client file (schema.unread name) loads is own
  only_sides other (bad_server client file line loads is own) = named client file (schema.refused line) loads is own
  only_sides other (two_files client own file loads is own_loads) = named client file (schema.declared own) loads is own_loads

  server_loads : (client : Declared) (file : List ℕ) → LoadsSchema first s.client (schema.declared client) → s.server ≡ Some file
      → (answer : SchemaAnswer) → LoadsSchema later file answer → LoadsSides first later s (with_server client answer)
  server_loads client file loads is (schema.declared own) given = two_files client own file loads is given
  server_loads client file loads is (schema.refused line) given = bad_server client file line loads is given
  server_loads client file loads is (schema.unread name) given = no_server client file name loads is given

  client_loads : (client : Declared) → LoadsSchema first s.client (schema.declared client) → (server : Option (List ℕ)) → s.server ≡ server
      → LoadsSides first later s (by_server later client server)
  client_loads client loads None is = one_file client loads is
  client_loads client loads (Some file) is = let own = one_schema later file in server_loads client file loads is own.0 own.1.holds

  answer_loads : (answer : SchemaAnswer) → LoadsSchema first s.client answer → LoadsSides first later s (answer_by later s.server answer)
  answer_loads (schema.declared client) loads = client_loads client loads s.server refl
  answer_loads (schema.refused line) loads = bad_client line loads
  answer_loads (schema.unread name) loads = no_client name loads

  -- this answer is given
  pub some_sides : LoadsSides first later s the_sides
  some_sides = answer_loads (one_schema first s.client).0 (one_schema first s.client).1.holds

  pub one_sides : (a b : SidesAnswer) → LoadsSides first later s a → LoadsSides first later s b → a ≡ b
  one_sides a b first_loads second_loads = only_sides a first_loads ∙ sym (only_sides b second_loads)
