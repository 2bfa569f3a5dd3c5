-- Whatever files hold, looking for a struct in an interface file gives one thing, and no other.
use Rattle.std.proofs.Common.{◌≡◌, ℕ, List, Option, Some, None, refl, sym, ap, ◌∙◌}
use Rattle.idl_schema.specs.SchemaOf.{struct_number}
use Rattle.schema_files.specs.Refusals.{refusal_line}
use Rattle.schema_files.specs.SchemaLoading as schema
use Rattle.schema_files.specs.SchemaLoading.{SchemaAnswer, LoadsSchema}
use Rattle.schema_files.proofs.CallerLemmas.{one_schema}
use Rattle.struct_files.specs.Finding.{Finding, found, refused, unread, unknown_struct, Finds, no_interface, bad_interface, no_struct, struct}
use Rattle.tars_base.specs.Contents.{Contents, HoldsOnly}
use Rattle.tars_model.specs.Declarations.{Declared}

-- what is found, by what loading gives
abbrev by_number : List ℕ → Declared → Option ℕ → Finding
by_number file d None = refused (refusal_line file unknown_struct)
by_number file d (Some number) = found d number

module _ (contents : Contents) (file home name : List ℕ) where
  abbrev by_schema : SchemaAnswer → Finding
  by_schema (schema.declared d) = by_number file d (struct_number d home name)
  by_schema (schema.refused line) = refused line
  by_schema (schema.unread missing) = unread missing

  number_found : (d : Declared) (o : Option ℕ) → LoadsSchema contents file (schema.declared d) → struct_number d home name ≡ o → Finds contents file home name (by_number file d o)
  number_found d None loads none = no_struct d loads none
  number_found d (Some number) loads is = struct d number loads is

  schema_found : (answer : SchemaAnswer) → LoadsSchema contents file answer → Finds contents file home name (by_schema answer)
  schema_found (schema.declared d) loads = number_found d (struct_number d home name) loads refl
  schema_found (schema.refused line) loads = bad_interface line loads
  schema_found (schema.unread missing) loads = no_interface missing loads

  module _ (answer : SchemaAnswer) (loads : HoldsOnly (LoadsSchema contents file) answer) where
    of_schema : (own : SchemaAnswer) → LoadsSchema contents file own → by_schema own ≡ by_schema answer
    of_schema own given = ap by_schema (loads.only own given)

    of_number : (d : Declared) (o : Option ℕ) → LoadsSchema contents file (schema.declared d) → struct_number d home name ≡ o → by_number file d o ≡ by_schema answer
    of_number d o given is = ap (by_number file d) (sym is) ∙ of_schema (schema.declared d) given

    only : (other : Finding) → Finds contents file home name other → other ≡ by_schema answer
    only other (no_interface missing given) = of_schema (schema.unread missing) given
    only other (bad_interface line given) = of_schema (schema.refused line) given
    only other (no_struct d given none) = of_number d None given none
    only other (struct d number given is) = of_number d (Some number) given is

  pub one_finding : (finding : Finding) × HoldsOnly (Finds contents file home name) finding
  one_finding =
      let answer = one_schema contents file in
      (by_schema answer.0, record { holds = schema_found answer.0 answer.1.holds; only = only answer.0 answer.1 })
