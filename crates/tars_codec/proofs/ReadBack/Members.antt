-- Values under members are read again, each by its member's tag.
use Rattle.std.proofs.Common.{◌≡◌, ◌<◌, ◌≤◌, ◌+◌, ℕ, true, eq-eqb, ne_eqb, List, [], ◌∷◌, map, Some, Ok, refl, ◌∙◌, arith}
use Rattle.std.specs.List.{AllByRecursion}
use Rattle.std.proofs.lemmas.Bool.{and_parts}
use Rattle.tars_model.specs.Declarations.{Declared}
use Rattle.tars_model.specs.Members.{IsBelowNext, HaveRisingTags}
use Rattle.tars_model.specs.Values.{told, fit_told}
use Rattle.tars_model.specs.declared.member.Member.{Member}
use Rattle.tars_model.specs.declared.value.Value.{Value}
use Rattle.tars_wire.specs.Writable.{FieldsWritable}
use Rattle.tars_decode.specs.Reads.{Saying, says, sayings, said_under, members_of}
use Rattle.tars_codec.specs.Written.{wire_value, wire_members}
use Rattle.tars_codec.proofs.ReadBack.StandsFor.{depth, ComesBack}

-- no tag is below `from`
abbrev pub StartFrom : ℕ → List Member → Type 0
StartFrom from [] = Unit {0}
StartFrom from (m ∷ ms) = from ≤ m.tag

start_next : (tag : ℕ) (ms : List Member) → IsBelowNext tag ms → StartFrom (tag + 1) ms
start_next tag [] next = tt
start_next tag (m ∷ ms) next = omega arith

pub start_at_0 : (ms : List Member) → StartFrom 0 ms
start_at_0 [] = tt
start_at_0 (m ∷ ms) = omega arith

module _ (d : Declared) where
  -- what is said by the fields of values under members
  abbrev said : List Member → List Value → List Saying
  said ms vs = sayings (wire_members d ms (map wire_value vs)) d

  -- fields before these do not matter, if their tags are lower
  members_again : (ms : List Member) (vs : List Value) (from : ℕ) (all : List Saying) → ((tag : ℕ) → from ≤ tag → said_under tag all ≡ said_under tag (said ms vs)) → StartFrom from ms → HaveRisingTags ms → AllByRecursion (ComesBack d) vs → fit_told d ms (map told vs) ≡ true → members_of ms all ≡ Ok vs
  members_again [] [] from all same start rising each fit = refl
  members_again [] (v ∷ vs) from all same start rising each fit = absurd cc
  members_again (m ∷ ms) [] from all same start rising each fit = absurd cc
  members_again (m ∷ ms) (v ∷ vs) from all same start rising each fit =
      let parts = and_parts ((told v).fits d m.ty) (fit_told d ms (map told vs)) fit in
      let own : said_under m.tag all ≡ Some (λ t. says (wire_value v d m.ty) d t) = same m.tag start ∙ rw (eq-eqb m.tag m.tag refl) refl in
      let later : (tag : ℕ) → m.tag + 1 ≤ tag → said_under tag all ≡ said_under tag (said ms vs) = λ tag above. same tag (omega arith) ∙ rw (ne_eqb m.tag tag (omega arith)) refl in
      let others = members_again ms vs (m.tag + 1) all later (start_next m.tag ms rising.0) rising.1 each.1 parts.1 in
      rw (own, (each.0 m.ty parts.0).again, others) refl

  pub all_members_again : (ms : List Member) (vs : List Value) → HaveRisingTags ms → AllByRecursion (ComesBack d) vs → fit_told d ms (map told vs) ≡ true → members_of ms (said ms vs) ≡ Ok vs
  all_members_again ms vs rising each fit = members_again ms vs 0 (said ms vs) (λ tag above. refl) (start_at_0 ms) rising each fit

  pub members_fit : (ms : List Member) (vs : List Value) (from room : ℕ) → StartFrom from ms → HaveRisingTags ms → AllByRecursion (λ (m : Member). depth d m.ty < room) ms → AllByRecursion (ComesBack d) vs → fit_told d ms (map told vs) ≡ true → FieldsWritable (wire_members d ms (map wire_value vs)) room from
  members_fit [] vs from room start rising shallow each fit = tt
  members_fit (m ∷ ms) [] from room start rising shallow each fit = tt
  members_fit (m ∷ ms) (v ∷ vs) from room start rising shallow each fit =
      let parts = and_parts ((told v).fits d m.ty) (fit_told d ms (map told vs)) fit in
      (start, (each.0 m.ty parts.0).fits room shallow.0, members_fit ms vs (m.tag + 1) room (start_next m.tag ms rising.0) rising.1 shallow.1 each.1 parts.1)
