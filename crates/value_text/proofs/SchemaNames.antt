-- The members that a schema declares have names that begin with a letter.
use Rattle.std.proofs.Common.{◌≡◌, ℕ, true, List, [], ◌∷◌}
use Rattle.std.proofs.lemmas.List.Elements.{recursion_from_All}
use Rattle.std.specs.Char.{is_ascii_alphabetic}
use Rattle.std.specs.List.{AllByRecursion}
use Rattle.idl_lex.specs.Bytes.{begins}
use Rattle.tars_model.specs.Declarations.{Declared, members_at}
use Rattle.tars_model.specs.Names.{begins_word}
use Rattle.tars_model.specs.Schemas.{IsSchema, MemberFits}
use Rattle.tars_model.specs.declared.member.Member.{Member}
use Rattle.value_text.proofs.Induction.{AllOf}
use Rattle.value_text.proofs.SchemaParts.{each_struct}

abbrev pub HasLetter : Member → Type 0
HasLetter m = begins is_ascii_alphabetic m.name ≡ true

abbrev pub Named : Declared → Type 0
Named d = (k : ℕ) → AllOf HasLetter (members_at d k)

pub letter : (name : List ℕ) → begins_word name ≡ true → begins is_ascii_alphabetic name ≡ true
letter [] h = cc
letter (b ∷ name) h = h

each_letter : (d : Declared) (ms : List Member) → AllByRecursion (MemberFits d) ms → AllOf HasLetter ms
each_letter d [] all = tt
each_letter d (m ∷ ms) all = (letter m.name all.0.name.identifier.letter, each_letter d ms all.1)

pub schema_names : (d : Declared) → IsSchema d → Named d
schema_names = each_struct (λ (k : ℕ) (ms : List Member). AllOf HasLetter ms) (λ k. tt) (λ d s fits. each_letter d s.members (recursion_from_All (MemberFits d) s.members fits.members))
