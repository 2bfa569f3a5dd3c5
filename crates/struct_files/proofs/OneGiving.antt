-- A command gives one answer where the text of the values comes to one.
use Rattle.std.proofs.Common.{◌≡◌, ℕ, List, refl, sym, subst, ◌∙◌}
use Rattle.schema_files.specs.SchemaLoading as schema
use Rattle.schema_files.specs.SchemaLoading.{LoadsSchema}
use Rattle.struct_files.specs.Answers.{TextAnswer, refused, unread, Gives, no_file, bad_file, both_files}
use Rattle.struct_files.specs.Finding.{Finds, found, struct}
use Rattle.struct_files.specs.Opening.{Opening, Opens, struct_and_values}
use Rattle.struct_files.specs.Opening as opening
use Rattle.struct_files.proofs.OneOpening.{one_opening, same_opening}
use Rattle.tars_base.specs.Contents.{Held, HoldsOnly}
use Rattle.tars_model.specs.Declarations.{Declared}

abbrev pub Coming : Type 1
Coming = Declared → ℕ → List ℕ → TextAnswer → Type 0

-- the answer by what was opened
abbrev Given : Coming → Opening → TextAnswer → Type 0
Given Comes (opening.opened d number text) answer = Comes d number text answer
Given Comes (opening.refused line) answer = answer ≡ refused line
Given Comes (opening.unread missing) answer = answer ≡ unread missing

-- a text comes to one answer at most
abbrev pub IsSingle : Coming → Type 0
IsSingle Comes = (d : Declared) (number : ℕ) (text : List ℕ) (a b : TextAnswer) → Comes d number text a → Comes d number text b → a ≡ b

-- each text comes to some answer, where this is declared
abbrev pub IsTotal : Coming → Declared → Type 0
IsTotal Comes d = (number : ℕ) (text : List ℕ) → (answer : TextAnswer) × Comes d number text answer

module _ (Comes : Coming) (held : Held) (file home name values : List ℕ) where
  abbrev Answered : TextAnswer → Type 0
  Answered answer = Gives Comes held file home name values answer

  record Answering (answer : TextAnswer) : Type 0 where
    opening : Opening
    opens : Opens held file home name values opening
    given : Given Comes opening answer

  answering : (answer : TextAnswer) → Answered answer → Answering answer
  answering answer (no_file missing opens) = record { opening = opening.unread missing; opens = opens; given = refl }
  answering answer (bad_file line opens) = record { opening = opening.refused line; opens = opens; given = refl }
  answering answer (both_files d number text own opens comes) = record { opening = opening.opened d number text; opens = opens; given = comes }

  same_given : IsSingle Comes → (o : Opening) (a b : TextAnswer) → Given Comes o a → Given Comes o b → a ≡ b
  same_given single (opening.opened d number text) a b first second = single d number text a b first second
  same_given single (opening.refused line) a b first second = first ∙ sym second
  same_given single (opening.unread missing) a b first second = first ∙ sym second

  pub same_answer : IsSingle Comes → (a b : TextAnswer) → Answered a → Answered b → a ≡ b
  same_answer single a b first second =
      let x = answering a first in
      let y = answering b second in
      let same = same_opening held file home name values y.opening x.opening y.opens x.opens in
      same_given single x.opening a b x.given (subst (λ (o : Opening). Given Comes o b) same y.given)

  pub only_answer : IsSingle Comes → (answer : TextAnswer) → Answered answer → HoldsOnly Answered answer
  only_answer single answer holds = record { holds = holds; only = λ other given. same_answer single other answer given holds }

  loaded_of : {d : Declared} {number : ℕ} {text : List ℕ} → Opens held file home name values (opening.opened d number text) → LoadsSchema (held 0) file (schema.declared d)
  loaded_of (struct_and_values d number text finds reads) = by_finding finds
    where
      by_finding : {d : Declared} {number : ℕ} → Finds (held 0) file home name (found d number) → LoadsSchema (held 0) file (schema.declared d)
      by_finding (struct d number loads declared) = loads

  pub some_answer : ((d : Declared) → LoadsSchema (held 0) file (schema.declared d) → IsTotal Comes d) → (answer : TextAnswer) × Answered answer
  some_answer total = let one = one_opening held file home name values in by_opening one.0 one.1.holds
    where
      by_opening : (o : Opening) → Opens held file home name values o → (answer : TextAnswer) × Answered answer
      by_opening (opening.opened d number text) opens = let own = total d (loaded_of opens) number text in (own.0, both_files d number text own.0 opens own.1)
      by_opening (opening.refused line) opens = (refused line, bad_file line opens)
      by_opening (opening.unread missing) opens = (unread missing, no_file missing opens)
