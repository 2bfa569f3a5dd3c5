-- What `clap` finds in the words of each command.
use Rattle.std.proofs.Common.{arith, ◌≡◌, ℕ, true, List, [], ◌∷◌, length, Option, Some, None, refl, sym, ap, ◌∙◌, codes}
use Rattle.std.specs.List.{list_all}
use Rattle.facts.specs.OptionSteps.{◌>>=◌}
use Rattle.clap.specs.Kinds.{Kinds, or_else}
use Rattle.clap.specs.Simple.{Shape}
use Rattle.clap.specs.Walk.{Held, Text, finished, nothing_held}
use Rattle.clap.specs.Words.{fault_of, subcommand_of}
use Rattle.clap.proofs.OnLiterals.{clap_on_literals}
use Rattle.command_words.specs.FormSteps.{forms, check_form, plan_form, encode_form, decode_form, compat_form}
use Rattle.command_words.specs.Words.{is_word}
use Rattle.command_words.specs.Asked.{Asked, check, plan, encode, decode, compat}
use Rattle.command_words.specs.WordSteps.{struct_of, on_struct, old_new, of_two, of_struct, of_words, asked_at}
use Rattle.command_words.proofs.SlotLaws.{Takes, held_after, fault_from, walk_takes, takes_so_many}
use Rattle.command_words.proofs.FormLaws.{IsNameOf, made, check_name, plan_name, encode_name, decode_name, compat_name, check_takes, plan_takes, encode_takes, decode_takes, compat_takes, named_fault, named_rows}

-- what `clap` finds asks for this
abbrev pub Found : List Text → Option Asked
Found words = asked_at (subcommand_of forms words)

abbrev pub All : List Text → Type 0
All words = list_all is_word words ≡ true

-- ---- the words of one command

last_none : (kinds : Kinds) → or_else kinds [] ≡ kinds
last_none [] = refl
last_none (k ∷ ks) = refl

-- the command takes so many words, and reads this of them
pub record Reads (name : Text) (count : ℕ) (read : List Text → Option Asked) : Type 0 where
  pub shape : Shape
  pub named : IsNameOf name shape
  pub takes : Takes shape 1 nothing_held count
  pub reads : (words : List Text) → length words ≡ count → of_words shape.name (finished shape.rules (held_after shape words 1 nothing_held count takes)) ≡ read words

module _ (name : Text) (count : ℕ) (read : List Text → Option Asked) (is : Reads name count read) (words : List Text) (all : All words) where
  fault_is : fault_of forms (name ∷ words) ≡ fault_from is.shape 1 nothing_held words
  fault_is = named_fault name is.shape is.named words ∙ last_none (fault_from is.shape 1 nothing_held words)

  pub so_many : fault_of forms (name ∷ words) ≡ [] → length words ≡ count
  so_many none = takes_so_many is.shape words 1 nothing_held count is.takes all (sym fault_is ∙ none)

  module _ (long : length words ≡ count) where
    pub no_fault : fault_of forms (name ∷ words) ≡ []
    no_fault = fault_is ∙ (walk_takes is.shape words 1 nothing_held count is.takes all long).1

    pub found_is : Found (name ∷ words) ≡ read words
    found_is =
        ap asked_at (named_rows name is.shape is.named words)
        ∙ ap (λ (h : Held). of_words is.shape.name (finished is.shape.rules h)) (walk_takes is.shape words 1 nothing_held count is.takes all long).0
        ∙ is.reads words long

-- ---- what each command reads

abbrev pub Split : Type 0
Split = List ℕ × List ℕ

pub by_one : (P : List Text → Type 0) → ((a : Text) → P (a ∷ [])) → (words : List Text) → length words ≡ 1 → P words
by_one P of [] long = absurd cc
by_one P of (a ∷ []) long = of a
by_one P of (a ∷ b ∷ more) long = absurd (omega arith)

pub by_three : (P : List Text → Type 0) → ((a b c : Text) → P (a ∷ b ∷ c ∷ [])) → (words : List Text) → length words ≡ 3 → P words
by_three P of [] long = absurd cc
by_three P of (a ∷ []) long = absurd (omega arith)
by_three P of (a ∷ b ∷ []) long = absurd (omega arith)
by_three P of (a ∷ b ∷ c ∷ []) long = of a b c
by_three P of (a ∷ b ∷ c ∷ d ∷ more) long = absurd (omega arith)

abbrev pub read_file : (Text → Asked) → List Text → Option Asked
read_file make (file ∷ []) = Some (make file)
read_file make _ = None

abbrev pub read_struct : (Text → Split → Text → Asked) → List Text → Option Asked
read_struct make (file ∷ struct ∷ values ∷ []) = struct_of struct >>= λ of. Some (make file of values)
read_struct make _ = None

abbrev pub read_two : (Text → Text → Split → Asked) → List Text → Option Asked
read_two make (old ∷ new ∷ struct ∷ []) = struct_of struct >>= λ of. Some (make old new of)
read_two make _ = None

-- two steps after one another
two_steps : {B : Type 0} (o : Option Split) (f : Split → B) (g : B → Asked) → ((o >>= λ of. Some (f of)) >>= λ on. Some (g on)) ≡ (o >>= λ of. Some (g (f of)))
two_steps None f g = refl
two_steps (Some of) f g = refl

abbrev pub encodes : Text → Split → Text → Asked
encodes file of values = encode file of.0 of.1 values

abbrev pub decodes : Text → Split → Text → Asked
decodes file of hex = decode file of.0 of.1 hex

abbrev pub compares : Text → Text → Split → Asked
compares old new of = compat old new of.0 of.1

pub check_reads : Reads (codes "check") 1 (read_file check)
unfolding clap_on_literals held_after check_takes of_words
check_reads = record { shape = made check_form; named = check_name; takes = check_takes; reads = by_one _ (λ a. refl) }

pub plan_reads : Reads (codes "plan") 1 (read_file plan)
unfolding clap_on_literals held_after plan_takes of_words
plan_reads = record { shape = made plan_form; named = plan_name; takes = plan_takes; reads = by_one _ (λ a. refl) }

pub encode_reads : Reads (codes "encode") 3 (read_struct encodes)
unfolding clap_on_literals held_after encode_takes of_words of_struct on_struct
encode_reads =
    record { shape = made encode_form; named = encode_name; takes = encode_takes; reads = by_three _ (λ a b c. two_steps (struct_of b) (λ of. (a, of, c)) (λ on. encode on.0 on.1.0 on.1.1 on.2)) }

pub decode_reads : Reads (codes "decode") 3 (read_struct decodes)
unfolding clap_on_literals held_after decode_takes of_words of_struct on_struct
decode_reads =
    record { shape = made decode_form; named = decode_name; takes = decode_takes; reads = by_three _ (λ a b c. two_steps (struct_of b) (λ of. (a, of, c)) (λ on. decode on.0 on.1.0 on.1.1 on.2)) }

pub compat_reads : Reads (codes "compat") 3 (read_two compares)
unfolding clap_on_literals held_after compat_takes of_words of_struct of_two old_new
compat_reads =
    record { shape = made compat_form; named = compat_name; takes = compat_takes; reads = by_three _ (λ a b c. two_steps (struct_of c) (λ of. (a, b, of)) (λ on. compat on.0 on.1 on.2.0 on.2.1)) }
