-- Whatever the files hold, reading a file gives one answer, and no other.
use Rattle.std.proofs.Common.{◌≡◌, ◌<◌, ◌≤◌, ℕ, List, length, Option, Some, None, refl, sym, ap, ◌∙◌, ⊎_elim, arith}
use Rattle.std.proofs.lemmas.Bool.{cases_lt}
use Rattle.facts.proofs.OptionLaws.{some_is}
use Rattle.schema_files.specs.FileReading.{FileAnswer, whole, unread, ReadsFile, no_file, long_file, file}
use Rattle.tars_base.specs.Contents.{Contents, HoldsOnly}
use Rattle.tars_base.specs.Limits.{MAX_FILE}

-- a file that is there is not missing, and has one text
not_missing : (c : Contents) (name bytes : List ℕ) → c name ≡ Some bytes → c name ≡ None → ⊥
not_missing c name bytes is none = let no : Some bytes ≡ None = sym is ∙ none in cc

one_text : (c : Contents) (name a b : List ℕ) → c name ≡ Some a → c name ≡ Some b → a ≡ b
one_text c name a b is own = some_is a b (sym is ∙ own)

not_both : (c : Contents) (name a b : List ℕ) → c name ≡ Some a → MAX_FILE < length a → c name ≡ Some b → length b ≤ MAX_FILE → ⊥
not_both c name a b is long own within = omega (arith, long, within, ap length (one_text c name a b is own))

same : (c : Contents) (name : List ℕ) (a b : FileAnswer) → ReadsFile c name a → ReadsFile c name b → a ≡ b
same c name a b (no_file none) (no_file also) = refl
same c name a b (no_file none) (long_file bytes is long) = absurd (not_missing c name bytes is none)
same c name a b (no_file none) (file bytes is within) = absurd (not_missing c name bytes is none)
same c name a b (long_file bytes is long) (no_file none) = absurd (not_missing c name bytes is none)
same c name a b (long_file bytes is long) (long_file other own also) = refl
same c name a b (long_file bytes is long) (file other own within) = absurd (not_both c name bytes other is long own within)
same c name a b (file bytes is within) (no_file none) = absurd (not_missing c name bytes is none)
same c name a b (file bytes is within) (long_file other own long) = absurd (not_both c name other bytes own long is within)
same c name a b (file bytes is within) (file other own also) = ap whole (one_text c name bytes other is own)

-- what holds is the one answer
pub only_file : (c : Contents) (name : List ℕ) (answer : FileAnswer) → ReadsFile c name answer → HoldsOnly (ReadsFile c name) answer
only_file c name answer holds = record { holds = holds; only = λ other given. same c name other answer given holds }

some_file : (c : Contents) (name : List ℕ) → (answer : FileAnswer) × ReadsFile c name answer
some_file c name = by_contents (c name) refl
  where
    by_contents : (o : Option (List ℕ)) → c name ≡ o → (answer : FileAnswer) × ReadsFile c name answer
    by_contents None none = (unread name, no_file none)
    by_contents (Some bytes) is =
        ⊎_elim (λ long. (_, long_file bytes is long)) (λ within. (whole bytes, file bytes is (omega (arith, within)))) (cases_lt MAX_FILE (length bytes))

pub one_file : (c : Contents) (name : List ℕ) → (answer : FileAnswer) × HoldsOnly (ReadsFile c name) answer
one_file c name = let some = some_file c name in (some.0, only_file c name some.0 some.1)
