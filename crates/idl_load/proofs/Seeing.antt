-- What holds of what is read of the files that steps begin, joined step by step.
use Rattle.std.proofs.Common.{◌≡◌, ◌≤◌, ◌+◌, ⊎_elim, ℕ, Bool, true, false, ◌||◌, List, [], ◌∷◌, ◌++◌, length, take, Option, Some, None, if◌then◌else◌, refl, sym, ap, subst, ◌∙◌, arith}
use Rattle.std.proofs.lemmas.Bool.{cases_lt}
use Rattle.std.proofs.lemmas.List.{take_all, length-take, append_assoc}
use Rattle.std.proofs.lemmas.List.Folds.{list_any-append}
use Rattle.std.proofs.lemmas.Slice.Eq.{bytes_eq-Decides}
use Rattle.std.specs.Prelude.{MatchOption}
use Rattle.std.specs.Str.{bytes_eq}
use Rattle.idl_parse.specs.declared.tree.module.Entry.{Entry}
use Rattle.idl_load.specs.FileText.{FileText, tree, bad, IsText, too_long, file}
use Rattle.idl_load.specs.LoadAnswers.{ForRead}
use Rattle.idl_load.specs.LoadSteps.{ReadsAt, is_in, ForStep, Keeps}
use Rattle.idl_load.specs.Loading.{Reading}
use Rattle.idl_load.specs.declared.file_fault.FileFault.TheVariants.{TooLong}
use Rattle.idl_load.proofs.Texts.{one_text}
use Rattle.tars_base.specs.Contents.{Contents, AreTold, HoldsOnly, IsPrefixOfFile}
use Rattle.tars_base.specs.Limits.{MAX_FILE}

-- ---- names that are begun

either_true : (a b : Bool) → a ≡ true → (a || b) ≡ true
either_true true b e = refl
either_true false b e = absurd cc

left_false : (a b : Bool) → (a || b) ≡ false → a ≡ false
left_false true b e = absurd cc
left_false false b e = refl

right_true : (a b : Bool) → b ≡ true → (a || b) ≡ true
right_true true b e = refl
right_true false b e = e

pub stays_in : (before later : List (List ℕ)) → Keeps before later → (name : List ℕ) → is_in before name ≡ true → is_in later name ≡ true
stays_in before later (more, same) name e = ap (λ (l : List (List ℕ)). is_in l name) same ∙ list_any-append (bytes_eq name) before more ∙ either_true (is_in before name) (is_in more name) e

was_not_in : (before later : List (List ℕ)) → Keeps before later → (name : List ℕ) → is_in later name ≡ false → is_in before name ≡ false
was_not_in before later (more, same) name e =
    left_false (is_in before name) (is_in more name) (sym (list_any-append (bytes_eq name) before more) ∙ sym (ap (λ (l : List (List ℕ)). is_in l name) same) ∙ e)

pub kept_on : (before mid later : List (List ℕ)) → Keeps before mid → Keeps mid later → Keeps before later
kept_on before mid later (more, same) (others, next) = (more ++ others, next ∙ ap (λ (l : List (List ℕ)). l ++ others) same ∙ append_assoc before more others)

-- the last name is among names
pub last_in : (names : List (List ℕ)) (name : List ℕ) → is_in (names ++ name ∷ []) name ≡ true
last_in names name =
    list_any-append (bytes_eq name) names (name ∷ []) ∙ right_true (is_in names name) (is_in (name ∷ []) name) (either_true (bytes_eq name name) false ((bytes_eq-Decides name name).1 refl))

-- ---- steps

at_same : (a b : Contents) (read : Reading) (name : List ℕ) → a name ≡ b name → ReadsAt b read name → ReadsAt a read name
at_same a b read name same at = record { missing = λ none. at.missing (sym same ∙ none); present = λ bytes is. at.present bytes (sym same ∙ is) }

-- contents that the files may hold
some_contents : (told : Option Contents) → (seen : Contents) × AreTold told seen
some_contents None = (λ name. None, tt)
some_contents (Some contents) = (contents, λ name. refl)

pub always : {Q : Reading → Type 0} (told : Option Contents) (before later : List (List ℕ)) → ((read : Reading) → Q read) → ForStep told before later Q
always told before later q = record { seen = (some_contents told).0; told_so = (some_contents told).1; so = λ read reads. q read }

pub onward : {P Q : Reading → Type 0} (told : Option Contents) (before later : List (List ℕ)) → ((read : Reading) → P read → Q read) → ForStep told before later P → ForStep told before later Q
onward told before later f p = record { seen = p.seen; told_so = p.told_so; so = λ read reads. f read (p.so read reads) }

-- no step before
pub of_all : {P : Reading → Type 0} (told : Option Contents) (before later : List (List ℕ)) → ForStep told before later P → ForRead told P
of_all told before later p =
    (p.seen, p.told_so, λ read reads. p.so read (λ name is not. record { missing = reads.missing name; present = reads.present name }))

-- contents that were seen by one step for the files that it began, and by the next for the others
seen_by : List (List ℕ) → Contents → Contents → Contents
seen_by mid first second name = if is_in mid name then first name else second name

by_first : (mid : List (List ℕ)) (first second : Contents) (name : List ℕ) → is_in mid name ≡ true → first name ≡ seen_by mid first second name
unfolding seen_by
by_first mid first second name e = rw e refl

by_second : (mid : List (List ℕ)) (first second : Contents) (name : List ℕ) → is_in mid name ≡ false → second name ≡ seen_by mid first second name
unfolding seen_by
by_second mid first second name e = rw e refl

told_by : (told : Option Contents) (mid : List (List ℕ)) (first second : Contents) → AreTold told first → AreTold told second → AreTold told (seen_by mid first second)
told_by None mid first second a b = tt
told_by (Some contents) mid first second a b = λ name. by_test name (is_in mid name) refl
  where
    by_test : (name : List ℕ) (t : Bool) → is_in mid name ≡ t → seen_by mid first second name ≡ contents name
    by_test name true e = sym (by_first mid first second name e) ∙ a name
    by_test name false e = sym (by_second mid first second name e) ∙ b name

pub both : {P Q R : Reading → Type 0} (told : Option Contents) (before mid later : List (List ℕ)) → Keeps before mid → Keeps mid later → ((read : Reading) → P read → Q read → R read)
    → ForStep told before mid P → ForStep told mid later Q → ForStep told before later R
both told before mid later first next f p q = record {
  seen = seen_by mid p.seen q.seen;
  told_so = told_by told mid p.seen q.seen p.told_so q.told_so;
  so = λ read reads. f read
      (p.so read (λ name is not. at_same p.seen (seen_by mid p.seen q.seen) read name (by_first mid p.seen q.seen name is) (reads name (stays_in mid later next name is) not)))
      (q.so read (λ name is not. at_same q.seen (seen_by mid p.seen q.seen) read name (by_second mid p.seen q.seen name not) (reads name is (was_not_in before mid first name not))));
}

-- ---- a text that is read

-- what is read under a name is this, of bytes of which these were read
pub record ReadAs (read : Reading) (name text : List ℕ) (x : FileText) : Type 0 where
  pub bytes : List ℕ
  pub is : read name ≡ Some (bytes, x)
  pub prefix : text ≡ take (MAX_FILE + 1) bytes

same_text : (bytes text : List ℕ) → text ≡ take (MAX_FILE + 1) bytes → (x t : FileText) → HoldsOnly (IsText text) x → IsText bytes t → t ≡ x
same_text bytes text prefix x t one is =
    ⊎_elim (λ long.
    one_text bytes t (bad TooLong) is (too_long long)
    ∙ one.only (bad TooLong) (too_long (omega (arith, long, length-take (MAX_FILE + 1) bytes, ap length prefix))))
    (λ within. one.only t (subst (λ (b : List ℕ). IsText b t) (sym (prefix ∙ take_all (MAX_FILE + 1) bytes (omega arith))) is))
    (cases_lt MAX_FILE (length bytes))

read_as : (contents : Contents) (read : Reading) (name text : List ℕ) → ReadsAt contents read name → (o : Option (List ℕ)) → contents name ≡ o → MatchOption o ⊥ (λ bytes. text ≡ take (MAX_FILE + 1) bytes) → (x : FileText) → HoldsOnly (IsText text) x → ReadAs read name text x
read_as contents read name text at None e prefix x one = absurd prefix
read_as contents read name text at (Some bytes) e prefix x one =
    let found = at.present bytes e in
    record {
      bytes = bytes;
      is = found.1 ∙ ap (λ (t : FileText). Some (bytes, t)) (same_text bytes text prefix x found.0 one found.2);
      prefix = prefix;
    }

-- a text that was read is read under its name
pub reading : (told : Option Contents) (before later : List (List ℕ)) (name text : List ℕ) (x : FileText) → is_in before name ≡ false → is_in later name ≡ true
    → IsPrefixOfFile told name (MAX_FILE + 1) text → length text ≤ MAX_FILE + 1 → HoldsOnly (IsText text) x → ForStep told before later (λ read. ReadAs read name text x)
reading None before later name text x not is prefix within one = record {
  seen = λ other. Some text;
  told_so = tt;
  so = λ read reads. read_as (λ other. Some text) read name text (reads name is not) (Some text) refl (sym (take_all (MAX_FILE + 1) text within)) x one;
}
reading (Some contents) before later name text x not is prefix within one = record {
  seen = contents;
  told_so = λ other. refl;
  so = λ read reads. read_as contents read name text (reads name is not) (contents name) refl prefix x one;
}

-- a text that is a file was read whole
pub whole : (bytes text : List ℕ) (entries : List Entry) → text ≡ take (MAX_FILE + 1) bytes → IsText text (tree entries) → text ≡ bytes
whole bytes text entries prefix (file tokens others within lexed is) =
    ⊎_elim (λ long. absurd (omega (arith, within, long, length-take (MAX_FILE + 1) bytes, ap length prefix)))
    (λ short. prefix ∙ take_all (MAX_FILE + 1) bytes (omega arith))
    (cases_lt MAX_FILE (length bytes))
