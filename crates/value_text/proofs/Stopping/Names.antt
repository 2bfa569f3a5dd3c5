-- Enumerators' names in which reading gets stuck.
use Rattle.std.proofs.Common.{◌≡◌, ◌≤◌, ◌⊎◌, inl, inr, ℕ, suc, ℤ, pos, Bool, true, false, ◌==◌, nat_le, max, cond, Option, Some, None, List, [], ◌∷◌, ◌++◌, length, take, drop, Err, refl, sym, ap, ◌∙◌, subst, append_assoc, arith}
use Rattle.std.proofs.lemmas.Bool.{and_parts, eqb-true}
use Rattle.std.proofs.lemmas.Bool.Decides.{nat_tests}
use Rattle.std.proofs.lemmas.List.{take-append-drop, take-append-le, length-take-le}
use Rattle.std.proofs.lemmas.List.Folds.{list_all-append}
use Rattle.std.proofs.lemmas.Slice.Eq.{bytes_eq-Decides}
use Rattle.std.specs.Char.{is_ascii_alphabetic}
use Rattle.std.specs.List.{list_all}
use Rattle.std.specs.Str.{bytes_eq}
use Rattle.idl_lex.specs.Bytes.{begins, is_word_byte}
use Rattle.idl_lex.specs.LexSteps.{run, after_run}
use Rattle.idl_lex.proofs.Lexing.Words.RunLaws.{take_is_run, run_whole, run_passes, run_over}
use Rattle.tars_model.specs.declared.enum_desc.Item.{Item}
use Rattle.value_text.specs.Answers.{IsEnd}
use Rattle.value_text.specs.ReadSteps.{common_len, longest_begun, word_len, named, name_at}
use Rattle.value_text.specs.Spelling.{number_named, NameSpells}
use Rattle.value_text.specs.declared.value_fault.ValueWhy.{ValueWhy}
use Rattle.value_text.specs.declared.value_fault.ValueWhy.TheVariants.{Unexpected}
use Rattle.value_text.proofs.Induction.{AllOf}
use Rattle.value_text.proofs.Moving.Runs.{run_stops, after_stops}
use Rattle.value_text.proofs.Opening.{number_begins, digit_no_letter}
use Rattle.value_text.proofs.Signs.{same_byte, false_is_not_true}
use Rattle.value_text.proofs.Stopping.Languages.{Language, Agrees, Stuck, Either, this, that, begins_alike}
use Rattle.value_text.proofs.Stopping.Numbers.{Numbers, nought}
use Rattle.value_text.proofs.Stopping.Signs.{stop, stops_so}

-- a letter, then letters, digits and `_`
pub record IsWord (name : List ℕ) : Type 0 where
  pub letter : begins is_ascii_alphabetic name ≡ true
  pub bytes : list_all is_word_byte name ≡ true

abbrev pub HasWord : Item → Type 0
HasWord item = IsWord item.name

abbrev pub Names : List Item → Language
Names items bytes rest = (n : ℤ) × NameSpells items n bytes rest

-- a number, by a name or by its digits
abbrev pub NamesOrNumbers : List Item → Language
NamesOrNumbers items = Either (Names items) Numbers

-- ---- bytes in common

common_within : (word name : List ℕ) → common_len word name ≤ length word
common_within [] name = omega arith
common_within (b ∷ word) [] = omega arith
common_within (b ∷ word) (a ∷ name) = by_test (a == b) (common_within word name)
  where
    by_test : (t : Bool) → common_len word name ≤ length word → cond t (suc (common_len word name)) 0 ≤ suc (length word)
    by_test true deeper = omega arith
    by_test false deeper = omega arith

common_same : (word name : List ℕ) → take (common_len word name) word ≡ take (common_len word name) name
common_same [] name = refl
common_same (b ∷ word) [] = refl
common_same (b ∷ word) (a ∷ name) = by_test (a == b) (eqb-true a b) (common_same word name)
  where
    by_test : (t : Bool) → (t ≡ true → a ≡ b) → take (common_len word name) word ≡ take (common_len word name) name → take (cond t (suc (common_len word name)) 0) (b ∷ word) ≡ take (cond t (suc (common_len word name)) 0) (a ∷ name)
    by_test true is deeper = ap (λ (l : List ℕ). b ∷ l) deeper ∙ ap (λ (c : ℕ). c ∷ take (common_len word name) name) (sym (is refl))
    by_test false is deeper = refl

common_more : (front : List ℕ) (b : ℕ) (x y : List ℕ) → suc (length front) ≤ common_len (front ++ b ∷ x) (front ++ b ∷ y)
common_more [] b x y = rw (same_byte b) (omega arith)
common_more (c ∷ front) b x y = let deeper = common_more front b x y in rw (same_byte c) (omega arith)

-- ---- the names

begun_within : (items : List Item) (word : List ℕ) → longest_begun items word ≤ length word
begun_within [] word = omega arith
begun_within (item ∷ items) word = greater (common_len word item.name) (longest_begun items word) (length word) (common_within word item.name) (begun_within items word)
  where
    greater : (a b n : ℕ) → a ≤ n → b ≤ n → max a b ≤ n
    greater a b n first second = grind (arith, nat_tests)

-- no name has more bytes in common with the word
begun_most : (items : List Item) (word name : List ℕ) (n : ℤ) → number_named items name ≡ Some n → common_len word name ≤ longest_begun items word
unfolding number_named
begun_most [] word name n e = absurd cc
begun_most (item ∷ items) word name n e = by_test (bytes_eq item.name name) (bytes_eq-Decides item.name name).0 (begun_most items word name n) e
  where
    first : (a b : ℕ) → a ≤ max a b
    first a b = grind (arith, nat_tests)

    later : (c a b : ℕ) → c ≤ b → c ≤ max a b
    later c a b h = grind (arith, nat_tests)

    by_test : (t : Bool) → (t ≡ true → item.name ≡ name) → (number_named items name ≡ Some n → common_len word name ≤ longest_begun items word) → cond t (Some item.number) (number_named items name) ≡ Some n → common_len word name ≤ max (common_len word item.name) (longest_begun items word)
    by_test true is deeper e = subst (λ (l : List ℕ). common_len word l ≤ max (common_len word item.name) (longest_begun items word)) (is refl) (first (common_len word item.name) (longest_begun items word))
    by_test false is deeper e = later (common_len word name) (common_len word item.name) (longest_begun items word) (deeper e)

-- a name that has as many
record Begun (items : List Item) (word : List ℕ) : Type 0 where
  name : List ℕ
  long : common_len word name ≡ longest_begun items word
  number : ℤ
  has_number : number_named items name ≡ Some number
  is_word : IsWord name

begun : (items : List Item) (word : List ℕ) → AllOf HasWord items → (longest_begun items word ≡ 0) ⊎ Begun items word
unfolding number_named
begun [] word all = inl refl
begun (item ∷ items) word all = by_longer (nat_le (common_len word item.name) (longest_begun items word)) refl (begun items word all.1)
  where
    second : (a b : ℕ) → nat_le a b ≡ true → max a b ≡ b
    second a b h = grind (arith, nat_tests)

    first : (a b : ℕ) → nat_le a b ≡ false → a ≡ max a b
    first a b h = grind (arith, nat_tests)

    found : (name : List ℕ) (n : ℤ) → number_named items name ≡ Some n → (t : Bool) → (m : ℤ) × (cond t (Some item.number) (number_named items name) ≡ Some m)
    found name n is true = (item.number, refl)
    found name n is false = (n, is)

    by_longer : (t : Bool) → nat_le (common_len word item.name) (longest_begun items word) ≡ t → (longest_begun items word ≡ 0) ⊎ Begun items word → (longest_begun (item ∷ items) word ≡ 0) ⊎ Begun (item ∷ items) word
    by_longer true longer (inl none) = inl (second (common_len word item.name) (longest_begun items word) longer ∙ none)
    by_longer true longer (inr g) =
        let number = found g.name g.number g.has_number (bytes_eq item.name g.name) in
        inr (record { name = g.name; long = g.long ∙ sym (second (common_len word item.name) (longest_begun items word) longer); number = number.0; has_number = number.1; is_word = g.is_word })
    by_longer false longer deeper =
        inr (record { name = item.name; long = first (common_len word item.name) (longest_begun items word) longer; number = item.number; has_number = rw ((bytes_eq-Decides item.name item.name).1 refl) refl; is_word = all.0 })

-- ---- where a name stops

-- a word that is no name, and what of it some name begins with
record Unnamed (items : List Item) (bytes left : List ℕ) : Type 0 where
  front : List ℕ
  is : bytes ≡ front ++ left
  passes : list_all is_word_byte front ≡ true
  long : length front ≡ longest_begun items (run is_word_byte bytes)
  begins_word : front ≡ take (longest_begun items (run is_word_byte bytes)) (run is_word_byte bytes)
  no_number : number_named items (run is_word_byte bytes) ≡ None

name_stops : (items : List Item) (bytes left : List ℕ) (why : ValueWhy) → name_at items bytes ≡ Err (stop left why) → (number_named items (run is_word_byte bytes) ≡ None) × (left ≡ drop (longest_begun items (run is_word_byte bytes)) bytes)
unfolding name_at
name_stops items bytes left why e =
    subst (λ (word : List ℕ). (number_named items word ≡ None) × (left ≡ drop (longest_begun items word) bytes)) (take_is_run is_word_byte bytes)
    (by_found (number_named items (take (word_len bytes) bytes)) refl e)
  where
    by_found : (o : Option ℤ) → number_named items (take (word_len bytes) bytes) ≡ o → named o items (word_len bytes) bytes ≡ Err (stop left why)
        → (number_named items (take (word_len bytes) bytes) ≡ None) × (left ≡ drop (longest_begun items (take (word_len bytes) bytes)) bytes)
    by_found (Some n) found e = absurd cc
    by_found None found e = (found, sym (stops_so {A = ℤ × List ℕ} (drop (longest_begun items (take (word_len bytes) bytes)) bytes) left Unexpected why e).0)

prefix_passes : (test : ℕ → Bool) (n : ℕ) (word : List ℕ) → list_all test word ≡ true → list_all test (take n word) ≡ true
prefix_passes test n word all = (and_parts (list_all test (take n word)) (list_all test (drop n word)) (sym (list_all-append test (take n word) (drop n word)) ∙ ap (list_all test) (take-append-drop n word) ∙ all)).0

unnamed : (items : List Item) (bytes left : List ℕ) (why : ValueWhy) → name_at items bytes ≡ Err (stop left why) → Unnamed items bytes left
unnamed items bytes left why e =
    let stops = name_stops items bytes left why e in
    let word : List ℕ = run is_word_byte bytes in
    let count : ℕ = longest_begun items word in
    let few = begun_within items word in
    record {
      front = take count word;
      is = sym (take-append-drop count bytes) ∙ ap (λ (l : List ℕ). l ++ drop count bytes) (ap (take count) (sym (run_whole is_word_byte bytes)) ∙ take-append-le count word (after_run is_word_byte bytes) few) ∙ ap (λ (l : List ℕ). take count word ++ l) (sym stops.1);
      passes = prefix_passes is_word_byte count word (run_passes is_word_byte bytes);
      long = length-take-le count word few;
      begins_word = refl;
      no_number = stops.0;
    }

abbrev number_none : Option ℤ
number_none = None

none_found : (n : ℤ) → number_none ≡ Some n → ⊥
none_found n e = cc

-- with another byte after it there is no name either
not_named : (items : List Item) (front left other : List ℕ) (n : ℤ) → number_named items (front ++ run is_word_byte left) ≡ None → length front ≡ longest_begun items (front ++ run is_word_byte left)
    → Agrees left other → number_named items (front ++ run is_word_byte other) ≡ Some n → ⊥
not_named items front [] other n none long agree found = none_found n (sym none ∙ ap (λ (o : List ℕ). number_named items (front ++ run is_word_byte o)) (sym agree) ∙ found)
not_named items front (b ∷ left) other n none long agree found = by_test (is_word_byte b) none long (ap (λ (o : List ℕ). number_named items (front ++ run is_word_byte o)) (sym agree.1) ∙ found)
  where
    by_test : (t : Bool) → number_named items (front ++ cond t (b ∷ run is_word_byte left) []) ≡ None → length front ≡ longest_begun items (front ++ cond t (b ∷ run is_word_byte left) [])
        → number_named items (front ++ cond t (b ∷ run is_word_byte agree.0) []) ≡ Some n → ⊥
    by_test true none long found =
        let most = begun_most items (front ++ b ∷ run is_word_byte left) (front ++ b ∷ run is_word_byte agree.0) n found in
        let more = common_more front b (run is_word_byte left) (run is_word_byte agree.0) in
        omega arith
    by_test false none long found = cc

-- ---- names that go on

name_spelled : (items : List Item) (name tail : List ℕ) (n : ℤ) → IsWord name → number_named items name ≡ Some n → IsEnd tail → NameSpells items n (name ++ tail) tail
name_spelled items name tail n word found ends =
    record {
      letter = first name word.letter;
      named = ap (number_named items) (run_stops is_word_byte name tail word.bytes ends) ∙ found;
      after = sym (after_stops is_word_byte name tail word.bytes ends);
    }
  where
    first : (name : List ℕ) → begins is_ascii_alphabetic name ≡ true → begins is_ascii_alphabetic (name ++ tail) ≡ true
    first [] h = absurd cc
    first (b ∷ name) h = h

-- some name or number goes on after it
record Ongoing (items : List Item) (front : List ℕ) : Type 0 where
  more : List ℕ
  goes_on : (tail : List ℕ) → IsEnd tail → NamesOrNumbers items (front ++ (more ++ tail)) tail

ongoing : (items : List Item) (bytes left : List ℕ) (u : Unnamed items bytes left) → (longest_begun items (run is_word_byte bytes) ≡ 0) ⊎ Begun items (run is_word_byte bytes) → Ongoing items u.front
ongoing items bytes left u (inl none) =
    let empty : [] ≡ u.front = sym (u.begins_word ∙ ap (λ (k : ℕ). take k (run is_word_byte bytes)) none) in
    record { more = 48 ∷ []; goes_on = λ tail ends. subst (λ (f : List ℕ). NamesOrNumbers items (f ++ (48 ∷ tail)) tail) empty (that (pos 0, nought tail)) }
ongoing items bytes left u (inr g) =
    let word : List ℕ = run is_word_byte bytes in
    let count : ℕ = longest_begun items word in
    let front_is : u.front ≡ take count g.name = u.begins_word ∙ subst (λ (k : ℕ). take k word ≡ take k g.name) g.long (common_same word g.name) in
    let whole : (tail : List ℕ) → u.front ++ (drop count g.name ++ tail) ≡ g.name ++ tail =
    λ tail. ap (λ (f : List ℕ). f ++ (drop count g.name ++ tail)) front_is ∙ sym (append_assoc (take count g.name) (drop count g.name) tail) ∙ ap (λ (l : List ℕ). l ++ tail) (take-append-drop count g.name) in
    record {
      more = drop count g.name;
      goes_on = λ tail ends. subst (λ (l : List ℕ). NamesOrNumbers items l tail) (sym (whole tail)) (this (g.number, name_spelled items g.name tail g.number g.is_word g.has_number ends));
    }

pub stuck_in_name : (items : List Item) → AllOf HasWord items → (bytes left : List ℕ) (why : ValueWhy) → begins is_ascii_alphabetic bytes ≡ true → name_at items bytes ≡ Err (stop left why) → Stuck IsEnd (NamesOrNumbers items) bytes left
stuck_in_name items all bytes left why letter e = stuck (unnamed items bytes left why e)
  where
    stuck : Unnamed items bytes left → Stuck IsEnd (NamesOrNumbers items) bytes left
    stuck u = let on = ongoing items bytes left u (begun items (run is_word_byte bytes) all) in record { front = u.front; is = u.is; more = on.more; goes_on = on.goes_on; blocked = blocked }
      where
        word_is : run is_word_byte bytes ≡ u.front ++ run is_word_byte left
        word_is = ap (run is_word_byte) u.is ∙ run_over is_word_byte u.front left u.passes

        blocked : (bs rest : List ℕ) → Agrees left bs → NamesOrNumbers items (u.front ++ bs) rest → ⊥
        blocked bs rest agree (this s) =
            not_named items u.front left bs s.0 (ap (number_named items) (sym word_is) ∙ u.no_number) (u.long ∙ ap (longest_begun items) word_is) agree
            (ap (number_named items) (sym (run_over is_word_byte u.front bs u.passes)) ∙ s.1.named)
        blocked bs rest agree (that s) =
            false_is_not_true (sym (number_begins is_ascii_alphabetic digit_no_letter refl s.0 (u.front ++ bs) rest s.1)
            ∙ begins_alike is_ascii_alphabetic u.front left bs agree ∙ ap (begins is_ascii_alphabetic) (sym u.is) ∙ letter)
