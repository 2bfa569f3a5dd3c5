-- Names that may be declared are not reserved, and lists of them have no fault.
use Rattle.std.proofs.Common.{◌≡◌, ◌≢◌, ◌<◌, ◌≤◌, ◌+◌, ℕ, Bool, true, false, ◌||◌, Option, Some, None, List, [], ◌∷◌, ◌++◌, length, drop, map, refl, sym, ap, ◌∙◌, subst, arith, codes, length-append}
use Rattle.std.proofs.lemmas.Bool.Decides.{nat_tests, Decides-eqb}
use Rattle.std.proofs.lemmas.List.{length-map}
use Rattle.std.proofs.lemmas.Slice.Eq.{bytes_eq-Decides, starts_is}
use Rattle.std.specs.List.{AllByRecursion, starts_with}
use Rattle.std.specs.Prelude.{nat_eq}
use Rattle.std.specs.Str.{bytes_eq}
use Rattle.least_fault.specs.Conditions.{found_after}
use Rattle.tars_model.specs.Names.{IsName, AllDiffer}
use Rattle.idl_lex.specs.declared.span.Span.{Span}
use Rattle.idl_scene.specs.Items.{word}
use Rattle.idl_scene.specs.Known.{Scene}
use Rattle.idl_scene.specs.declared.check_fault.CheckWhy.TheVariants.{TwiceName, BadIdentifier, TooMany}
use Rattle.idl_scene.specs.declared.check_fault.Fault.{Fault}
use Rattle.idl_rules.specs.Parts.{NameList, name_list}
use Rattle.idl_rules.specs.Rules.{is_reserved, reserved, twice_in_list, reserved_in_list, too_many_in_list, is_full}
use Rattle.idl_schema.proofs.Parts.{each_weaker, each_of_map, apart_of_map, Others}
use Rattle.idl_check.proofs.Finding.{both_nothing, no_fault_if, alone_finds, none_of, apart_finds, names_apart}

-- ---- reserved words

not_first : (b : ℕ) (bytes : List ℕ) → ((before after : List ℕ) → b ∷ bytes ≢ before ++ (codes "tars_" ++ after)) → (t : Bool) → starts_with nat_eq (b ∷ bytes) (codes "tars_") ≡ t → t ≡ false
not_first b bytes free false e = refl
not_first b bytes free true e = absurd (free [] (drop 5 (b ∷ bytes)) ((starts_is Decides-eqb (b ∷ bytes) (codes "tars_") true (sym e)).0 refl))

not_later : (b : ℕ) (bytes : List ℕ) → ((before after : List ℕ) → b ∷ bytes ≢ before ++ (codes "tars_" ++ after)) → (before after : List ℕ) → bytes ≢ before ++ (codes "tars_" ++ after)
not_later b bytes free before after e = free (b ∷ before) after (ap (λ l. b ∷ l) e)

not_reserved : (bytes : List ℕ) → ((before after : List ℕ) → bytes ≢ before ++ (codes "tars_" ++ after)) → is_reserved bytes ≡ false
not_reserved [] free = refl
not_reserved (b ∷ bytes) free = ap (λ t. t || is_reserved bytes) (not_first b bytes free (starts_with nat_eq (b ∷ bytes) (codes "tars_")) refl) ∙ not_reserved bytes (not_later b bytes free)

pub free_word : (bytes : List ℕ) → IsName bytes → is_reserved bytes ≡ false
free_word bytes is = not_reserved bytes is.not_reserved

-- ---- tests of bytes

pub bytes_differ : (a b : List ℕ) → b ≢ a → bytes_eq a b ≡ false
bytes_differ a b other = by_test (bytes_eq a b) (bytes_eq-Decides a b).0
  where
    by_test : (t : Bool) → (t ≡ true → a ≡ b) → t ≡ false
    by_test false same = refl
    by_test true same = absurd (other (sym (same refl)))

-- ---- lists of names

abbrev no_faults : Span → List Fault
no_faults name = []

no_faults_each : (names : List Span) → AllByRecursion (λ n. no_faults n ≡ []) names
no_faults_each [] = tt
no_faults_each (n ∷ names) = (refl, no_faults_each names)

module _ (s : Scene) where
  -- the words at the spans
  abbrev pub words_at : List Span → List (List ℕ)
  words_at names = map (word s.text) names

  pub free_here : (name : Span) → IsName (word s.text name) → reserved s name ≡ []
  free_here name is = no_fault_if (is_reserved (word s.text name)) s.file name.start BadIdentifier (free_word (word s.text name) is)

  pub none_reserved : (declares : Bool) (most : Option ℕ) (names : List Span) → (declares ≡ true → AllByRecursion IsName (words_at names)) → found_after (reserved_in_list s (name_list declares most names)) [] names ≡ []
  none_reserved true most names are = alone_finds (reserved s) [] names (each_weaker (λ n. IsName (word s.text n)) (λ n. reserved s n ≡ []) free_here names (each_of_map IsName (word s.text) names (are refl)))
  none_reserved false most names are = alone_finds no_faults [] names (no_faults_each names)

  pub none_twice : (list : NameList) (names : List Span) → AllDiffer (words_at names) → found_after (twice_in_list s list) [] names ≡ []
  none_twice list names differ =
      apart_finds (twice_in_list s list) (λ a b. Others (word s.text a) (word s.text b)) says names (apart_of_map Others (word s.text) names (names_apart (words_at names) differ))
    where
      says : (before : List Span) (name : Span) → AllByRecursion (λ (e : Span). Others (word s.text e) (word s.text name)) before → twice_in_list s list before name ≡ []
      says before name apart =
          no_fault_if _ s.file name.start TwiceName (none_of (λ (e : Span). bytes_eq (word s.text name) (word s.text e)) before
          (each_weaker (λ (e : Span). Others (word s.text e) (word s.text name)) (λ (e : Span). bytes_eq (word s.text name) (word s.text e) ≡ false)
          (λ e other. bytes_differ (word s.text name) (word s.text e) (λ is. other (sym is))) before apart))

  -- how many there may be
  abbrev pub Few : Option ℕ → ℕ → Type 0
  Few None count = Unit {0}
  Few (Some most) count = count ≤ most

  open_at : (most : Option ℕ) (count all : ℕ) → count < all → Few most all → is_full most count ≡ false
  open_at None count all less few = refl
  open_at (Some most) count all less few = grind (arith, nat_tests)

  few_after : (list : NameList) (before names : List Span) → Few list.most (length before + length names) → found_after (too_many_in_list s list) before names ≡ []
  few_after list before [] few = refl
  few_after list before (name ∷ names) few =
      let more = length-append before (name ∷ []) in
      let same : length before + length (name ∷ names) ≡ length (before ++ name ∷ []) + length names = omega arith in
      both_nothing (too_many_in_list s list before name) (found_after (too_many_in_list s list) (before ++ name ∷ []) names)
      (no_fault_if _ s.file name.start TooMany (open_at list.most (length before) (length before + length (name ∷ names)) (omega arith) few))
      (few_after list (before ++ name ∷ []) names (subst (Few list.most) same few))

  pub few_enough : (list : NameList) (names : List Span) → Few list.most (length (words_at names)) → found_after (too_many_in_list s list) [] names ≡ []
  few_enough list names few =
      let count = length-map names (word s.text) in
      let same : length (words_at names) ≡ length {A = Span} [] + length names = omega arith in
      few_after list [] names (subst (Few list.most) same few)
