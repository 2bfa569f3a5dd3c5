-- Lists of names in which no rule finds anything.
use Rattle.std.proofs.Common.{◌≡◌, ◌≢◌, ◌<◌, ◌≤◌, ◌+◌, ℕ, Bool, true, false, ◌||◌, Option, Some, List, [], ◌∷◌, ◌++◌, length, refl, sym, ap, ◌∙◌, arith, length-append}
use Rattle.std.proofs.lemmas.Bool.Decides.{nat_tests}
use Rattle.std.proofs.lemmas.Slice.Eq.{bytes_eq-Decides}
use Rattle.std.specs.List.{AllByRecursion, list_any}
use Rattle.std.specs.Prelude.{nat_le}
use Rattle.std.specs.Str.{bytes_eq}
use Rattle.least_fault.specs.Conditions.{found_after}
use Rattle.least_fault.proofs.Walks.{nothing_in}
use Rattle.tars_model.specs.Names.{IsName}
use Rattle.idl_parse.specs.TreeSpans.{NameIn}
use Rattle.idl_lex.specs.declared.span.Span.{Span}
use Rattle.idl_scene.specs.Items.{word}
use Rattle.idl_scene.specs.Known.{Scene}
use Rattle.idl_scene.specs.declared.check_fault.CheckWhy.TheVariants.{TwiceName, BadIdentifier, TooMany}
use Rattle.idl_rules.specs.Parts.{NameList, name_list}
use Rattle.idl_rules.specs.Rules.{reserved, twice_in_list, reserved_in_list, too_many_in_list, is_full}
use Rattle.idl_schema.proofs.NameFits.{name_fits}
use Rattle.idl_schema.proofs.Nothing.{passed, alone_nothing}
use Rattle.idl_schema.proofs.Parts.{each_both, each_weaker, Apart, apart_nothing, Others}

neither : (a b : Bool) → (a || b) ≡ false → (a ≡ false) × (b ≡ false)
neither true b e = cc
neither false b e = (refl, e)

pub none_any : {X : Type 0} (test : X → Bool) (xs : List X) → list_any test xs ≡ false → AllByRecursion (λ x. test x ≡ false) xs
none_any test [] e = tt
none_any test (x ∷ xs) e = let two = neither (test x) (list_any test xs) e in (two.0, none_any test xs two.1)

clash : {A : Type 0} (b : Bool) → b ≡ true → b ≡ false → A
clash true a b = absurd cc
clash false a b = absurd cc

pub other_bytes : (a b : List ℕ) → bytes_eq a b ≡ false → b ≢ a
other_bytes a b e = λ is. clash (bytes_eq a b) ((bytes_eq-Decides a b).1 (sym is)) e

module _ (s : Scene) where
  pub free_name : (name : Span) → NameIn s.text name → reserved s name ≡ [] → IsName (word s.text name)
  free_name name at e = name_fits s.text name at (passed _ s.file name.start BadIdentifier e)

  pub free_names : (most : Option ℕ) (names : List Span) → AllByRecursion (NameIn s.text) names → found_after (reserved_in_list s (name_list true most names)) [] names ≡ [] → AllByRecursion (λ n. IsName (word s.text n)) names
  free_names most names at e =
      each_both (NameIn s.text) (λ n. reserved s n ≡ []) (λ n. IsName (word s.text n)) free_name names at (alone_nothing (reserved s) [] names e)

  abbrev pub OtherWord : Span → Span → Type 0
  OtherWord a b = Others (word s.text a) (word s.text b)

  pub names_apart : (list : NameList) (names : List Span) → found_after (twice_in_list s list) [] names ≡ [] → Apart OtherWord names
  names_apart list names e = apart_nothing (twice_in_list s list) OtherWord says names e
    where
      says : (before : List Span) (name : Span) → twice_in_list s list before name ≡ [] → AllByRecursion (λ e. OtherWord e name) before
      says before name e =
          each_weaker (λ (x : Span). bytes_eq (word s.text name) (word s.text x) ≡ false) (λ x. OtherWord x name) (λ x no is. other_bytes (word s.text name) (word s.text x) no (sym is)) before
          (none_any (λ (x : Span). bytes_eq (word s.text name) (word s.text x)) before (passed _ s.file name.start TwiceName e))

  less_than : (most n : ℕ) → nat_le most n ≡ false → n < most
  less_than most n e = grind (arith, nat_tests)

  few_after : (list : NameList) (most : ℕ) → list.most ≡ Some most → (before names : List Span) → length before ≤ most → found_after (too_many_in_list s list) before names ≡ [] → length before + length names ≤ most
  few_after list most is before [] so_far e = omega arith
  few_after list most is before (name ∷ names) so_far e =
      let two = nothing_in (too_many_in_list s list before name) (found_after (too_many_in_list s list) (before ++ name ∷ []) names) e in
      let open_here : is_full (Some most) (length before) ≡ false = ap (λ o. is_full o (length before)) (sym is) ∙ passed _ s.file name.start TooMany two.0 in
      let less : length before < most = less_than most (length before) open_here in
      let longer : length (before ++ name ∷ []) ≡ length before + 1 = length-append before (name ∷ []) in
      let rest = few_after list most is (before ++ name ∷ []) names (omega arith) two.1 in
      omega arith

  pub few_names : (list : NameList) (most : ℕ) → list.most ≡ Some most → (names : List Span) → found_after (too_many_in_list s list) [] names ≡ [] → length names ≤ most
  few_names list most is names e = let few = few_after list most is [] names (omega arith) e in omega arith
