-- Enumerators, one more.
use Rattle.std.proofs.Common.{◌≡◌, ◌<◌, ◌+◌, ◌+ℤ◌, ℕ, ℤ, pos, true, cond, List, [], ◌∷◌, ◌++◌, length, take, drop, get_or, sym, ap, ◌∙◌, subst, append_assoc, append-nil, take-append-drop}
use Rattle.std.proofs.lemmas.Grind.{fold-append}
use Rattle.std.proofs.lemmas.List.{take_more, drop_more, get_or_default}
use Rattle.std.specs.List.{AllByRecursion}
use Rattle.tars_model.specs.Values.{is_signed}
use Rattle.tars_model.specs.declared.enum_desc.Item.{Item as Enumerator}
use Rattle.idl_parse.specs.declared.tree.decl.EnumItem.{EnumItem}
use Rattle.idl_scene.specs.Items.{word}
use Rattle.idl_scene.specs.Literals.{number_after, number_at, next_number, number_of_item}
use Rattle.idl_schema.specs.SchemaOf.{items_after}

abbrev item_at : List ℕ → List EnumItem → EnumItem → Enumerator
item_at text before i = record { name = word text i.name; number = number_of_item text before i }

items_append : (text : List ℕ) (before xs : List EnumItem) (x : EnumItem) → items_after text before (xs ++ x ∷ []) ≡ items_after text before xs ++ item_at text (before ++ xs) x ∷ []
items_append text before [] x = ap (λ b. item_at text b x ∷ []) (sym (append-nil before))
items_append text before (y ∷ xs) x =
    ap (λ (l : List Enumerator). item_at text before y ∷ l) (items_append text (before ++ y ∷ []) xs x
    ∙ ap (λ b. items_after text (before ++ y ∷ []) xs ++ item_at text b x ∷ []) (append_assoc before (y ∷ []) xs))

ints_parts : (text : List ℕ) (before xs : List EnumItem) (x : EnumItem) (ys : List EnumItem) → AllByRecursion (λ (i : Enumerator). is_signed 31 i.number ≡ true) (items_after text before (xs ++ x ∷ ys))
    → is_signed 31 (number_of_item text (before ++ xs) x) ≡ true
ints_parts text before [] x ys all = ap (λ b. is_signed 31 (number_of_item text b x)) (append-nil before) ∙ all.0
ints_parts text before (y ∷ xs) x ys all =
    ap (λ b. is_signed 31 (number_of_item text b x)) (sym (append_assoc before (y ∷ []) xs)) ∙ ints_parts text (before ++ y ∷ []) xs x ys all.1

module _ (text : List ℕ) (trees : List EnumItem) (i : ℕ) (tree : EnumItem) (within : i < length trees) (is : tree ≡ get_or trees i tree) where
  next_taken : take (i + 1) trees ≡ take i trees ++ tree ∷ []
  next_taken = take_more trees i tree within ∙ ap (λ e. take i trees ++ (e ∷ [])) (sym is)

  pub items_more : items_after text [] (take (i + 1) trees) ≡ items_after text [] (take i trees) ++ item_at text (take i trees) tree ∷ []
  items_more = ap (items_after text []) next_taken ∙ items_append text [] (take i trees) tree

  pub next_more : next_number text (take (i + 1) trees) ≡ number_after (number_of_item text (take i trees) tree)
  next_more = ap (next_number text) next_taken ∙ fold-append (λ next (i : EnumItem). number_after (number_at text next i.number)) (pos 0) (take i trees) (tree ∷ [])

  pub int_at : AllByRecursion (λ (i : Enumerator). is_signed 31 i.number ≡ true) (items_after text [] trees) → is_signed 31 (number_of_item text (take i trees) tree) ≡ true
  int_at all =
      ints_parts text [] (take i trees) tree (drop (i + 1) trees) (subst (λ l. AllByRecursion (λ (i : Enumerator). is_signed 31 i.number ≡ true) (items_after text [] l)) (sym split) all)
    where
      split : take i trees ++ tree ∷ drop (i + 1) trees ≡ trees
      split = ap (λ l. take i trees ++ l) (ap (λ x. x ∷ drop (i + 1) trees) is ∙ sym (drop_more trees i tree within)) ∙ take-append-drop i trees

after_int : (n : ℤ) → is_signed 31 n ≡ true → number_after n ≡ n +ℤ pos 1
after_int n e = ap (λ b. cond b (n +ℤ pos 1) (pos 0)) e

module _ (text : List ℕ) (trees : List EnumItem) (i : ℕ) (d : EnumItem) (within : i < length trees) (ints : AllByRecursion (λ (i : Enumerator). is_signed 31 i.number ≡ true) (items_after text [] trees))
    (next : ℤ) (numbered : next ≡ next_number text (take i trees)) where
  abbrev tree : EnumItem
  tree = get_or trees i d

  read : tree ≡ get_or trees i tree
  read = get_or_default trees i d tree within

  pub int_here : is_signed 31 (number_at text next tree.number) ≡ true
  int_here = ap (λ n. is_signed 31 (number_at text n tree.number)) numbered ∙ int_at text trees i tree within read ints

  pub made_more : (made : List Enumerator) (name : List ℕ) (number : ℤ) → made ≡ items_after text [] (take i trees) → name ≡ word text tree.name → number ≡ number_at text next tree.number
      → made ++ record { name = name; number = number } ∷ [] ≡ items_after text [] (take (i + 1) trees)
  made_more made name number so_far named is =
      ap (λ l. l ++ record { name = name; number = number } ∷ []) so_far ∙ ap (λ n. items_after text [] (take i trees) ++ record { name = n; number = number } ∷ []) named
      ∙ ap (λ n. items_after text [] (take i trees) ++ record { name = word text tree.name; number = n } ∷ []) (is ∙ ap (λ n. number_at text n tree.number) numbered)
      ∙ sym (items_more text trees i tree within read)

  pub numbered_more : (number after : ℤ) → number ≡ number_at text next tree.number → after ≡ number +ℤ pos 1 → after ≡ next_number text (take (i + 1) trees)
  numbered_more number after is one_more =
      one_more ∙ ap (λ n. n +ℤ pos 1) is ∙ sym (after_int (number_at text next tree.number) int_here) ∙ ap (λ n. number_after (number_at text n tree.number)) numbered
      ∙ sym (next_more text trees i tree within read)
