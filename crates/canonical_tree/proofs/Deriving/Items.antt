-- The pieces of enumerators derive trees that say them. Each is followed by a comma, and the grammar takes the last one alone.
use Rattle.std.proofs.Common.{◌≡◌, ℕ, List, [], ◌∷◌, ◌++◌, refl, sym, ap, subst, flat_map, true, All}
use Rattle.std.specs.Fmt.{signed_decimal}
use Rattle.std.specs.List.{AllByRecursion}
use Rattle.tars_model.specs.Names.{IsName}
use Rattle.tars_model.specs.Values.{is_signed}
use Rattle.tars_model.specs.declared.enum_desc.Item.{Item}
use Rattle.idl_parse.specs.Grammar as grammar
use Rattle.idl_parse.specs.Grammar.{Mark}
use Rattle.idl_parse.specs.Rules.{◌⟫◌}
use Rattle.idl_lex.specs.declared.sign.Sign.TheVariants as signs
use Rattle.canonical_tree.specs.Pieces.{Piece, mark, ident, number, space, line_end, deep_indent, item_pieces}
use Rattle.canonical_tree.specs.Says.{Pairwise, ItemSays}
use Rattle.canonical_tree.proofs.Deriving.Kit.{Derives, done, past, one, spanned, part, regroup, given, present, in_left, in_right, many}
use Rattle.canonical_tree.proofs.Lists.{each_of_both}
use Rattle.canonical_tree.proofs.Deriving.Literals.{int_long}
use Rattle.canonical_tree.proofs.Deriving.Words.{IsLong, name_says, number_says}

-- an enumerator without its comma
item_core : Item → List Piece
item_core i = deep_indent ∷ ident i.name ∷ space ∷ mark signs.Equals ∷ space ∷ number (signed_decimal i.number) ∷ []

-- the comma and line end before one that is not the first
next_core : Item → List Piece
unfolding item_core
next_core i = mark signs.Comma ∷ line_end ∷ item_core i

last_comma : List Piece
last_comma = mark signs.Comma ∷ line_end ∷ []

commas_between : (i : Item) (items : List Item) → flat_map item_pieces (i ∷ items) ≡ item_core i ++ (flat_map next_core items ++ last_comma)
unfolding item_core next_core last_comma item_pieces
commas_between i [] = refl
commas_between i (j ∷ items) = ap (λ ps. item_pieces i ++ ps) (commas_between j items)

record ItemFits (i : Item) : Type 0 where
  name : IsName i.name
  number : IsLong i.number

module _ (text : List ℕ) where
  item : (i : Item) → ItemFits i → Derives text grammar.Item (ItemSays text i) (item_core i)
  unfolding item_core
  item i fits =
      past (spanned (λ name is_name. past (present (regroup (one (λ _ _ _. past (spanned (λ number is_number.
      done (record { name = name_says fits.name is_name; span = number; written = refl; number = number_says i.number fits.number is_number })))))))))

  next_item : (i : Item) → ItemFits i → Derives text (Mark signs.Comma ⟫ λ _. grammar.Item) (ItemSays text i) (next_core i)
  unfolding next_core
  next_item i fits = one (λ _ _ _. past (item i fits))

  items : (is : List Item) → AllByRecursion ItemFits is → Derives text grammar.Items (Pairwise (ItemSays text) is) (flat_map item_pieces is)
  unfolding last_comma
  items [] all = in_right (done tt)
  items (i ∷ is) all =
      subst (Derives text grammar.Items (Pairwise (ItemSays text) (i ∷ is))) (sym (commas_between i is))
      (in_left (regroup (part (item i all.0) (λ tree said. regroup (part (many ItemFits (ItemSays text) next_core next_item is all.1) (λ trees others.
      given (present (one (λ _ _ _. past (done (said, others)))))))))))

  pub items_derive : (is : List Item) → All (λ (i : Item). IsName i.name) is → All (λ (i : Item). is_signed 31 i.number ≡ true) is → Derives text grammar.Items (Pairwise (ItemSays text) is) (flat_map item_pieces is)
  items_derive is names numbers =
      items is (each_of_both (λ (i : Item). IsName i.name) (λ (i : Item). is_signed 31 i.number ≡ true) ItemFits (λ i name small. record { name = name; number = int_long i.number small }) is names numbers)
