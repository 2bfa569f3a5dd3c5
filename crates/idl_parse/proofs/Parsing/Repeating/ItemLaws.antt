-- The enumerators of an enum, after the last of which a comma may stand.
use Rattle.std.proofs.Common.{◌≡◌, ℕ, zero, suc, ◌<◌, ◌≤◌, Bool, true, false, cond, Ok, Err, List, [], ◌∷◌, length, refl, ap, ◌∙◌, arith, inl, inr}
use Rattle.facts.specs.ResultSteps.{◌>>=◌}
use Rattle.facts.proofs.ResultLaws.{bind_assoc, bind_gave, bind_same_after}
use Rattle.std.proofs.lemmas.Bool.{cases_Bool}
use Rattle.idl_parse.specs.Grammar.{Mark, Number, Item}
use Rattle.idl_parse.specs.KindSteps.{same_kind, holds, begins}
use Rattle.idl_parse.specs.ReadSteps.{Read, mark_at, item_number_at, item_at, item_comma_at, items_at}
use Rattle.idl_parse.specs.Rules.{Rel, Gives, ◌⟫◌, Either}
use Rattle.idl_lex.specs.declared.kind.Kind.TheVariants as kinds
use Rattle.idl_lex.specs.declared.sign.Sign.TheVariants.{CloseBrace, Comma, Equals}
use Rattle.idl_lex.specs.declared.token.Token.{Token}
use Rattle.idl_parse.specs.declared.tree.decl.EnumItem.{EnumItem}
use Rattle.idl_parse.proofs.Parsing.Combining.Choice.{choose, one_kind, filled_by_first}
use Rattle.idl_parse.proofs.Parsing.Combining.Combine.{next, done, either, maybe}
use Rattle.idl_parse.proofs.Parsing.Combining.InOrder.{then, in_order}
use Rattle.idl_parse.proofs.Parsing.Combining.Leaves.{giving, single, one}
use Rattle.idl_parse.proofs.Parsing.Deriving.Literals.{name, spanned}
use Rattle.idl_parse.specs.ReadSteps.{Shrinks}
use Rattle.idl_parse.proofs.Parsing.Repeating.Loops.{cond_same, one_turn, until_turn}
use Rattle.idl_parse.proofs.Parsing.Combining.Readers.{Reader, Shape, Filled, Reads, of_no_length}
use Rattle.idl_parse.proofs.Parsing.Combining.Rearranged.{ItemsClosed, items_there, items_back, related}
use Rattle.idl_parse.proofs.Parsing.Combining.Regroup.{same_reader}
use Rattle.idl_parse.proofs.Parsing.Repeating.Until.{shrinks_by}

module _ (k n : ℕ) where
  item_number : Reads k (suc n) (suc n) 0 0 (one_kind (kinds.Sign Equals) []) (Mark Equals ⟫ λ _. Number) (λ m. item_number_at)
  unfolding item_number_at
  item_number = let r = next refl (one k (suc n) (suc n) 0 0 (kinds.Sign Equals) (omega arith) refl) (λ _. spanned k (suc n) (suc n) 0 (omega arith) kinds.Number refl) in r

  pub item : Reads k (suc n) (suc n) 0 0 (one_kind kinds.Ident (kinds.Sign Equals ∷ [])) Item (λ m. item_at)
  unfolding item_at holds same_kind
  item = let r = next refl (name k (suc n) (suc n) 0 (omega arith)) (λ name. next refl (maybe item_number) (λ number. done (record { name = name; number = number }))) in r

  brace : Reads k (suc n) (suc n) 0 0 (single (kinds.Sign CloseBrace ∷ [])) (Mark CloseBrace) (λ m. mark_at CloseBrace)
  brace = one k (suc n) (suc n) 0 0 (kinds.Sign CloseBrace) (omega arith) refl

  comma : Reads k (suc n) (suc n) 0 0 (single (kinds.Sign Comma ∷ [])) (Mark Comma) (λ m. mark_at Comma)
  comma = one k (suc n) (suc n) 0 0 (kinds.Sign Comma) (omega arith) refl

  closing : (xs : List EnumItem) → Reads k (suc n) (suc n) 0 0 (one_kind (kinds.Sign CloseBrace) []) (Mark CloseBrace ⟫ λ _. Gives xs) (then (λ m. mark_at CloseBrace) (λ _. giving xs))
  closing xs = next refl brace (λ _. done xs)

-- ---- the loop's turn

item_shrinks : Shrinks item_at
item_shrinks = shrinks_by 1 1 0 0 (kinds.Ident ∷ []) (kinds.Sign Equals ∷ []) Item (λ m. item_at) (λ k. item k 0)

comma_shrinks : Shrinks (mark_at Comma)
comma_shrinks = shrinks_by 1 1 0 0 (kinds.Sign Comma ∷ []) [] (Mark Comma) (λ m. mark_at Comma) (λ k. comma k 0)

abbrev after_item : EnumItem × List Token → Read EnumItem
after_item item = cond (begins (kinds.Sign CloseBrace) item.1) (Ok item) (mark_at Comma item.1 >>= λ comma. Ok (item.0, comma.1))

abbrev read_item : EnumItem → List Token → Read EnumItem
read_item x rest = Ok (x, rest)

same_rest : {x y : EnumItem} {ts us : List Token} → read_item x ts ≡ read_item y us → ts ≡ us
same_rest {x = x} {ts = ts} e = ap (rest_or ts) e
  where
    rest_or : List Token → Read EnumItem → List Token
    rest_or d (Ok p) = p.1
    rest_or d (Err s) = d

after_item_short : (item : EnumItem × List Token) (x : EnumItem) (rest : List Token) → after_item item ≡ Ok (x, rest) → length rest ≤ length item.1
after_item_short item x rest e = by_test (begins (kinds.Sign CloseBrace) item.1) e
  where
    by_test : (b : Bool) → cond b (read_item item.0 item.1) (mark_at Comma item.1 >>= λ comma. Ok (item.0, comma.1)) ≡ Ok (x, rest) → length rest ≤ length item.1
    by_test true e = let q : length item.1 ≡ length rest = ap length (same_rest e) in omega arith
    by_test false e =
        let p = bind_gave (mark_at Comma item.1) (λ comma. Ok (item.0, comma.1)) (x, rest) e in
        let less : length p.0.1 < length item.1 = comma_shrinks item.1 p.0.0 p.0.1 p.1 in
        let q : length p.0.1 ≡ length rest = ap length (same_rest p.2) in
        omega arith

pub item_comma_shrinks : Shrinks item_comma_at
unfolding item_comma_at
item_comma_shrinks ts x rest e =
    let p = bind_gave (item_at ts) after_item (x, rest) e in
    let less : length p.0.1 < length ts = item_shrinks ts p.0.0 p.0.1 p.1 in
    let short : length rest ≤ length p.0.1 = after_item_short p.0 x rest p.2 in
    omega arith

abbrev all_items : EnumItem × List Token → Read (List EnumItem)
all_items item = items_at item.1 >>= λ items. Ok (item.0 ∷ items.0, items.1)

abbrev items_turn : Reader (List EnumItem)
items_turn =
    choose (kinds.Sign CloseBrace) (then (λ m. mark_at CloseBrace) (λ _. giving []))
    (then (λ m. item_at) (λ x. choose (kinds.Sign CloseBrace) (then (λ m. mark_at CloseBrace) (λ _. giving (x ∷ [])))
    (then (λ m. mark_at Comma) (λ _. then (λ m. items_at) (λ xs. giving (x ∷ xs))))))

items_by_turn : (ts : List Token) → items_at ts ≡ one_turn CloseBrace item_comma_at items_at ts
unfolding items_at
items_by_turn ts = until_turn CloseBrace item_comma_at item_comma_shrinks ts

items_closed : (ts : List Token) → begins (kinds.Sign CloseBrace) ts ≡ true → items_at ts ≡ (mark_at CloseBrace ts >>= λ close. Ok ([], close.1))
items_closed ts b = items_by_turn ts ∙ ap (λ t. cond t (mark_at CloseBrace ts >>= λ close. Ok ([], close.1)) (item_comma_at ts >>= all_items)) b

after_item_turn : (m : ℕ) (item : EnumItem × List Token) → (after_item item >>= all_items) ≡ choose (kinds.Sign CloseBrace) (then (λ m. mark_at CloseBrace) (λ _. giving (item.0 ∷ []))) (then (λ m. mark_at Comma) (λ _. then (λ m. items_at) (λ xs. giving (item.0 ∷ xs)))) m item.1
after_item_turn m item =
    elim (cases_Bool (begins (kinds.Sign CloseBrace) item.1)) [
      | inl b ↦ rw (b, items_closed item.1 b) (bind_assoc (mark_at CloseBrace item.1) (λ close. Ok ([], close.1)) (λ items. Ok (item.0 ∷ items.0, items.1)))
      | inr b ↦ rw b (bind_assoc (mark_at Comma item.1) (λ comma. Ok (item.0, comma.1)) all_items)
    ]

items_at_turn : (m : ℕ) (ts : List Token) → items_at ts ≡ items_turn m ts
unfolding item_comma_at
items_at_turn m ts =
    items_by_turn ts
    ∙ cond_same (begins (kinds.Sign CloseBrace) ts) (mark_at CloseBrace ts >>= λ close. Ok ([], close.1)) (item_comma_at ts >>= all_items) (then (λ m. item_at) (λ x. choose (kinds.Sign CloseBrace) (then (λ m. mark_at CloseBrace) (λ _. giving (x ∷ []))) (then (λ m. mark_at Comma) (λ _. then (λ m. items_at) (λ xs. giving (x ∷ xs))))) m ts)
    (bind_assoc (item_at ts) after_item all_items ∙ bind_same_after (item_at ts) (λ x. after_item x >>= all_items) (λ x. choose (kinds.Sign CloseBrace) (then (λ m. mark_at CloseBrace) (λ _. giving (x.0 ∷ []))) (then (λ m. mark_at Comma) (λ _. then (λ m. items_at) (λ xs. giving (x.0 ∷ xs)))) m x.1) (λ x is. after_item_turn m x))

-- ---- its laws

abbrev pub items_shape : Shape
items_shape = record { first = kinds.Sign CloseBrace ∷ kinds.Ident ∷ []; follow = []; empty = false }

abbrev ItemsAfter : EnumItem → Rel (List EnumItem)
ItemsAfter x = Either (Mark CloseBrace ⟫ λ _. Gives (x ∷ [])) (Mark Comma ⟫ λ _. ItemsClosed ⟫ λ xs. Gives (x ∷ xs))

abbrev items_after : EnumItem → Reader (List EnumItem)
items_after x = choose (kinds.Sign CloseBrace) (then (λ m. mark_at CloseBrace) (λ _. giving (x ∷ []))) (then (λ m. mark_at Comma) (λ _. then (λ m. items_at) (λ xs. giving (x ∷ xs))))

abbrev after_shape : Shape
after_shape = record { first = kinds.Sign CloseBrace ∷ kinds.Sign Comma ∷ []; follow = []; empty = false }

following : (k n : ℕ) (x : EnumItem) → Reads k (suc n) (suc n) 0 0 items_shape ItemsClosed (λ m. items_at) → Reads k (suc n) (suc n) 0 0 after_shape (ItemsAfter x) (items_after x)
unfolding holds same_kind
following k n x again =
    let later = next refl again (λ xs. done (x ∷ xs)) in
    let with_comma = next refl (comma k n) (λ _. later) in
    either refl (closing k n (x ∷ [])) with_comma

turn : (k n : ℕ) → Reads k (suc n) (suc n) 0 0 items_shape ItemsClosed (λ m. items_at) → Reads (suc k) (suc n) (suc n) 0 0 items_shape ItemsClosed (λ m. items_at)
unfolding holds same_kind
turn k n again =
    let first = in_order (suc k) k (suc n) (suc n) 0 0 0 (one_kind kinds.Ident (kinds.Sign Equals ∷ [])) after_shape Item ItemsAfter (λ m. item_at) items_after refl (λ e. absurd (never e)) (omega arith) (item (suc k) n) (λ x. following k n x again) in
    let all = either refl (closing (suc k) n []) first in
    same_reader (suc k) (suc n) (suc n) 0 0 items_shape ItemsClosed items_turn (λ m. items_at) (related items_there items_back all) (λ m le ts. items_at_turn m ts)
  where
    never : false ≡ true → ⊥
    never e = cc

filled : (n : ℕ) → Filled (suc n) items_shape (λ m. items_at)
filled n =
    filled_by_first (suc n) (kinds.Sign CloseBrace) [] (kinds.Ident ∷ []) false (then (λ m. mark_at CloseBrace) (λ _. giving [])) (then (λ m. item_at) items_after) (λ m. items_at)
    (closing 0 n []).filled (λ m above ts. items_at_turn m ts)

pub items : (k n : ℕ) → Reads k (suc n) (suc n) 0 0 items_shape ItemsClosed (λ m. items_at)
items zero n = of_no_length (filled n)
items (suc k) n = turn k n (items k n)
