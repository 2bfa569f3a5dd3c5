-- The grammar's relations as they are read: with the bracket that closes a list, or a heading, as one part.
use Rattle.std.proofs.Common.{◌≡◌, ℕ, Some, None, List, [], ◌∷◌, refl, sym, ap, ◌∙◌, subst, inl, inr}
use Rattle.idl_parse.specs.Grammar.{Word, Mark, Ident, Listed, Item, Items}
use Rattle.idl_parse.specs.Rules.{Rel, Gives, ◌⟫◌, Either, Maybe, Many, none, more}
use Rattle.idl_lex.specs.declared.keyword.Keyword.{Keyword}
use Rattle.idl_lex.specs.declared.sign.Sign.{Sign}
use Rattle.idl_lex.specs.declared.sign.Sign.TheVariants.{OpenBrace, CloseBrace, Comma}
use Rattle.idl_lex.specs.declared.span.Span.{Span}
use Rattle.idl_lex.specs.declared.token.Token.{Token}
use Rattle.idl_parse.specs.declared.tree.decl.EnumItem.{EnumItem}
use Rattle.idl_parse.proofs.Parsing.Combining.Readers.{Reader, Shape, Reads}
use Rattle.idl_parse.proofs.Parsing.Combining.Regroup.{same_relation}
use Rattle.idl_parse.proofs.Parsing.Repeating.Until.{Until}

abbrev pub Within : {A : Type 0} → Rel A → Rel A → Type 0
Within {A} P Q = (ts : List Token) (x : A) (rest : List Token) → P ts x rest → Q ts x rest

pub related : {A : Type 0} {k n limit a b : ℕ} {S : Shape} {P Q : Rel A} {f : Reader A} → Within P Q → Within Q P → Reads k n limit a b S P f → Reads k n limit a b S Q f
related {k = k} {n = n} {limit = limit} {a = a} {b = b} {S = S} {P = P} {Q = Q} {f = f} there back r =
    same_relation k n limit a b S P Q f r there back

-- after the same first part
pub under : {A B : Type 0} (P : Rel A) (Q R : A → Rel B) → ((x : A) → Within (Q x) (R x)) → Within (P ⟫ Q) (P ⟫ R)
under P Q R there ts y rest (x, mid, p, q) = (x, mid, p, there x mid y rest q)

-- ---- what a part gives is used at once

pub closed_there : {A B C : Type 0} (P : Rel A) (Q : Rel B) (h : A → C) → Within ((P ⟫ λ x. Q ⟫ λ _. Gives x) ⟫ λ x. Gives (h x)) (P ⟫ λ x. Q ⟫ λ _. Gives (h x))
closed_there P Q h ts tree rest (y, mid, (x, first, p, (z, end, q, (same, is))), (same', is')) =
    (x, first, p, (z, end, q, (ap h same ∙ same', is ∙ is')))

pub closed_back : {A B C : Type 0} (P : Rel A) (Q : Rel B) (h : A → C) → Within (P ⟫ λ x. Q ⟫ λ _. Gives (h x)) ((P ⟫ λ x. Q ⟫ λ _. Gives x) ⟫ λ x. Gives (h x))
closed_back P Q h ts tree rest (x, first, p, (z, end, q, (same, is))) =
    (x, end, (x, first, p, (z, end, q, (refl, refl))), (same, is))

abbrev pub Both : {A B : Type 0} → Rel A → Rel B → Rel (A × B)
Both P Q = P ⟫ λ x. Q ⟫ λ y. Gives (x, y)

pub paired_there : {A B C : Type 0} (P : Rel A) (Q : Rel B) (h : A → B → C) → Within (Both P Q ⟫ λ z. Gives (h z.0 z.1)) (P ⟫ λ x. Q ⟫ λ y. Gives (h x y))
paired_there P Q h ts tree rest (z, mid, (x, first, p, (y, end, q, (same, is))), (same', is')) =
    (x, first, p, (y, end, q, (ap (λ z. h z.0 z.1) same ∙ same', is ∙ is')))

pub paired_back : {A B C : Type 0} (P : Rel A) (Q : Rel B) (h : A → B → C) → Within (P ⟫ λ x. Q ⟫ λ y. Gives (h x y)) (Both P Q ⟫ λ z. Gives (h z.0 z.1))
paired_back P Q h ts tree rest (x, first, p, (y, end, q, (same, is))) =
    ((x, y), end, (x, first, p, (y, end, q, (refl, refl))), (same, is))

-- a word, ident "{"
abbrev pub Heading : Keyword → Rel Span
Heading word = Word word ⟫ λ _. Ident ⟫ λ name. Mark OpenBrace ⟫ λ _. Gives name

moved : {A B : Type 0} (R : A → Rel B) (x y : A) (ts us : List Token) (tree : B) (rest : List Token) → x ≡ y → ts ≡ us → R y us tree rest → R x ts tree rest
moved R x y ts us tree rest same is r =
    subst (λ z. R z ts tree rest) (sym same) (subst (λ vs. R y vs tree rest) (sym is) r)

pub headed_there : {B : Type 0} (word : Keyword) (R : Span → Rel B) → Within (Heading word ⟫ R) (Word word ⟫ λ _. Ident ⟫ λ name. Mark OpenBrace ⟫ λ _. R name)
headed_there word R ts tree rest (name, mid, (w, m1, pw, (name', m2, pn, (b, m3, pb, (same, is)))), r) =
    (w, m1, pw, (name', m2, pn, (b, m3, pb, moved R name' name m3 mid tree rest same is r)))

pub headed_back : {B : Type 0} (word : Keyword) (R : Span → Rel B) → Within (Word word ⟫ λ _. Ident ⟫ λ name. Mark OpenBrace ⟫ λ _. R name) (Heading word ⟫ R)
headed_back word R ts tree rest (w, m1, pw, (name, m2, pn, (b, m3, pb, r))) =
    (name, m3, (w, m1, pw, (name, m2, pn, (b, m3, pb, (refl, refl)))), r)

-- ---- [ P { "," P } ] and a sign

abbrev pub ListedClosed : {A : Type 0} → Sign → Rel A → Rel (List A)
ListedClosed sign P = Either (Listed P) (Gives []) ⟫ λ xs. Mark sign ⟫ λ _. Gives xs

abbrev pub ListedTurn : {A : Type 0} → Sign → Rel A → Rel (List A)
ListedTurn sign P =
    Either (Mark sign ⟫ λ _. Gives []) (P ⟫ λ x. Until sign (Mark Comma ⟫ λ _. P) ⟫ λ xs. Gives (x ∷ xs))

pub listed_there : {A : Type 0} (sign : Sign) (P : Rel A) → Within (ListedTurn sign P) (ListedClosed sign P)
listed_there sign P ts tree rest (inl p) = ([], ts, inr (refl, refl), p)
listed_there sign P ts tree rest (inr (x, m1, p, (xs, m2, (ys, m3, many, (t, m4, mark, (same, is))), (same', is')))) =
    (x ∷ ys, m3, inl (x, m1, p, (ys, m3, many, (refl, refl))), (t, m4, mark, (ap (λ zs. x ∷ zs) same ∙ same', is ∙ is')))

pub listed_back : {A : Type 0} (sign : Sign) (P : Rel A) → Within (ListedClosed sign P) (ListedTurn sign P)
listed_back sign P ts tree rest (xs, mid, inl (x, m1, p, (ys, m2, many, (same, is))), (t, m4, mark, (same', is'))) =
    inr (x, m1, p, (ys, m4, (ys, m2, many, (t, m4, (mark.0, is ∙ mark.1), (refl, refl))), (same ∙ same', is')))
listed_back sign P ts tree rest (xs, mid, inr (same, is), (t, m4, mark, (same', is'))) =
    inl (t, m4, (mark.0, is ∙ mark.1), (same ∙ same', is'))

-- ---- [ item { "," item } [ "," ] ] "}"

abbrev pub ItemsClosed : Rel (List EnumItem)
ItemsClosed = Items ⟫ λ items. Mark CloseBrace ⟫ λ _. Gives items

-- after an item stands the "}", or a "," and more
abbrev pub ItemsTurn : Rel (List EnumItem)
ItemsTurn =
    Either (Mark CloseBrace ⟫ λ _. Gives [])
    (Item ⟫ λ x. Either (Mark CloseBrace ⟫ λ _. Gives (x ∷ [])) (Mark Comma ⟫ λ _. ItemsClosed ⟫ λ xs. Gives (x ∷ xs)))

pub items_there : Within ItemsTurn ItemsClosed
items_there ts tree rest (inl p) = ([], ts, inr (refl, refl), p)
items_there ts tree rest (inr (x, m1, p, inl (t, m2, mark, (same, is)))) =
    (x ∷ [], m1, inl (x ∷ [], m1, (x, m1, p, ([], m1, none, (refl, refl))), (None, m1, inr (refl, refl), (refl, refl))), (t, m2, mark, (same, is)))
items_there ts tree rest (inr (x, m1, p, inr (c, m2, comma, (ys, m3, (zs, m4, inr (none', is4), (t, m5, mark, (same5, is5))), (same, is))))) = (
  x ∷ [],
  m4,
  inl (x ∷ [], m1, (x, m1, p, ([], m1, none, (refl, refl))), (Some c, m4, inl (c, m2, comma, (refl, is4)), (refl, refl))),
  (t, m5, mark, (ap (λ us. x ∷ us) (none' ∙ same5) ∙ same, is5 ∙ is)),
)
items_there ts tree rest (inr (x, m1, p, inr (c, m2, comma, (ys, m3, (zs, m4, inl (ws, m6, (y, m7, q, (vs, m8, many, (same8, is8))), (last, m9, trail, (same9, is9))), (t, m5, mark, (same5, is5))), (same, is))))) = (
  x ∷ zs,
  m4,
  inl (x ∷ ws, m6, (x, m1, p, (y ∷ vs, m8, more (c, m2, comma, q) many, (ap (λ us. x ∷ us) same8, is8))), (last, m9, trail, (ap (λ us. x ∷ us) same9, is9))),
  (t, m5, mark, (ap (λ us. x ∷ us) same5 ∙ same, is5 ∙ is)),
)

-- what may stand after a first item
after_first : (x : EnumItem) {m1 : List Token} {ys : List EnumItem} {m2 : List Token} (tree : List EnumItem) (rest : List Token) → Many (Mark Comma ⟫ λ _. Item) m1 ys m2 → (Maybe (Mark Comma) ⟫ λ _. Mark CloseBrace ⟫ λ _. Gives (x ∷ ys)) m2 tree rest → Either (Mark CloseBrace ⟫ λ _. Gives (x ∷ [])) (Mark Comma ⟫ λ _. ItemsClosed ⟫ λ xs. Gives (x ∷ xs)) m1 tree rest
after_first x tree rest none (last, mid, inr (same, is), (t, m5, mark, (same5, is5))) =
    inl (t, m5, (mark.0, is ∙ mark.1), (same5, is5))
after_first x tree rest none (last, mid, inl (c, m3, comma, (same, is)), (t, m5, mark, (same5, is5))) =
    inr (c, m3, comma, ([], m5, ([], m3, inr (refl, refl), (t, m5, (mark.0, is ∙ mark.1), (refl, refl))), (same5, is5)))
after_first x tree rest (more {x = y} {xs = ys} (c, m3, comma, q) many) (last, mid, trail, (t, m5, mark, (same5, is5))) =
    inr (c, m3, comma, (y ∷ ys, m5, (y ∷ ys, mid, inl (y ∷ ys, _, (y, _, q, (ys, _, many, (refl, refl))), (last, mid, trail, (refl, refl))), (t, m5, mark, (refl, refl))), (same5, is5)))

pub items_back : Within ItemsClosed ItemsTurn
items_back ts tree rest (xs, mid, inr (same, is), (t, m4, mark, (same', is'))) =
    inl (t, m4, (mark.0, is ∙ mark.1), (same ∙ same', is'))
items_back ts tree rest (xs, mid, inl (ws, m6, (x, m1, p, (ys, m2, many, (same2, is2))), (last, m9, trail, (same9, is9))), (t, m4, mark, (same', is'))) =
    inr (x, m1, p, after_first x tree rest many (last, m9, subst (λ m. Maybe (Mark Comma) m last m9) (sym is2) trail, (t, m4, (mark.0, is9 ∙ mark.1), (same2 ∙ same9 ∙ same', is'))))
