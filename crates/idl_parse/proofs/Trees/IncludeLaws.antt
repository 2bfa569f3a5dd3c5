-- The names of includes, in the order of the text.
use Rattle.std.proofs.Common.{◌≡◌, ℕ, zero, suc, ◌+◌, ◌<◌, ◌≤◌, Some, None, List, [], ◌∷◌, ◌++◌, length, get_or, take, refl, sym, ap, ◌∙◌, subst, arith}
use Rattle.std.proofs.lemmas.List.{take_more}
use Rattle.std.specs.Prelude.{slice_get}
use Rattle.idl_parse.specs.Files.{SpellsAt, include_spans, AllSpell}
use Rattle.idl_lex.specs.declared.span.Span.{Span}
use Rattle.idl_parse.specs.declared.tree.module.Entry.{Entry}
use Rattle.idl_parse.specs.declared.tree.module.Entry.TheVariants.{Include, Module}

pub spans_append : (a b : List Entry) → include_spans (a ++ b) ≡ include_spans a ++ include_spans b
spans_append [] b = refl
spans_append (Include span ∷ a) b = ap (λ ps. span ∷ ps) (spans_append a b)
spans_append (Module m ∷ a) b = spans_append a b

pub spell_append : (text : List ℕ) (ps qs : List Span) (ns ms : List (List ℕ)) → AllSpell text ps ns → AllSpell text qs ms → AllSpell text (ps ++ qs) (ns ++ ms)
spell_append text [] qs [] ms first second = second
spell_append text [] qs (n ∷ ns) ms first second = absurd first
spell_append text (p ∷ ps) qs [] ms first second = absurd first
spell_append text (p ∷ ps) qs (n ∷ ns) ms first second = (first.0, spell_append text ps qs ns ms first.1 second)

-- as many as spans
pub as_many : (text : List ℕ) (ps : List Span) (ns : List (List ℕ)) → AllSpell text ps ns → length ns ≡ length ps
as_many text [] [] all = refl
as_many text [] (n ∷ ns) all = absurd all
as_many text (p ∷ ps) [] all = absurd all
as_many text (p ∷ ps) (n ∷ ns) all = let e = as_many text ps ns all.1 in omega (arith, e)

some_is : {a b : List ℕ} → Some a ≡ Some b → a ≡ b
some_is e = cc

pub spelled_at : (text : List ℕ) (ps : List Span) (ns : List (List ℕ)) (k : ℕ) (name : List ℕ) → AllSpell text ps ns → slice_get ns k ≡ Some name → (span : Span) × (slice_get ps k ≡ Some span) × SpellsAt text span name
spelled_at text [] [] k name all is = absurd (cc)
spelled_at text [] (n ∷ ns) k name all is = absurd all
spelled_at text (p ∷ ps) [] k name all is = absurd all
spelled_at text (p ∷ ps) (n ∷ ns) zero name all is = (p, refl, subst (SpellsAt text p) (some_is is) all.0)
spelled_at text (p ∷ ps) (n ∷ ns) (suc k) name all is = spelled_at text ps ns k name all.1 is

-- one entry more
pub spell_next : (text : List ℕ) (entries : List Entry) (i : ℕ) (item : Entry) (names all added : List (List ℕ)) → i < length entries → item ≡ get_or entries i item → AllSpell text (include_spans (take i entries)) names
    → all ≡ names ++ added → AllSpell text (include_spans (item ∷ [])) added → AllSpell text (include_spans (take (i + 1) entries)) all
spell_next text entries i item names all added within is before so_many one =
    let step : take (i + 1) entries ≡ take i entries ++ (item ∷ []) = take_more entries i item within ∙ ap (λ e. take i entries ++ (e ∷ [])) (sym is) in
    let both : include_spans (take i entries) ++ include_spans (item ∷ []) ≡ include_spans (take (i + 1) entries) =
    sym (spans_append (take i entries) (item ∷ [])) ∙ ap include_spans (sym step) in
    subst (λ ps. AllSpell text ps all) both (rw so_many (spell_append text (include_spans (take i entries)) (include_spans (item ∷ [])) names added before one))

pub none_at : (text : List ℕ) (ps : List Span) (ns : List (List ℕ)) (k : ℕ) → AllSpell text ps ns → None ≡ slice_get ns k → length ps ≤ k
none_at text [] [] k all is = omega arith
none_at text [] (n ∷ ns) k all is = absurd all
none_at text (p ∷ ps) [] k all is = absurd all
none_at text (p ∷ ps) (n ∷ ns) zero all is = cc
none_at text (p ∷ ps) (n ∷ ns) (suc k) all is = omega (arith, none_at text ps ns k all.1 is)
