-- Texts that are written one after the other.
use Rattle.std.proofs.Common.{◌≡◌, ℕ, List, [], ◌∷◌, ◌++◌, ◌⊎◌, inl, inr, map, refl, sym, ap, ◌∙◌, append_assoc, codes}
use Rattle.std.proofs.lemmas.List.{append-nil}
use Rattle.tars_model.specs.Declarations.{Declared}
use Rattle.tars_model.specs.declared.member.Member.{Member}
use Rattle.tars_model.specs.declared.ty.Ty.{Ty}
use Rattle.tars_model.specs.declared.value.Value.{Value}
use Rattle.tars_model.specs.declared.value.Pair.{Pair, out-Pair}
use Rattle.value_text.specs.Printed.{listed, member_texts, entry_text, printing, entry_printing}
use Rattle.value_text.proofs.Layers.{entry_printing_out}

-- an entry after what stood before
pub entry_is_printed : (d : Declared) (key to : Ty) (p : Pair) (old first second : List ℕ) → first ≡ old ++ printing (out-Pair p).key d key → second ≡ first ++ codes ": "
    → second ++ printing (out-Pair p).value d to ≡ old ++ entry_text ((entry_printing p).0 d key) ((entry_printing p).1 d to)
unfolding entry_text
entry_is_printed d key to p old first second one two = rw (entry_printing_out p, two, one) (simp append_assoc)

none_left : (d : Declared) (members : List Member) (values : List Value) (before : List ℕ) → (members ≡ []) ⊎ (values ≡ []) → listed before (member_texts d members (map printing values)) ≡ []
none_left d [] values before ends = refl
none_left d (m ∷ ms) [] before ends = refl
none_left d (m ∷ ms) (v ∷ vs) before (inl first) = absurd cc
none_left d (m ∷ ms) (v ∷ vs) before (inr second) = absurd cc

-- all members are printed where none is left
pub members_are_printed : (d : Declared) (members : List Member) (values : List Value) (before out total : List ℕ) → (members ≡ []) ⊎ (values ≡ []) → out ++ listed before (member_texts d members (map printing values)) ≡ total → out ≡ total
members_are_printed d members values before out total ends so_far =
    sym (append-nil out) ∙ ap (λ x. out ++ x) (sym (none_left d members values before ends)) ∙ so_far
