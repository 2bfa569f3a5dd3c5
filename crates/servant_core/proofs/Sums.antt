-- A sum that no i64 holds is no number of any type.
use Rattle.std.proofs.Common.{◌≡◌, ℤ, ◌+ℤ◌, true, Option, None, Some, w64, FitsSigned, to_z, of_z, sym, refl, ◌∙◌}
use Rattle.std.specs.Prelude.{SomeIff}
use Rattle.std.proofs.lemmas.Int.{to_z-of_z}
use Rattle.tars_model.specs.Declarations.{Declared}
use Rattle.tars_model.specs.Values.{fits}
use Rattle.tars_model.specs.declared.ty.Ty.{Ty, out-Ty}
use Rattle.tars_model.specs.declared.value.Value.{Num}
use Rattle.tars_model.proofs.ToldLaws.{told_fits_num}
use Rattle.tars_codec.proofs.ReadBack.Numbers.{num_wide}

pub no_number : (d : Declared) (t : Ty) (a b : ℤ) (result : Option ℤ) → FitsSigned w64 a → FitsSigned w64 b
    → SomeIff result (FitsSigned w64 (to_z w64 (of_z w64 a) +ℤ to_z w64 (of_z w64 b))) (to_z w64 (of_z w64 a) +ℤ to_z w64 (of_z w64 b))
    → result ≡ None → fits d t (Num (a +ℤ b)) ≡ true → ⊥
no_number d t a b None first second is none fit =
    let wide : FitsSigned w64 (a +ℤ b) = num_wide (out-Ty t) (a +ℤ b) (sym (told_fits_num (Num (a +ℤ b)) d t (a +ℤ b) refl) ∙ fit) in
    is (rw (to_z-of_z w64 a first, to_z-of_z w64 b second) wide)
no_number d t a b (Some sum) first second is none fit = absurd cc
