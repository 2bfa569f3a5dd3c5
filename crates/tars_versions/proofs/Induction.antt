-- Induction over values: what holds of a value where it holds of those inside it.
use Rattle.std.proofs.Common.{ℕ, ℤ, Bool, List, [], ◌∷◌, map, sym, subst}
use Rattle.tars_model.specs.declared.value.Value.{Value, ind-Value, roll-Value, map-Value}
use Rattle.tars_model.specs.declared.value.Value.TheOpen as value
use Rattle.tars_model.specs.declared.value.Value.TheVariants as values
use Rattle.tars_model.specs.declared.value.Value.TheVariants.{rolls-Bool, rolls-Num, rolls-Text, rolls-Blob, rolls-List, rolls-Map, rolls-Struct}
use Rattle.tars_model.specs.declared.value.Pair.{Pair, Pair-F, roll-Pair, out-Pair}

abbrev pub AllOf : {X : Type 0} → (X → Type 0) → List X → Type 0
AllOf P [] = Unit {0}
AllOf P (x ∷ xs) = P x × AllOf P xs

all_of : {S X : Type 0} (P : X → Type 0) (f : S → X) → ((s : S) → P (f s)) → (ss : List S) → AllOf P (map f ss)
all_of P f h [] = tt
all_of P f h (s ∷ ss) = (h s, all_of P f h ss)

module _ (P : Value → Type 0) where
  -- it holds of an entry's key and value
  abbrev pub OfPair : Pair → Type 0
  OfPair p = P (out-Pair p).key × P (out-Pair p).value

  pub record Kinds : Type 0 where
    pub bool : (b : Bool) → P (values.Bool b)
    pub num : (n : ℤ) → P (values.Num n)
    pub text : (s : List ℕ) → P (values.Text s)
    pub blob : (s : List ℕ) → P (values.Blob s)
    pub list : (vs : List Value) → AllOf P vs → P (values.List vs)
    pub pairs : (ps : List Pair) → AllOf OfPair ps → P (values.Map ps)
    pub struct : (vs : List Value) → AllOf P vs → P (values.Struct vs)

  pub each_value : Kinds → (v : Value) → P v
  each_value k v = ind-Value P OfPair
      (λ x y e. subst (λ (x : value.Value-F Value Pair). P (roll-Value x)) e
      (elim y as (λ y. P (roll-Value (map-Value _ _ Value Pair (λ e. e.0) (λ e. e.0) y))) [
        | value.Bool b ↦ subst P (sym (rolls-Bool b)) (k.bool b)
        | value.Num n ↦ subst P (sym (rolls-Num n)) (k.num n)
        | value.Text s ↦ subst P (sym (rolls-Text s)) (k.text s)
        | value.Blob s ↦ subst P (sym (rolls-Blob s)) (k.blob s)
        | value.List vs ↦ subst P (sym (rolls-List (map (λ e. e.0) vs))) (k.list (map (λ e. e.0) vs) (all_of P (λ e. e.0) (λ e. e.1) vs))
        | value.Map ps ↦ subst P (sym (rolls-Map (map (λ e. e.0) ps))) (k.pairs (map (λ e. e.0) ps) (all_of OfPair (λ e. e.0) (λ e. e.1) ps))
        | value.Struct vs ↦ subst P (sym (rolls-Struct (map (λ e. e.0) vs))) (k.struct (map (λ e. e.0) vs) (all_of P (λ e. e.0) (λ e. e.1) vs))
      ]))
      (λ x y e. subst (λ (x : Pair-F Value Pair). OfPair (roll-Pair x)) e (y.key.1, y.value.1)) v
