-- A list, a map and a struct are spelled piece by piece.
use Rattle.std.proofs.Common.{◌≡◌, ℕ, List, [], ◌∷◌, ◌++◌, ◌⊎◌, inl, inr, length, map, refl, ap, ◌∙◌, arith}
use Rattle.tars_model.specs.Declarations.{Declared, members_at}
use Rattle.tars_model.specs.Types.{TyLayer}
use Rattle.tars_model.specs.declared.member.Member.{Member}
use Rattle.tars_model.specs.declared.ty.Ty.{Ty, out-Ty}
use Rattle.tars_model.specs.declared.ty.Ty.TheVariants as types
use Rattle.tars_model.specs.declared.ty.Ty.TheVariants.{outs-Vector, outs-Map, outs-Struct}
use Rattle.tars_model.specs.declared.value.Value.{Value}
use Rattle.tars_model.specs.declared.value.Pair.{Pair}
use Rattle.wire_words.specs.Spelling.{head, count_values, count_pairs, spelled_size, spelled}
use Rattle.tars_codec.specs.Written.{wire_value, wire_entry, wire_elements, wire_entries, wire_list, wire_map, wire_struct}
use Rattle.tars_codec.specs.Spellings.{spelled_elements, spelled_list, spelled_entries, spelled_map, spelled_members, spelled_struct}

pub count_elements : (d : Declared) (of : Ty) (vs : List Value) → count_values (wire_elements d of (map wire_value vs)) ≡ length vs
count_elements d of [] = refl
count_elements d of (v ∷ vs) = omega (arith, count_elements d of vs)

pub count_entries : (d : Declared) (key to : Ty) (ps : List Pair) → count_pairs (wire_entries d key to (map wire_entry ps)) ≡ length ps
count_entries d key to [] = refl
count_entries d key to (p ∷ ps) = omega (arith, count_entries d key to ps)

module _ (tag : ℕ) (d : Declared) (t : Ty) where
  pub list_pieces : (of : Ty) (vs : List Value) → t ≡ types.Vector of → spelled_list tag d t vs ≡ head tag 9 ++ spelled_size (length vs) ++ spelled_elements d of vs
  list_pieces of vs is =
      ap (λ (k : TyLayer). spelled tag (wire_list (map wire_value vs) d k)) (ap out-Ty is ∙ outs-Vector of)
      ∙ ap (λ n. head tag 9 ++ spelled_size n ++ spelled_elements d of vs) (count_elements d of vs)

  pub map_pieces : (key to : Ty) (ps : List Pair) → t ≡ types.Map key to → spelled_map tag d t ps ≡ head tag 8 ++ spelled_size (length ps) ++ spelled_entries d key to ps
  map_pieces key to ps is =
      ap (λ (k : TyLayer). spelled tag (wire_map (map wire_entry ps) d k)) (ap out-Ty is ∙ outs-Map key to)
      ∙ ap (λ n. head tag 8 ++ spelled_size n ++ spelled_entries d key to ps) (count_entries d key to ps)

  pub struct_pieces : (number : ℕ) (vs : List Value) → t ≡ types.Struct number → spelled_struct tag d t vs ≡ head tag 10 ++ spelled_members d (members_at d number) vs ++ head 0 11
  struct_pieces number vs is = ap (λ (k : TyLayer). spelled tag (wire_struct (map wire_value vs) d k)) (ap out-Ty is ∙ outs-Struct number)

-- where there is no member or no value left
pub none_spelled : (d : Declared) (members : List Member) (values : List Value) → (members ≡ []) ⊎ (values ≡ []) → spelled_members d members values ≡ []
none_spelled d [] values ends = refl
none_spelled d (m ∷ ms) [] ends = refl
none_spelled d (m ∷ ms) (v ∷ vs) (inl first) = absurd cc
none_spelled d (m ∷ ms) (v ∷ vs) (inr second) = absurd cc
