-- What spells a value, by its type.
use Rattle.std.proofs.Common.{◌≡◌, ◌⊎◌, inl, inr, ℕ, ℤ, Bool, true, false, List, ◌∷◌, ◌++◌, sym, subst}
use Rattle.canonical_text.specs.Canonical.{truth_word}
use Rattle.tars_model.specs.Declarations.{Declared, members_at}
use Rattle.tars_model.specs.Types.{TyLayer}
use Rattle.tars_model.specs.Values.{is_byte}
use Rattle.tars_model.specs.declared.ty.Ty.{Ty, out-Ty}
use Rattle.tars_model.specs.declared.ty.Ty.TheOpen as ty
use Rattle.tars_model.specs.declared.value.Pair.{Pair}
use Rattle.tars_model.specs.declared.value.Value.{Value}
use Rattle.value_text.specs.Spelling.{past_gap, FORM, has_numbers, SaysNumber, TextSpells, BlobSpells, SpellsBy, ElementsBy, EntriesBy, MembersBy}
use Rattle.value_text.specs.Spelling as spelling

abbrev pub BlobShape : List ℕ → List ℕ → Type 0
BlobShape bytes rest = (inside : List ℕ) × (bytes ≡ 35 ∷ inside) × (s : List ℕ) × BlobSpells s inside rest

-- after the bracket: no element, or some
abbrev pub ListInside : Declared → Ty → List ℕ → List ℕ → Type 0
ListInside d of bytes rest = (bytes ≡ 93 ∷ rest) ⊎ ((vs : List Value) × ElementsBy FORM d of vs bytes rest)

abbrev pub ListShape : Declared → Ty → List ℕ → List ℕ → Type 0
ListShape d of bytes rest = (inside : List ℕ) × (bytes ≡ 91 ∷ inside) × ListInside d of (past_gap inside) rest

abbrev pub VectorShape : Declared → Ty → Bool → List ℕ → List ℕ → Type 0
VectorShape d of true bytes rest = BlobShape bytes rest
VectorShape d of false bytes rest = ListShape d of bytes rest

-- after the brace: no entry, or some
abbrev pub MapInside : Declared → Ty → Ty → List ℕ → List ℕ → Type 0
MapInside d key to bytes rest = (bytes ≡ 125 ∷ rest) ⊎ ((ps : List Pair) × EntriesBy FORM d key to ps bytes rest)

abbrev pub MapShape : Declared → Ty → Ty → List ℕ → List ℕ → Type 0
MapShape d key to bytes rest = (inside : List ℕ) × (bytes ≡ 123 ∷ inside) × MapInside d key to (past_gap inside) rest

abbrev pub StructShape : Declared → ℕ → List ℕ → List ℕ → Type 0
StructShape d k bytes rest = (inside : List ℕ) × (bytes ≡ 40 ∷ inside) × (vs : List Value) × MembersBy FORM d (members_at d k) vs (past_gap inside) rest

abbrev pub NumberShape : Declared → TyLayer → List ℕ → List ℕ → Type 0
NumberShape d l bytes rest = (n : ℤ) × SaysNumber d l n bytes rest

abbrev pub Shape : Declared → TyLayer → List ℕ → List ℕ → Type 0
Shape d ty.Bool bytes rest = (b : Bool) × (bytes ≡ truth_word b ++ rest)
Shape d ty.Text bytes rest = (inside : List ℕ) × (bytes ≡ 34 ∷ inside) × (s : List ℕ) × TextSpells s inside rest
Shape d (ty.Vector of) bytes rest = VectorShape d of (is_byte (out-Ty of)) bytes rest
Shape d (ty.Map key to) bytes rest = MapShape d key to bytes rest
Shape d (ty.Struct k) bytes rest = StructShape d k bytes rest
Shape d l bytes rest = NumberShape d l bytes rest

number_shape : (d : Declared) (l : TyLayer) (bytes rest : List ℕ) → has_numbers l ≡ true → NumberShape d l bytes rest → Shape d l bytes rest
number_shape d ty.Byte bytes rest has h = h
number_shape d ty.Short bytes rest has h = h
number_shape d ty.Int bytes rest has h = h
number_shape d ty.Long bytes rest has h = h
number_shape d ty.UByte bytes rest has h = h
number_shape d ty.UShort bytes rest has h = h
number_shape d ty.UInt bytes rest has h = h
number_shape d (ty.Enum k) bytes rest has h = h
number_shape d _ bytes rest has h = absurd cc

pub is_number_shape : (d : Declared) (l : TyLayer) (bytes rest : List ℕ) → has_numbers l ≡ true → Shape d l bytes rest → NumberShape d l bytes rest
is_number_shape d ty.Byte bytes rest has h = h
is_number_shape d ty.Short bytes rest has h = h
is_number_shape d ty.Int bytes rest has h = h
is_number_shape d ty.Long bytes rest has h = h
is_number_shape d ty.UByte bytes rest has h = h
is_number_shape d ty.UShort bytes rest has h = h
is_number_shape d ty.UInt bytes rest has h = h
is_number_shape d (ty.Enum k) bytes rest has h = h
is_number_shape d _ bytes rest has h = absurd cc

-- what is spelled under a type has the type's shape
pub shape : {d : Declared} {t : Ty} {v : Value} {bytes rest : List ℕ} → SpellsBy FORM d t v bytes rest → Shape d (out-Ty t) bytes rest
shape {d = d} {bytes = bytes} {rest = rest} (spelling.truth b is v_is text) = subst (λ (l : TyLayer). Shape d l bytes rest) (sym is) (b, text)
shape {d = d} {t = t} {bytes = bytes} {rest = rest} (spelling.number n fits v_is says) = number_shape d (out-Ty t) bytes rest fits (n, says)
shape {d = d} {bytes = bytes} {rest = rest} (spelling.text s inside is v_is text inner) = subst (λ (l : TyLayer). Shape d l bytes rest) (sym is) (inside, text, s, inner)
shape {d = d} {bytes = bytes} {rest = rest} (spelling.blob of s inside is byte v_is text inner) =
    subst (λ (l : TyLayer). Shape d l bytes rest) (sym is) (subst (λ (b : Bool). VectorShape d of b bytes rest) (sym byte) (inside, text, s, inner))
shape {d = d} {bytes = bytes} {rest = rest} (spelling.no_elements of inside is other v_is text closes) =
    subst (λ (l : TyLayer). Shape d l bytes rest) (sym is) (subst (λ (b : Bool). VectorShape d of b bytes rest) (sym other) (inside, text, inl closes))
shape {d = d} {bytes = bytes} {rest = rest} (spelling.elements of vs inside is other v_is text inner) =
    subst (λ (l : TyLayer). Shape d l bytes rest) (sym is) (subst (λ (b : Bool). VectorShape d of b bytes rest) (sym other) (inside, text, inr (vs, inner)))
shape {d = d} {bytes = bytes} {rest = rest} (spelling.no_entries key to inside is v_is text closes) = subst (λ (l : TyLayer). Shape d l bytes rest) (sym is) (inside, text, inl closes)
shape {d = d} {bytes = bytes} {rest = rest} (spelling.entries key to ps all inside is v_is text inner placed) = subst (λ (l : TyLayer). Shape d l bytes rest) (sym is) (inside, text, inr (ps, inner))
shape {d = d} {bytes = bytes} {rest = rest} (spelling.members k vs inside is v_is text inner) = subst (λ (l : TyLayer). Shape d l bytes rest) (sym is) (inside, text, vs, inner)

-- where the type's layer is known
pub shape_at : {d : Declared} {t : Ty} {v : Value} {bytes rest : List ℕ} (l : TyLayer) → out-Ty t ≡ l → SpellsBy FORM d t v bytes rest → Shape d l bytes rest
shape_at {d = d} {bytes = bytes} {rest = rest} l is s = subst (λ (l : TyLayer). Shape d l bytes rest) is (shape s)

pub blob_shape : {d : Declared} {t : Ty} {v : Value} {bytes rest : List ℕ} (of : Ty) → out-Ty t ≡ ty.Vector of → is_byte (out-Ty of) ≡ true → SpellsBy FORM d t v bytes rest → BlobShape bytes rest
blob_shape {d = d} {bytes = bytes} {rest = rest} of is byte s = subst (λ (b : Bool). VectorShape d of b bytes rest) byte (shape_at (ty.Vector of) is s)

pub list_shape : {d : Declared} {t : Ty} {v : Value} {bytes rest : List ℕ} (of : Ty) → out-Ty t ≡ ty.Vector of → is_byte (out-Ty of) ≡ false → SpellsBy FORM d t v bytes rest → ListShape d of bytes rest
list_shape {d = d} {bytes = bytes} {rest = rest} of is other s = subst (λ (b : Bool). VectorShape d of b bytes rest) other (shape_at (ty.Vector of) is s)
