-- Types by their layer: those that are words, and those that may be declared; and how deep they are counted.
use Rattle.std.proofs.Common.{◌≡◌, ◌≢◌, ◌<◌, ◌≤◌, ℕ, suc, true, false, Some, None, List, refl, sym, ap, ◌∙◌, subst, arith}
use Rattle.std.proofs.lemmas.Bool.Decides.{nat_tests}
use Rattle.std.specs.Prelude.{nat_lt}
use Rattle.tars_model.specs.Types as model
use Rattle.tars_model.specs.Types.{IsType, TyLayer, plain as a_plain, enum as an_enum, struct as a_struct, vector as a_vector, map as a_map, is_plain, is_key, depth_layer, depths_of, greater}
use Rattle.tars_model.specs.declared.ty.Ty.{Ty, out-Ty, map-Ty, roll-Ty, roll-out-Ty}
use Rattle.tars_model.specs.declared.ty.Ty.TheOpen as ty
use Rattle.tars_model.specs.declared.ty.Ty.TheVariants.{rolls-Bool, rolls-Byte, rolls-Short, rolls-Int, rolls-Long, rolls-Text, rolls-UByte, rolls-UShort, rolls-UInt}
use Rattle.idl_parse.specs.declared.tree.type_tree.BasicType.{BasicType}
use Rattle.idl_parse.specs.declared.tree.type_tree.BasicType.TheVariants as basics
use Rattle.idl_parse.specs.declared.tree.type_tree.TypeTree.TheOpen as layer
use Rattle.canonical_tree.specs.Says.{basic_word}
use Rattle.idl_scene.specs.Items.{word}
use Rattle.idl_scene.specs.Types as check
use Rattle.idl_scene.specs.Types.{is_float, is_unsigned_byte, meaning_of, is_type, first_token, first_of_name, unknown_type, float, bad_key, deep_type, unsigned_bytes, types_in, one_deeper}
use Rattle.idl_schema.specs.SchemaOf.{basic_type}
use Rattle.idl_schema.proofs.TypeFits.{capped}
use Rattle.idl_check.proofs.Numbered.{the_same}
use Rattle.idl_check.proofs.Finding.{never}

-- ---- types by their layer

pub type_is : (t : Ty) (l : TyLayer) → out-Ty t ≡ l → t ≡ roll-Ty l
type_is t l e = sym (roll-out-Ty t) ∙ ap roll-Ty e

-- the layer of a type that is a word; none is that of the two that are refused
abbrev pub layer_of : BasicType → TyLayer
layer_of basics.Bool = ty.Bool
layer_of basics.Byte = ty.Byte
layer_of basics.Short = ty.Short
layer_of basics.Int = ty.Int
layer_of basics.Long = ty.Long
layer_of basics.Float = ty.Int
layer_of basics.Double = ty.Int
layer_of basics.Text = ty.Text
layer_of basics.UnsignedByte = ty.UByte
layer_of basics.UnsignedShort = ty.UShort
layer_of basics.UnsignedInt = ty.UInt

-- a type that is a word
pub record IsWord (l : TyLayer) (word : BasicType) : Type 0 where
  pub layer : l ≡ layer_of word
  pub no_float : is_float word ≡ false

is_word_at : (given word : BasicType) → is_float given ≡ false → Some given ≡ Some word → IsWord (layer_of given) word
is_word_at given word no_float e = record { layer = ap layer_of (the_same given word e); no_float = ap is_float (sym (the_same given word e)) ∙ no_float }

no_word : {A : Type 0} (word : BasicType) → None ≡ Some word → A
no_word word e = absurd cc

pub said_word : (l : TyLayer) (word : BasicType) → basic_word l ≡ Some word → IsWord l word
said_word ty.Bool word e = is_word_at basics.Bool word refl e
said_word ty.Byte word e = is_word_at basics.Byte word refl e
said_word ty.Short word e = is_word_at basics.Short word refl e
said_word ty.Int word e = is_word_at basics.Int word refl e
said_word ty.Long word e = is_word_at basics.Long word refl e
said_word ty.UByte word e = is_word_at basics.UnsignedByte word refl e
said_word ty.UShort word e = is_word_at basics.UnsignedShort word refl e
said_word ty.UInt word e = is_word_at basics.UnsignedInt word refl e
said_word ty.Text word e = is_word_at basics.Text word refl e
said_word _ word e = no_word word e

rolled_word : (word : BasicType) → roll-Ty (layer_of word) ≡ basic_type word
rolled_word basics.Bool = rolls-Bool
rolled_word basics.Byte = rolls-Byte
rolled_word basics.Short = rolls-Short
rolled_word basics.Int = rolls-Int
rolled_word basics.Long = rolls-Long
rolled_word basics.Float = rolls-Int
rolled_word basics.Double = rolls-Int
rolled_word basics.Text = rolls-Text
rolled_word basics.UnsignedByte = rolls-UByte
rolled_word basics.UnsignedShort = rolls-UShort
rolled_word basics.UnsignedInt = rolls-UInt

pub word_type : (t : Ty) (word : BasicType) → basic_word (out-Ty t) ≡ Some word → basic_type word ≡ t
word_type t word e = sym (type_is t (layer_of word) (said_word (out-Ty t) word e).layer ∙ rolled_word word)

pub key_word : (word : BasicType) → is_key (layer_of word) ≡ true → is_float word ≡ false → check.is_key_word word ≡ true
key_word basics.Bool e none = cc
key_word basics.Float e none = cc
key_word basics.Double e none = cc
key_word _ e none = refl

pub no_bytes_word : (at : ℕ) (word : BasicType) → layer_of word ≢ ty.UByte → is_unsigned_byte (layer.Basic at word) ≡ false
no_bytes_word at basics.UnsignedByte other = absurd (other refl)
no_bytes_word at _ other = refl

pub word_depth : (depths : List ℕ) (word : BasicType) → depth_layer depths (map-Ty Ty ℕ (model.type_depth depths) (layer_of word)) ≡ 0
word_depth depths basics.Bool = refl
word_depth depths _ = refl

-- ---- types that may be declared, by their layer

no_plain : {A : Type 0} (l : TyLayer) → is_plain l ≡ true → is_plain l ≡ false → A
no_plain l one none = never (sym none ∙ one)

same_enum : (l : TyLayer) (a b : ℕ) → l ≡ ty.Enum a → l ≡ ty.Enum b → a ≡ b
same_enum l a b e f = cc

same_struct : (l : TyLayer) (a b : ℕ) → l ≡ ty.Struct a → l ≡ ty.Struct b → a ≡ b
same_struct l a b e f = cc

same_vector : (l : TyLayer) (a b : Ty) → l ≡ ty.Vector a → l ≡ ty.Vector b → a ≡ b
same_vector l a b e f = cc

same_key : (l : TyLayer) (a b x y : Ty) → l ≡ ty.Map a x → l ≡ ty.Map b y → a ≡ b
same_key l a b x y e f = cc

same_value : (l : TyLayer) (a b x y : Ty) → l ≡ ty.Map a x → l ≡ ty.Map b y → x ≡ y
same_value l a b x y e f = cc

module _ (m n : ℕ) where
  pub enum_within : {t : Ty} → IsType m n t → (k : ℕ) → out-Ty t ≡ ty.Enum k → k < m
  enum_within {t} (a_plain is) k e = no_plain (out-Ty t) is (ap is_plain e)
  enum_within {t} (an_enum {number = number} is less) k e = subst (λ (k : ℕ). k < m) (same_enum (out-Ty t) number k is e) less
  enum_within {t} (a_struct is less) k e = absurd cc
  enum_within {t} (a_vector is other inner) k e = absurd cc
  enum_within {t} (a_map is key a b) k e = absurd cc

  pub struct_within : {t : Ty} → IsType m n t → (k : ℕ) → out-Ty t ≡ ty.Struct k → k < n
  struct_within {t} (a_plain is) k e = no_plain (out-Ty t) is (ap is_plain e)
  struct_within {t} (a_struct {number = number} is less) k e = subst (λ (k : ℕ). k < n) (same_struct (out-Ty t) number k is e) less
  struct_within {t} (an_enum is less) k e = absurd cc
  struct_within {t} (a_vector is other inner) k e = absurd cc
  struct_within {t} (a_map is key a b) k e = absurd cc

  pub element_is : {t : Ty} → IsType m n t → (of : Ty) → out-Ty t ≡ ty.Vector of → (out-Ty of ≢ ty.UByte) × IsType m n of
  element_is {t} (a_plain is) of e = no_plain (out-Ty t) is (ap is_plain e)
  element_is {t} (a_vector {of = inside} is other inner) of e = subst (λ (of : Ty). (out-Ty of ≢ ty.UByte) × IsType m n of) (same_vector (out-Ty t) inside of is e) (other, inner)
  element_is {t} (an_enum is less) of e = absurd cc
  element_is {t} (a_struct is less) of e = absurd cc
  element_is {t} (a_map is key a b) of e = absurd cc

  pub entry_is : {t : Ty} → IsType m n t → (key to : Ty) → out-Ty t ≡ ty.Map key to → (is_key (out-Ty key) ≡ true) × IsType m n key × IsType m n to
  entry_is {t} (a_plain is) key to e = no_plain (out-Ty t) is (ap is_plain e)
  entry_is {t} (a_map {key = k} {value = v} is good a b) key to e =
      let same = same_key (out-Ty t) k key v to is e in
      (subst (λ (k : Ty). is_key (out-Ty k) ≡ true) same good, subst (IsType m n) same a, subst (IsType m n) (same_value (out-Ty t) k key v to is e) b)
  entry_is {t} (an_enum is less) key to e = absurd cc
  entry_is {t} (a_struct is less) key to e = absurd cc
  entry_is {t} (a_vector is other inner) key to e = absurd cc

-- ---- depths

pub capped_small : (n : ℕ) → n ≤ 32 → capped n ≡ n
capped_small n small = grind (arith, nat_tests)

pub capped_within : (n : ℕ) → n ≤ 32 → nat_lt 32 (capped n) ≡ false
capped_within n small = grind (arith, nat_tests)

pub inner_small : (n inner : ℕ) → n ≡ suc inner → n ≤ 32 → inner ≤ 32
inner_small n inner is small = omega arith

pub both_small : (n a b : ℕ) → n ≡ suc (greater a b) → n ≤ 32 → (a ≤ 32) × (b ≤ 32)
both_small n a b is small = (grind (arith, nat_tests), grind (arith, nat_tests))
