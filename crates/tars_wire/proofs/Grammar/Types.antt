-- The type under which a value is spelled.
use Rattle.std.proofs.Common.{◌≡◌, ℕ, Bool, false, List, refl, ap, ◌∙◌}
use Rattle.wire_words.specs.Tree.{WireNumber, zero_tag, int1, int2, int4, int8, WireValue, whole, float, double, string1, string4, simple_list, list, map, struct}
use Rattle.tars_wire.specs.declared.wire_type.WireType.{WireType}
use Rattle.tars_wire.specs.declared.wire_type.WireType.TheVariants as wire
use Rattle.tars_wire.specs.Heads.{is_end}
use Rattle.tars_wire.specs.Spelled.{Rules, Number, is_zero_tag, is_int1, is_int2, is_int4, is_int8, ContentsBy, is_whole, is_float, is_double, is_string1, is_string4, is_simple_list, is_list, is_map, is_struct}
use Rattle.tars_wire.specs.Left.{type_of_number, type_of_value}

pub number_type : {type : WireType} {n : WireNumber} {w rest : List ℕ} → Number type n w rest → type ≡ type_of_number n
number_type is_zero_tag = refl
number_type (is_int1 b e) = refl
number_type (is_int2 b e) = refl
number_type (is_int4 b e) = refl
number_type (is_int8 b e) = refl

pub value_type : {rules : Rules} {room : ℕ} {type : WireType} {v : WireValue} {w rest : List ℕ} → ContentsBy rules room type v w rest → type ≡ type_of_value v
value_type (is_whole n) = number_type n
value_type (is_float b e) = refl
value_type (is_double b e) = refl
value_type (is_string1 f b e) = refl
value_type (is_string4 s e b f) = refl
value_type (is_simple_list h s b e) = refl
value_type (is_list d s v) = refl
value_type (is_map d s v) = refl
value_type (is_struct d f h) = refl

-- a sort of types that no whole number has
abbrev pub NoNumbers : (WireType → Bool) → Type 0
NoNumbers sort = (sort wire.ZeroTag ≡ false) × (sort wire.Int1 ≡ false) × (sort wire.Int2 ≡ false) × (sort wire.Int4 ≡ false) × (sort wire.Int8 ≡ false)

pub of_no_number : (sort : WireType → Bool) → NoNumbers sort → (n : WireNumber) → sort (type_of_number n) ≡ false
of_no_number sort none zero_tag = none.0
of_no_number sort none (int1 n) = none.1
of_no_number sort none (int2 n) = none.2
of_no_number sort none (int4 n) = none.3
of_no_number sort none (int8 n) = none.4

-- no value has the type of an end
pub no_end : (v : WireValue) → is_end (type_of_value v) ≡ false
no_end (whole n) = of_no_number is_end (refl, refl, refl, refl, refl) n
no_end (float b) = refl
no_end (double b) = refl
no_end (string1 b) = refl
no_end (string4 b) = refl
no_end (simple_list b) = refl
no_end (list vs) = refl
no_end (map ps) = refl
no_end (struct fs) = refl

pub not_end : {rules : Rules} {room : ℕ} {type : WireType} {v : WireValue} {w rest : List ℕ} → ContentsBy rules room type v w rest → is_end type ≡ false
not_end {v = v} d = ap is_end (value_type d) ∙ no_end v
