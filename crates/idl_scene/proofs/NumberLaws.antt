-- Numbers as the code keeps them.
use Rattle.std.proofs.Common.{◌≡◌, ℕ, zero, suc, ◌^◌, ◌-◌, ◌==◌, ◌≤◌, ◌&&◌, Bool, true, false, cond, is_some, Option, Some, None, List, drop, nat_le, nat_lt, ℤ, refl, ap, ◌∙◌, arith}
use Rattle.std.specs.Prelude.{pos, negsuc, IfSome, slice_index}
use Rattle.std.proofs.lemmas.Grind.{common_steps}
use Rattle.idl_lex.specs.Forms.{magnitude, is_in_range}
use Rattle.idl_lex.specs.Meanings.{negative, whole_number}
use Rattle.idl_parse.specs.declared.tree.type_tree.BasicType.{BasicType}
use Rattle.idl_parse.specs.declared.tree.type_tree.BasicType.TheVariants as basics
use Rattle.idl_parse.specs.declared.tree.type_tree.TypeTree.TheOpen as layer
use Rattle.tars_model.specs.Values.{is_signed, is_unsigned}
use Rattle.idl_scene.specs.Known.{Scene, is_enum}
use Rattle.idl_scene.specs.Literals.{is_number_of_word, fits_number}
use Rattle.idl_scene.specs.Types.{TypeLayer, meaning_of}
use Rattle.idl_scene.specs.NumberSteps.{long_of, tag_number, tag_of_option, int_of, int_of_option}

below_minus : (m : ℕ) → nat_le m (2 ^ 63) ≡ is_signed 63 (negative m)
below_minus zero = refl
below_minus (suc m) = grind (arith, common_steps)

below_plus : (m : ℕ) → nat_le m (2 ^ 63 - 1) ≡ is_signed 63 (pos m)
below_plus m = grind (arith, common_steps)

by_sign : (b : Bool) (m n : ℕ) → cond b (nat_le m (2 ^ 63)) (nat_le n (2 ^ 63 - 1)) ≡ is_signed 63 (cond b (negative m) (pos n))
by_sign true m n = below_minus m
by_sign false m n = below_plus n

range_is : (w : List ℕ) → is_in_range w ≡ is_signed 63 (whole_number w)
range_is w = by_sign (slice_index w 0 == 45) (magnitude (drop 1 w)) (magnitude w)

kept : (b : Bool) (n : ℤ) (r : Option ℤ) → is_some r ≡ b → IfSome r (λ m. m ≡ n) → r ≡ cond b (Some n) None
kept true n None some is = cc
kept true n (Some m) some is = ap (λ (z : ℤ). Some z) is
kept false n None some is = refl
kept false n (Some m) some is = cc

pub long_is : (r : Option ℤ) (w : List ℕ) → is_some r ≡ is_in_range w → IfSome r (λ m. m ≡ whole_number w) → r ≡ long_of (whole_number w)
long_is r w some is = kept (is_signed 63 (whole_number w)) (whole_number w) r (some ∙ range_is w) is

-- a number that is no i64 is of no type
record IsOut (z : ℤ) : Type 0 where
  seven : is_signed 7 z ≡ false
  fifteen : is_signed 15 z ≡ false
  thirty_one : is_signed 31 z ≡ false
  eight : is_unsigned 8 z ≡ false
  sixteen : is_unsigned 16 z ≡ false
  thirty_two : is_unsigned 32 z ≡ false

small : (bits n : ℕ) → bits ≤ 2 ^ 63 → nat_lt n (2 ^ 63) ≡ false → nat_lt n bits ≡ false
small bits n le is = grind (arith, common_steps)

out_of_range : (z : ℤ) → is_signed 63 z ≡ false → IsOut z
out_of_range (pos n) is = record {
  seven = small (2 ^ 7) n (omega arith) is;
  fifteen = small (2 ^ 15) n (omega arith) is;
  thirty_one = small (2 ^ 31) n (omega arith) is;
  eight = small (2 ^ 8) n (omega arith) is;
  sixteen = small (2 ^ 16) n (omega arith) is;
  thirty_two = small (2 ^ 32) n (omega arith) is;
}
out_of_range (negsuc n) is = record {
  seven = small (2 ^ 7) n (omega arith) is;
  fifteen = small (2 ^ 15) n (omega arith) is;
  thirty_one = small (2 ^ 31) n (omega arith) is;
  eight = refl;
  sixteen = refl;
  thirty_two = refl;
}

no_word : (basic : BasicType) (z : ℤ) → is_signed 63 z ≡ false → IsOut z → is_number_of_word basic z ≡ false
no_word basics.Byte z is out = out.seven
no_word basics.Short z is out = out.fifteen
no_word basics.Int z is out = out.thirty_one
no_word basics.Long z is out = is
no_word basics.UnsignedByte z is out = out.eight
no_word basics.UnsignedShort z is out = out.sixteen
no_word basics.UnsignedInt z is out = out.thirty_two
no_word basics.Bool z is out = refl
no_word basics.Float z is out = refl
no_word basics.Double z is out = refl
no_word basics.Text z is out = refl

and_false : (a b : Bool) → b ≡ false → (a && b) ≡ false
and_false true b is = is
and_false false b is = refl

no_layer : (s : Scene) (l : TypeLayer) (z : ℤ) → is_signed 63 z ≡ false → fits_number s l z ≡ false
no_layer s (layer.Basic at basic) z is = no_word basic z is (out_of_range z is)
no_layer s (layer.Vector at element) z is = refl
no_layer s (layer.Map at key value) z is = refl
no_layer s (layer.Named name) z is = and_false (is_enum (meaning_of s name)) (is_signed 31 z) (out_of_range z is).thirty_one

none_out : (z : ℤ) → long_of z ≡ None → is_signed 63 z ≡ false
none_out z e = by (is_signed 63 z) e
  where
    by : (b : Bool) → cond b (Some z) None ≡ None → b ≡ false
    by true e = cc
    by false e = refl

pub none_fits : (s : Scene) (l : TypeLayer) (z : ℤ) → long_of z ≡ None → fits_number s l z ≡ false
none_fits s l z e = no_layer s l z (none_out z e)

-- a tag is an i64
pub tag_of_long : (z : ℤ) → tag_of_option (long_of z) ≡ tag_number z
tag_of_long (pos n) = by (nat_lt n (2 ^ 63)) refl
  where
    by : (b : Bool) → nat_lt n (2 ^ 63) ≡ b → tag_of_option (cond b (Some (pos n)) None) ≡ tag_number (pos n)
    by true e = refl
    by false e = rw (small 256 n (omega arith) e) refl
tag_of_long (negsuc n) = by (nat_lt n (2 ^ 63))
  where
    by : (b : Bool) → tag_of_option (cond b (Some (negsuc n)) None) ≡ None
    by true = refl
    by false = refl

-- an int is an i64
pub int_of_long_is : (z : ℤ) → int_of_option (long_of z) ≡ int_of z
int_of_long_is z = by (is_signed 63 z) refl
  where
    by : (b : Bool) → is_signed 63 z ≡ b → int_of_option (cond b (Some z) None) ≡ int_of z
    by true e = refl
    by false e = rw (out_of_range z e).thirty_one refl
