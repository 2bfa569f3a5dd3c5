-- A response whose return code is no int is not read: its code is spelled in eight bytes, and an int is read from four at most.
use Rattle.std.proofs.Common.{◌≡◌, ◌<◌, ◌≤◌, ◌^◌, ◌+◌, ◌%◌, ℕ, zero, suc, ℤ, pos, negsuc, true, false, List, [], ◌∷◌, ◌++◌, drop, Some, None, option_map, codes, Ok, Err, FitsSigned, w64, to_z, of_z, refl, sym, ap, ◌∙◌, subst, arith, lit<}
use Rattle.std.specs.Prelude.{slice_get}
use Rattle.std.specs.Int.{byte_at, bytes_high_first}
use Rattle.std.specs.List.{AllByRecursion}
use Rattle.std.proofs.lemmas.Bool.Decides.{nat_tests}
use Rattle.std.proofs.Math.Facts.{sfits_to_z}
use Rattle.std.proofs.lemmas.Int.{of_z-to_z}
use Rattle.std.proofs.lemmas.List.Elements.{All-drop}
use Rattle.facts.specs.ResultSteps.{◌>>=◌}
use Rattle.facts.proofs.ResultLaws.{bind_gave}
use Rattle.wire_words.specs.Spelling.{head, two_complement, fits_bits, shortest, spelled_number, spelled, spelled_fields}
use Rattle.wire_words.specs.Tree.{WireNumber, int8, WireValue, whole, WireFields, no_fields, field}
use Rattle.tars_model.specs.Declarations.{nothing_declared}
use Rattle.tars_model.specs.Schemas.{nothing}
use Rattle.tars_model.specs.Types.{TyLayer}
use Rattle.tars_model.specs.Values.{is_signed}
use Rattle.tars_model.specs.declared.member.Member.{Member}
use Rattle.tars_model.specs.declared.ty.Ty.{Ty, Byte, Short, Int, Text as TextTy, Vector, Map as MapTy}
use Rattle.tars_model.specs.declared.ty.Ty.TheOpen as ty
use Rattle.tars_model.specs.declared.ty.Ty.TheVariants.{outs-Byte, outs-Short, outs-Int, outs-Vector, outs-Text, outs-Map}
use Rattle.tars_model.specs.declared.value.Value.{Value, Num}
use Rattle.tars_wire.specs.Heads.{MAX_DEPTH}
use Rattle.tars_wire.specs.Spelled.{Spelled}
use Rattle.tars_wire.specs.Writable.{Writable, FieldsWritable}
use Rattle.tars_wire.proofs.Writing.Fields.{spelled_law}
use Rattle.tars_wire.proofs.Writing.Shortest.{IsShortest, in_none, in_one, in_two, in_four, in_eight, shortest_is}
use Rattle.tars_decode.specs.declared.refuse.Misfit.TheVariants.{WrongType}
use Rattle.tars_decode.specs.Reads.{Read, Saying, said_under, in_step, misfit, says, sayings, number_as, member_of, members_of, reads}
use Rattle.tars_codec.specs.Written.{wire_value, fields_of, written}
use Rattle.tars_codec.proofs.CallerLemmas.{num_wire}
use Rattle.tars_codec.proofs.ReadBack.Members.{start_at_0, members_fit}
use Rattle.tars_codec.proofs.ReadBack.StandsFor.{depth, ComesBack}
use Rattle.tars_codec.proofs.ReadBack.Values.{comes_back}
use Rattle.tars_versions.proofs.SchemaTypes.{depth_at}
use Rattle.tars_frames.specs.Streams.{LENGTH_BYTES, framed}
use Rattle.wire_reading.specs.Readings.{AreBytes}
use Rattle.rpc_packet.specs.Bodies.{unless_refused, values_of}
use Rattle.rpc_packet.specs.Outcomes.{IsAnswerable}
use Rattle.rpc_packet.specs.Packets.{number_member, response_members, response_values, response_in, response_frame, read_response}
use Rattle.rpc_packet.specs.declared.request.Request.{Request}
use Rattle.rpc_packet.specs.declared.response.Response.{Response}
use Rattle.rpc_packet.proofs.ComesBack.{int_is_shallow}
use Rattle.rpc_packet.proofs.MemberLaws.{response_readable}
use Rattle.rpc_packet.proofs.ValuesFit.{HasResponseNumbers, response_fits}
use Rattle.servant_core.specs.Answers.{response_to}
use Rattle.run_course.proofs.Lists.{some_same, none_some}
use Rattle.run_answers.proofs.Bodies.{spelled_values}

-- ---- the code in eight bytes

-- the number that eight bytes hold of it
abbrev low_bytes : ℤ → ℕ
low_bytes n = of_z w64 n % 2 ^ 64

abbrev held_number : ℤ → ℤ
held_number n = to_z w64 (low_bytes n)

low_small : (x : ℕ) → x % 2 ^ 64 < 2 ^ 64
low_small x = omega arith

held_fits : (n : ℤ) → FitsSigned w64 (held_number n)
held_fits n = sfits_to_z (record { fits = low_small (of_z w64 n) })

same_bytes : (x : ℕ) → bytes_high_first 8 (x % 2 ^ 64) ≡ bytes_high_first 8 x
same_bytes x =
    let b7 : byte_at 7 (x % 2 ^ 64) ≡ byte_at 7 x = omega arith in
    let b6 : byte_at 6 (x % 2 ^ 64) ≡ byte_at 6 x = omega arith in
    let b5 : byte_at 5 (x % 2 ^ 64) ≡ byte_at 5 x = omega arith in
    let b4 : byte_at 4 (x % 2 ^ 64) ≡ byte_at 4 x = omega arith in
    let b3 : byte_at 3 (x % 2 ^ 64) ≡ byte_at 3 x = omega arith in
    let b2 : byte_at 2 (x % 2 ^ 64) ≡ byte_at 2 x = omega arith in
    let b1 : byte_at 1 (x % 2 ^ 64) ≡ byte_at 1 x = omega arith in
    let b0 : byte_at 0 (x % 2 ^ 64) ≡ byte_at 0 x = omega arith in
    rw (b7, b6, b5, b4, b3, b2, b1, b0) refl

held_spells : (n : ℤ) → two_complement w64 (held_number n) ≡ two_complement w64 n
unfolding two_complement
held_spells n = ap (bytes_high_first 8) (of_z-to_z w64 (low_bytes n) (low_small (of_z w64 n))) ∙ same_bytes (of_z w64 n)

wide_bits : (n : ℤ) (limit : ℕ) → limit ≤ 2147483648 → is_signed 31 n ≡ false → fits_bits limit n ≡ true → ⊥
unfolding fits_bits
wide_bits (pos n) limit few wide fits = grind (arith, nat_tests)
wide_bits (negsuc n) limit few wide fits = grind (arith, nat_tests)

in_eight_bytes : (n : ℤ) (number : WireNumber) → IsShortest n number → is_signed 31 n ≡ false → number ≡ int8 n
in_eight_bytes n number (in_none is) wide = absurd (cc (subst (λ m. is_signed 31 m ≡ false) is wide))
in_eight_bytes n number (in_one fits) wide = absurd (wide_bits n 128 (omega arith) wide fits)
in_eight_bytes n number (in_two past_one fits) wide = absurd (wide_bits n 32768 (omega arith) wide fits)
in_eight_bytes n number (in_four past_one past_two fits) wide = absurd (wide_bits n 2147483648 (omega arith) wide fits)
in_eight_bytes n number (in_eight past_one past_two past_four) wide = refl

-- ---- another value in a field

abbrev put : ℕ → WireValue → WireFields → WireFields
put k v no_fields = no_fields
put zero v (field tag w fs) = field tag v fs
put (suc k) v (field tag w fs) = field tag w (put k v fs)

put_writable : (k : ℕ) (v : WireValue) (fs : WireFields) (room from : ℕ) → Writable v room → FieldsWritable fs room from → FieldsWritable (put k v fs) room from
put_writable zero v no_fields room from own all = all
put_writable (suc k) v no_fields room from own all = all
put_writable zero v (field tag w fs) room from own all = (all.0, own, all.2)
put_writable (suc k) v (field tag w fs) room from own all = (all.0, all.1, put_writable k v fs room (tag + 1) own all.2)

put_spells : (k : ℕ) (v w : WireValue) → ((tag : ℕ) → spelled tag v ≡ spelled tag w) → (fs : WireFields) → spelled_fields (put k v fs) ≡ spelled_fields (put k w fs)
put_spells zero v w same no_fields = refl
put_spells (suc k) v w same no_fields = refl
put_spells zero v w same (field tag x fs) = ap (λ bytes. bytes ++ spelled_fields fs) (same tag)
put_spells (suc k) v w same (field tag x fs) = ap (λ bytes. spelled tag x ++ bytes) (put_spells k v w same fs)

-- ---- members that are read

member_gave : (ms : List Member) (said : List Saying) (xs : List Value) (k : ℕ) (m : Member) → members_of ms said ≡ Ok xs → slice_get ms k ≡ Some m
    → (x : Value) × (member_of m (said_under m.tag said) ≡ Ok x)
member_gave [] said xs k m is at = absurd (none_some m at)
member_gave (n ∷ ms) said xs zero m is at =
    let first = bind_gave (member_of n (said_under n.tag said)) (λ x. members_of ms said >>= λ ys. Ok (x ∷ ys)) xs is in
    (first.0, subst (λ (o : Member). member_of o (said_under o.tag said) ≡ Ok first.0) (some_same n m at) first.1)
member_gave (n ∷ ms) said xs (suc k) m is at =
    let first = bind_gave (member_of n (said_under n.tag said)) (λ x. members_of ms said >>= λ ys. Ok (x ∷ ys)) xs is in
    let others = bind_gave (members_of ms said) (λ ys. Ok (first.0 ∷ ys)) xs first.2 in
    member_gave ms said others.0 k m others.1 at

-- eight bytes are no int
no_int : (n : ℤ) → says (whole (int8 n)) nothing_declared Int ≡ misfit WrongType
no_int n = ap (λ (l : TyLayer). number_as (int8 n) l) outs-Int

-- ---- what else stands in a response

abbrev IsFlat : Ty → Type 0
IsFlat t = depth nothing_declared t < MAX_DEPTH

short_flat : IsFlat Short
short_flat = rw (depth_at [] Short ty.Short outs-Short) (lit< tt)

byte_flat : IsFlat Byte
byte_flat = rw (depth_at [] Byte ty.Byte outs-Byte) (lit< tt)

int_flat : IsFlat Int
int_flat = int_is_shallow []

text_flat : IsFlat TextTy
text_flat = rw (depth_at [] TextTy ty.Text outs-Text) (lit< tt)

bytes_flat : IsFlat (Vector Byte)
bytes_flat = rw (depth_at [] (Vector Byte) (ty.Vector Byte) (outs-Vector Byte), depth_at [] Byte ty.Byte outs-Byte) (lit< tt)

texts_flat : IsFlat (MapTy TextTy TextTy)
texts_flat = rw (depth_at [] (MapTy TextTy TextTy) (ty.Map TextTy TextTy) (outs-Map TextTy TextTy), depth_at [] TextTy ty.Text outs-Text) (lit< tt)

response_shallow : AllByRecursion (λ (m : Member). IsFlat m.ty) response_members
unfolding response_members
response_shallow = (short_flat, (byte_flat, (int_flat, (int_flat, (int_flat, (bytes_flat, (texts_flat, (text_flat, tt))))))))

come_back : (vs : List Value) → AllByRecursion (ComesBack nothing_declared) vs
come_back [] = tt
come_back (v ∷ vs) = (comes_back (nothing refl) v, come_back vs)

body_after : (bytes : List ℕ) → drop LENGTH_BYTES (framed bytes) ≡ bytes
unfolding framed
body_after bytes = refl

module _ (r : Request) (ret : ℤ) (body : List ℕ) (wide : is_signed 31 ret ≡ false) where
  abbrev own : Response
  own = response_to r ret body

  -- the same with the code 0
  abbrev plain : Response
  plain = response_to r (pos 0) body

  abbrev fields : WireFields
  fields = put 4 (whole (int8 (held_number ret))) (fields_of nothing_declared response_members (response_values plain))

  same_number : (tag : ℕ) → spelled tag (whole (int8 (held_number ret))) ≡ spelled tag (wire_value (Num ret) nothing_declared Int)
  unfolding spelled_number
  same_number tag =
      ap (λ bytes. head tag 3 ++ bytes) (held_spells ret)
      ∙ (ap (λ (n : WireNumber). spelled_number tag n) (sym (in_eight_bytes ret (shortest ret) (shortest_is ret) wide))
      ∙ ap (λ (v : WireValue). spelled tag v) (sym (num_wire (Num ret) nothing_declared Int ret refl)))

  put_own : put 4 (wire_value (Num ret) nothing_declared Int) (fields_of nothing_declared response_members (response_values plain)) ≡ fields_of nothing_declared response_members (response_values own)
  unfolding response_members
  put_own = refl

  spells_own : spelled_fields fields ≡ written nothing_declared response_members (response_values own)
  unfolding written
  spells_own =
      put_spells 4 (whole (int8 (held_number ret))) (wire_value (Num ret) nothing_declared Int) same_number (fields_of nothing_declared response_members (response_values plain))
      ∙ ap spelled_fields put_own

  not_said : (xs : List Value) → reads nothing_declared response_members fields ≡ Ok xs → ⊥
  unfolding reads response_members
  not_said xs is =
      let gave = member_gave response_members (sayings fields nothing_declared) xs 4 (number_member 5 false Int (codes "iRet")) is refl in
      refused (says (whole (int8 (held_number ret))) nothing_declared Int) gave.0 (no_int (held_number ret)) gave.1
    where
      refused : (read : Read Value) (x : Value) → read ≡ misfit WrongType → in_step 5 read ≡ Ok x → ⊥
      refused read x is e = cc (ap (in_step 5) (sym is) ∙ e)

  writable : HasResponseNumbers plain → IsAnswerable plain → FieldsWritable fields MAX_DEPTH 0
  writable numbers answerable =
      put_writable 4 (whole (int8 (held_number ret))) (fields_of nothing_declared response_members (response_values plain)) MAX_DEPTH 0 (held_fits ret)
      (members_fit nothing_declared response_members (response_values plain) 0 MAX_DEPTH (start_at_0 response_members) response_readable.rising response_shallow
      (come_back (response_values plain)) (response_fits plain numbers answerable))

  unread : AreBytes (written nothing_declared response_members (response_values own)) → HasResponseNumbers plain → IsAnswerable plain
      → values_of nothing_declared response_members (written nothing_declared response_members (response_values own)) ≡ None
  unread small numbers answerable =
      spelled_values nothing_declared response_members (written nothing_declared response_members (response_values own)) fields small spelled_so
      ∙ by_reads (reads nothing_declared response_members fields) refl
    where
      spelled_so : Spelled MAX_DEPTH (written nothing_declared response_members (response_values own)) fields
      spelled_so =
          subst (λ bytes. Spelled MAX_DEPTH bytes fields) spells_own
          (spelled_law fields (writable numbers answerable) (subst AreBytes (sym spells_own) small))

      by_reads : (read : Read (List Value)) → reads nothing_declared response_members fields ≡ read → unless_refused read ≡ None
      by_reads (Ok xs) is = absurd (not_said xs is)
      by_reads (Err why) is = refl

  pub wide_unread : HasResponseNumbers plain → IsAnswerable plain → AreBytes (response_frame own) → (response : Response) → read_response (response_frame own) ≡ Some response → ⊥
  unfolding response_frame read_response
  wide_unread numbers answerable bytes response read =
      let after = body_after (written nothing_declared response_members (response_values own)) in
      let small : AreBytes (written nothing_declared response_members (response_values own)) =
      subst AreBytes after (All-drop (λ byte. byte < 256) LENGTH_BYTES (framed (written nothing_declared response_members (response_values own))) bytes) in
      none_some response (sym (ap (λ bs. option_map response_in (values_of nothing_declared response_members bs)) after
      ∙ ap (λ o. option_map response_in o) (unread small numbers answerable)) ∙ read)
