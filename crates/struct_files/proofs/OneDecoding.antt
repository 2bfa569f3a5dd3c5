-- Each text of a hex file comes to one answer, and no other.
use Rattle.std.proofs.Common.{◌≡◌, ◌⊎◌, inl, inr, ℕ, List, Ok, Err, refl, ap, subst}
use Rattle.hex_text.specs.HexText.{HexSpells, IsHexFault}
use Rattle.hex_text.proofs.CallerLemmas.{one_spelling, one_fault, some_outcome, octets}
use Rattle.schema_files.specs.Refusals.{refusal_line, fault_at}
use Rattle.schema_files.specs.declared.stage.Stage.TheVariants.{Hex}
use Rattle.struct_files.specs.Answers.{TextAnswer, done, refused}
use Rattle.struct_files.specs.Decoding.{value_line, refuse_line, refuse_of, Decodes, bad_hex, no_body, bad_fields, values}
use Rattle.struct_files.proofs.OneGiving.{IsSingle, IsTotal}
use Rattle.tars_decode.specs.Reads.{Read, reads}
use Rattle.tars_decode.specs.declared.refuse.Refuse.TheVariants as refuse
use Rattle.tars_model.specs.Declarations.{Declared, members_at}
use Rattle.tars_model.specs.declared.value.Value.{Value}
use Rattle.tars_wire.specs.Faults.{IsFault, HasFault}
use Rattle.tars_wire.specs.Heads.{MAX_DEPTH}
use Rattle.tars_wire.specs.Spelled.{IsBody, Spelled}
use Rattle.tars_wire.specs.declared.wire_fault.WireFault.{WireFault}
use Rattle.tars_wire.proofs.Grammar.Extends.{one_reading_law}
use Rattle.tars_wire.proofs.Machine.Faults.{some_outcome as body_or_fault, same_faults}
use Rattle.wire_words.specs.Tree.{WireFields}

module _ (hex : List ℕ) (d : Declared) (number : ℕ) where
  -- the answer by what is read of fields
  abbrev by_read : Read (List Value) → TextAnswer
  by_read (Ok vs) = done (value_line d number vs)
  by_read (Err refusal) = refused (refuse_line hex (refuse_of refusal))

  abbrev read_of : WireFields → TextAnswer
  read_of fields = by_read (reads d (members_at d number) fields)

  module _ (text : List ℕ) where
    -- what the text is: no spelling, a spelling of no body, or a body of these fields
    data Sorted : TextAnswer → Type 0 where
      no_bytes : (at : ℕ) → IsHexFault text at → Sorted (refused (refusal_line hex (fault_at Hex 1 at)))
      not_a_body : (bytes : List ℕ) (fault : WireFault) → HexSpells bytes text → IsFault bytes fault → Sorted (refused (refuse_line hex (refuse.Malformed fault)))
      a_body : (bytes : List ℕ) (fields : WireFields) → HexSpells bytes text → Spelled MAX_DEPTH bytes fields → Sorted (read_of fields)

    of_read : (bytes : List ℕ) (fields : WireFields) (read : Read (List Value)) → HexSpells bytes text → Spelled MAX_DEPTH bytes fields → reads d (members_at d number) fields ≡ read → Sorted (by_read read)
    of_read bytes fields read spells spelled is = subst (λ (r : Read (List Value)). Sorted (by_read r)) is (a_body bytes fields spells spelled)

    sorted : (answer : TextAnswer) → Decodes hex d number text answer → Sorted answer
    sorted answer (bad_hex at fault) = no_bytes at fault
    sorted answer (no_body bytes fault spells is) = not_a_body bytes fault spells is
    sorted answer (bad_fields bytes fields refusal spells spelled is) = of_read bytes fields (Err refusal) spells spelled is
    sorted answer (values bytes fields vs spells spelled is) = of_read bytes fields (Ok vs) spells spelled is

    given : (bytes : List ℕ) (fields : WireFields) (read : Read (List Value)) → HexSpells bytes text → Spelled MAX_DEPTH bytes fields → reads d (members_at d number) fields ≡ read → Decodes hex d number text (by_read read)
    given bytes fields (Ok vs) spells spelled is = values bytes fields vs spells spelled is
    given bytes fields (Err refusal) spells spelled is = bad_fields bytes fields refusal spells spelled is

    body_of : (bytes : List ℕ) (fields : WireFields) → Spelled MAX_DEPTH bytes fields → IsBody bytes
    body_of bytes fields spelled = record { fields = fields; spelled = spelled }

    same_bytes : (a b : List ℕ) → HexSpells a text → HexSpells b text → (fields : WireFields) → Spelled MAX_DEPTH b fields → Spelled MAX_DEPTH a fields
    same_bytes a b first second fields spelled = subst (λ (bytes : List ℕ). Spelled MAX_DEPTH bytes fields) (one_spelling text b a second first) spelled

    not_both : (a b : List ℕ) (fault : WireFault) (fields : WireFields) → HexSpells a text → IsFault a fault → HexSpells b text → Spelled MAX_DEPTH b fields → ⊥
    not_both a b fault fields first is second spelled = is.no_body (body_of a fields (same_bytes a b first second fields spelled))

    same : (x y : TextAnswer) → Sorted x → Sorted y → x ≡ y
    same x y (no_bytes at fault) (no_bytes other also) = ap (λ (k : ℕ). refused (refusal_line hex (fault_at Hex 1 k))) (one_fault text at other fault also)
    same x y (no_bytes at fault) (not_a_body bytes wrong spells is) = absurd (fault.no_text (bytes, spells))
    same x y (no_bytes at fault) (a_body bytes fields spells spelled) = absurd (fault.no_text (bytes, spells))
    same x y (not_a_body bytes wrong spells is) (no_bytes at fault) = absurd (fault.no_text (bytes, spells))
    same x y (not_a_body bytes wrong spells is) (not_a_body other fault also own) =
        ap (λ (f : WireFault). refused (refuse_line hex (refuse.Malformed f))) (same_faults bytes (octets bytes text spells) wrong fault is (subst (λ (b : List ℕ). IsFault b fault) (one_spelling text other bytes also spells) own))
    same x y (not_a_body bytes wrong spells is) (a_body other fields also spelled) = absurd (not_both bytes other wrong fields spells is also spelled)
    same x y (a_body bytes fields spells spelled) (no_bytes at fault) = absurd (fault.no_text (bytes, spells))
    same x y (a_body bytes fields spells spelled) (not_a_body other fault also own) = absurd (not_both other bytes fault fields also own spells spelled)
    same x y (a_body bytes fields spells spelled) (a_body other others also own) =
        ap read_of (one_reading_law MAX_DEPTH MAX_DEPTH bytes fields others spelled (same_bytes bytes other spells also others own))

    some : (answer : TextAnswer) × Decodes hex d number text answer
    some = by_text (some_outcome text)
      where
        by_bytes : (bytes : List ℕ) → HexSpells bytes text → IsBody bytes ⊎ HasFault bytes → (answer : TextAnswer) × Decodes hex d number text answer
        by_bytes bytes spells (inl body) = (_, given bytes body.fields (reads d (members_at d number) body.fields) spells body.spelled refl)
        by_bytes bytes spells (inr fault) = (_, no_body bytes fault.0 spells fault.1)

        by_text : ((bytes : List ℕ) × HexSpells bytes text) ⊎ ((at : ℕ) × IsHexFault text at) → (answer : TextAnswer) × Decodes hex d number text answer
        by_text (inl spelt) = by_bytes spelt.0 spelt.1 (body_or_fault spelt.0 (octets spelt.0 text spelt.1))
        by_text (inr fault) = (_, bad_hex fault.0 fault.1)

pub decodes_single : (hex : List ℕ) → IsSingle (Decodes hex)
decodes_single hex = λ d number text a b first second. same hex d number text a b (sorted hex d number text a first) (sorted hex d number text b second)

pub decodes_total : (hex : List ℕ) (d : Declared) → IsTotal (Decodes hex) d
decodes_total hex d = λ number text. some hex d number text
