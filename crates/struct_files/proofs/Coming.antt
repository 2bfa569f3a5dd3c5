-- What the text of a struct's values comes to, by what reading it returned.
use Rattle.std.proofs.Common.{◌≡◌, ℕ, List, sym, subst}
use Rattle.std.specs.Prelude.{Result, Ok, Err}
use Rattle.std.specs.declared.vec.Vec.{Vec}
use Rattle.hex_text.specs.HexText.{HexSpells}
use Rattle.schema_files.specs.LoadAnswers.{IsRefusedBy}
use Rattle.schema_files.specs.declared.load_fault.LoadFault.{LoadFault}
use Rattle.schema_files.specs.declared.load_fault.LoadFault.TheVariants.{Refused, Read, Memory}
use Rattle.struct_files.specs.Answers.{TextAnswer, done, refused}
use Rattle.struct_files.specs.Decoding.{value_line, refuse_line, Decodes, no_body, bad_fields, values}
use Rattle.struct_files.specs.Steps.{IsComing, IsRefusing}
use Rattle.tars_decode.specs.Decoding.{Answers, Judges}
use Rattle.tars_decode.specs.Reads.{reads}
use Rattle.tars_decode.specs.declared.halt.Refusal.TheVariants as refusal
use Rattle.tars_decode.specs.declared.refuse.Refuse.{Refuse}
use Rattle.tars_decode.specs.declared.refuse.Refuse.TheVariants as refuse
use Rattle.tars_model.specs.Declarations.{Declared, members_at}
use Rattle.tars_model.specs.declared.value.Value.{Value}
use Rattle.tars_wire.specs.Heads.{MAX_DEPTH}
use Rattle.tars_wire.specs.Spelled.{Spelled}
use Rattle.wire_words.specs.Tree.{WireFields}

module _ (A : Type 0) (Comes : TextAnswer → Type 0) where
  pub by_line : (line : List ℕ) (fault : LoadFault) → Comes (refused line) → IsRefusedBy line fault → IsComing {A = A} Comes (Err fault)
  by_line line (Refused own) comes by = subst (λ (l : List ℕ). Comes (refused l)) (sym by) comes
  by_line line Read comes by = absurd by
  by_line line Memory comes by = tt

  pub by_text : (text : List ℕ) (line : Vec ℕ A) → Comes (done text) → line.items ≡ text → IsComing Comes (Ok line)
  by_text text line comes is = subst (λ (t : List ℕ). Comes (done t)) (sym is) comes

module _ (file : List ℕ) (d : Declared) (number : ℕ) (text bytes : List ℕ) (spells : HexSpells bytes text) where
  abbrev Read_as : Result (List Value) Refuse → Type 0
  Read_as result = (fields : WireFields) → Spelled MAX_DEPTH bytes fields → Answers result (reads d (members_at d number) fields)

  pub values_read : (vs : List Value) → Judges bytes (Ok vs) → Read_as (Ok vs) → Decodes file d number text (done (value_line d number vs))
  values_read vs body read = values bytes body.fields vs spells body.spelled (read body.fields body.spelled)

  pub refused_so : (A : Type 0) (why : Refuse) (fault : LoadFault) → Judges bytes (Err why) → Read_as (Err why) → IsRefusing file why fault → IsComing {A = A} (Decodes file d number text) (Err fault)
  refused_so A (refuse.Malformed wrong) fault is read by =
      by_line A (Decodes file d number text) (refuse_line file (refuse.Malformed wrong)) fault (no_body bytes wrong spells is) by
  refused_so A (refuse.Missing path) fault body read by =
      by_line A (Decodes file d number text) (refuse_line file (refuse.Missing path)) fault (bad_fields bytes body.fields (refusal.Missing path) spells body.spelled (read body.fields body.spelled)) by
  refused_so A (refuse.Mismatch path why) fault body read by =
      by_line A (Decodes file d number text) (refuse_line file (refuse.Mismatch path why)) fault (bad_fields bytes body.fields (refusal.Mismatch path why) spells body.spelled (read body.fields body.spelled)) by
  refused_so A refuse.Memory fault is read by = subst (λ (f : LoadFault). IsComing {A = A} (Decodes file d number text) (Err f)) (sym by) tt
