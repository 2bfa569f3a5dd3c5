-- Each text of a value file comes to one answer, and no other.
use Rattle.std.proofs.Common.{◌≡◌, ◌⊎◌, inl, inr, ◌-◌, ℕ, ℤ, true, List, [], ◌∷◌, length, refl, sym, ap, ◌∙◌, arith}
use Rattle.schema_files.specs.Refusals.{refusal_line, fault_at}
use Rattle.schema_files.specs.declared.stage.Stage.TheVariants as stage
use Rattle.struct_files.specs.Answers.{TextAnswer, refused, done}
use Rattle.struct_files.specs.Encoding.{hex_line, Encodes, bad_value, body}
use Rattle.struct_files.proofs.OneGiving.{IsSingle, IsTotal}
use Rattle.tars_codec.specs.Written.{written}
use Rattle.tars_model.specs.Declarations.{Declared, members_at}
use Rattle.tars_model.specs.Schemas.{IsSchema}
use Rattle.tars_model.specs.Types.{TyLayer}
use Rattle.tars_model.specs.Values.{is_number_of}
use Rattle.tars_model.specs.declared.ty.Ty.{out-Ty}
use Rattle.tars_model.specs.declared.ty.Ty.TheOpen as kinds
use Rattle.tars_model.specs.declared.ty.Ty.TheVariants.{Struct, outs-Struct}
use Rattle.tars_model.specs.declared.value.Pair.{Pair}
use Rattle.tars_model.specs.declared.value.Value.{Value, out-Value}
use Rattle.tars_model.specs.declared.value.Value.TheOpen as opened
use Rattle.tars_model.specs.declared.value.Value.TheVariants as value
use Rattle.value_text.specs.Faults.{WholeFaultOf, FaultOf}
use Rattle.value_text.specs.Faults as faults
use Rattle.value_text.specs.Spelling.{Spells, IsWhole, past_gap}
use Rattle.value_text.specs.Spelling as spelling
use Rattle.value_text.specs.ValueWhy.{number_of}
use Rattle.value_text.specs.declared.value_fault.ValueWhy.{ValueWhy}
use Rattle.value_text.specs.declared.value_fault.ValueWhy.TheVariants.{Unexpected}
use Rattle.value_text.proofs.Breaking.Verdicts.{some_fault}
use Rattle.value_text.proofs.Breaking.Wholes.{one_whole_fault, no_whole_fault}
use Rattle.value_text.proofs.Readings.{one_reading}

-- a struct's value, opened
abbrev of_members : List Value → opened.Value-F Value Pair
of_members vs = opened.Struct vs

same_members : (vs ws : List Value) → of_members vs ≡ of_members ws → vs ≡ ws
same_members vs ws is = cc

module _ (file : List ℕ) (d : Declared) (number : ℕ) (text : List ℕ) where
  abbrev Comes : TextAnswer → Type 0
  Comes answer = Encodes file d number text answer

  abbrev fault_answer : ℕ → ValueWhy → TextAnswer
  fault_answer at why = refused (refusal_line file (fault_at stage.Value (number_of why) at))

  same_fault : (at other : ℕ) (why reason : ValueWhy) → (at ≡ other) × (why ≡ reason) → fault_answer at why ≡ fault_answer other reason
  same_fault at other why reason same = ap (λ (k : ℕ). fault_answer k why) same.0 ∙ ap (λ (w : ValueWhy). fault_answer other w) same.1

  same_body : (vs ws : List Value) → value.Struct vs ≡ value.Struct ws → done (hex_line (written d (members_at d number) vs)) ≡ done (hex_line (written d (members_at d number) ws))
  same_body vs ws is = ap (λ (own : List Value). done (hex_line (written d (members_at d number) own))) (same_members vs ws (sym (value.outs-Struct vs) ∙ ap out-Value is ∙ value.outs-Struct ws))

  same : (a b : TextAnswer) → Comes a → Comes b → a ≡ b
  same a b (bad_value at why fault) (bad_value other reason fault_too) = same_fault at other why reason (one_whole_fault d (Struct number) text at other why reason fault fault_too)
  same a b (bad_value at why fault) (body ws whole) = absurd (no_whole_fault d (Struct number) text (value.Struct ws) at why whole fault)
  same a b (body vs whole) (bad_value at why fault) = absurd (no_whole_fault d (Struct number) text (value.Struct vs) at why whole fault)
  same a b (body vs whole) (body ws whole_too) = same_body vs ws (one_reading d (Struct number) text (value.Struct vs) (value.Struct ws) whole.0 whole_too.0 whole.1 whole_too.1).0

  -- the type is that of a struct
  kind_is : (t : TyLayer) → out-Ty (Struct number) ≡ t → kinds.Struct number ≡ t
  kind_is t is = sym (outs-Struct number) ∙ is

  no_number : (n : ℤ) → is_number_of (out-Ty (Struct number)) n ≡ true → ⊥
  no_number n is = let own : is_number_of (kinds.Struct number) n ≡ true = rw (outs-Struct number) at is in cc

  -- a value of the type has members
  says_members : {v : Value} {rest : List ℕ} → Spells d (Struct number) v text rest → (vs : List Value) × (v ≡ value.Struct vs)
  says_members (spelling.truth b kind is t) = absurd (let own = kind_is _ kind in cc)
  says_members (spelling.number n is_number is says) = absurd (no_number n is_number)
  says_members (spelling.text s inside kind is t says) = absurd (let own = kind_is _ kind in cc)
  says_members (spelling.blob of s inside kind byte is t says) = absurd (let own = kind_is _ kind in cc)
  says_members (spelling.no_elements of inside kind byte is t says) = absurd (let own = kind_is _ kind in cc)
  says_members (spelling.elements of vs inside kind byte is t says) = absurd (let own = kind_is _ kind in cc)
  says_members (spelling.no_entries key to inside kind is t says) = absurd (let own = kind_is _ kind in cc)
  says_members (spelling.entries key to ps all inside kind is t says placed) = absurd (let own = kind_is _ kind in cc)
  says_members (spelling.members k vs inside kind is t says) = (vs, is)

  by_left : (v : Value) (rest left : List ℕ) → past_gap rest ≡ left → Spells d (Struct number) v text rest → (answer : TextAnswer) × Comes answer
  by_left v rest [] none says =
      let own = says_members says in
      (_, body own.0 (rest, rw own.1 at says, none))
  by_left v rest (b ∷ left) some says = (_, bad_value (length text - length (past_gap rest)) Unexpected (faults.after_value rest refl says (rw some (omega arith)) refl))

  some : IsSchema d → (answer : TextAnswer) × Comes answer
  some schema = by_text (some_fault d (Struct number) text schema)
    where
      by_text : ((v : Value) × (rest : List ℕ) × Spells d (Struct number) v text rest) ⊎ ((at : ℕ) × (why : ValueWhy) × FaultOf d (Struct number) text at why) → (answer : TextAnswer) × Comes answer
      by_text (inl says) = by_left says.0 says.1 (past_gap says.1) refl says.2
      by_text (inr fault) = (_, bad_value fault.0 fault.1 (faults.in_value fault.2))

pub encodes_single : (values : List ℕ) → IsSingle (Encodes values)
encodes_single values = λ d number text a b first second. same values d number text a b first second

pub encodes_total : (values : List ℕ) (d : Declared) → IsSchema d → IsTotal (Encodes values) d
encodes_total values d schema = λ number text. some values d number text schema
