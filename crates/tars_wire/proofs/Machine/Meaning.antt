-- What the awaited parts mean, by any rules: some bytes that the grammar spells, and then what follows.
-- `After` is what may follow.
use Rattle.std.proofs.Common.{◌⊎◌, ◌≡◌, ◌<◌, ◌≤◌, ℕ, zero, suc, ◌+◌, ◌*◌, true, false, List, [], ◌∷◌, None, Result, Ok, Err}
use Rattle.wire_words.specs.Tree.{WireValue, WireValues, WirePairs, WireFields}
use Rattle.tars_wire.specs.declared.wire_type.WireType.{WireType}
use Rattle.tars_wire.specs.declared.wire_type.WireType.TheVariants as wire
use Rattle.tars_wire.specs.declared.wire_fault.WireWhy.{WireWhy}
use Rattle.tars_wire.specs.declared.head_context.HeadContext.{HeadContext}
use Rattle.tars_wire.specs.declared.head_context.HeadContext.TheVariants as heads
use Rattle.tars_wire.specs.declared.head.FirstByte.{FirstByte}
use Rattle.tars_wire.specs.declared.head.FirstByte.TheVariants as first
use Rattle.tars_wire.specs.Heads.{MAX_DEPTH, Head}
use Rattle.tars_wire.specs.Spelled.{Rules, FixedHead, SizeBy, ContentsBy, ValuesBy, PairsBy, FieldsBy}
use Rattle.tars_wire.specs.MachineSteps.{takes, tag_fault, is_full, is_deep, Kind, of_bytes, of_values, of_pairs, Context, in_struct, an_element, a_key, its_value, a_size, simple_head, head_context, Part, raw, size_first, size_later, head_of, contents, after, Inside, parts, tag_of, State, within, body_tag}

-- so many bytes
abbrev pub Run : ℕ → List ℕ → (List ℕ → Type 0) → Type 0
Run zero w After = After w
Run (suc n) [] After = ⊥
Run (suc n) (b ∷ w) After = (b < 256) × Run n w After

-- as much as a size of n counts
abbrev pub Counted : Rules → Kind → ℕ → List ℕ → (List ℕ → Type 0) → Type 0
Counted rules of_bytes n w After = Run n w After
Counted rules (of_values room) n w After = (vs : WireValues) × (rest : List ℕ) × ValuesBy rules room n vs w rest × After rest
Counted rules (of_pairs room) n w After = (ps : WirePairs) × (rest : List ℕ) × PairsBy rules room n ps w rest × After rest

-- so many more bytes of a number, and as much as it counts
abbrev pub Later : Rules → Kind → ℕ → ℕ → List ℕ → (List ℕ → Type 0) → Type 0
Later rules kind zero so_far w After = Counted rules kind so_far w After
Later rules kind (suc more) so_far [] After = ⊥
Later rules kind (suc more) so_far (b ∷ w) After = (b < 256) × Later rules kind more (so_far * 256 + b) w After

-- the first of so many more bytes of a size, which is not negative, or a negative one that counts nothing
abbrev pub First : Rules → Kind → ℕ → List ℕ → (List ℕ → Type 0) → Type 0
First rules kind more [] After = ⊥
First rules kind more (b ∷ w) After = ((b < 128) × Later rules kind more b w After) ⊎ ((rules.sizes ≡ false) × (128 ≤ b) × (b < 256) × Run more w After)

abbrev pub Sized : Rules → Kind → List ℕ → (List ℕ → Type 0) → Type 0
Sized rules kind w After = (n : ℕ) × (mid : List ℕ) × SizeBy rules n w mid × Counted rules kind n mid After

abbrev pub InContext : Rules → Context → List ℕ → (List ℕ → Type 0) → Type 0
InContext rules (in_struct from room) w After = (fs : WireFields) × (mid : List ℕ) × (rest : List ℕ) × FieldsBy rules room from fs w mid × FixedHead rules.fixed_tags 0 wire.StructEnd mid rest × After rest
InContext rules (an_element more room) w After = Counted rules (of_values room) (suc more) w After
InContext rules (a_key more room) w After = Counted rules (of_pairs room) (suc more) w After
InContext rules (its_value more room) w After = (type : WireType) × (v : WireValue) × (following : List ℕ) × (next : List ℕ) × FixedHead rules.fixed_tags 1 type w following × ContentsBy rules room type v following next × Counted rules (of_pairs room) more next After
InContext rules (a_size kind) w After = Sized rules kind w After
InContext rules simple_head w After = (following : List ℕ) × FixedHead rules.fixed_tags 0 wire.Int1 w following × Sized rules of_bytes following After

abbrev pub Awaits : Rules → Part → List ℕ → (List ℕ → Type 0) → Type 0
Awaits rules (raw more) w After = Run (suc more) w After
Awaits rules (size_first kind more) w After = First rules kind more w After
Awaits rules (size_later kind more so_far) w After = Later rules kind (suc more) so_far w After
Awaits rules (head_of context) w After = InContext rules context w After

abbrev pub Parts : Rules → List Part → List ℕ → (List ℕ → Type 0) → Type 0
Parts rules [] w After = After w
Parts rules (part ∷ below) w After = Awaits rules part w (λ v. Parts rules below v After)

-- what comes after a long head's first byte
abbrev pub Tagged : Rules → HeadContext → WireType → (WireType → ℕ → List ℕ → Type 0) → List ℕ → Type 0
Tagged rules context type Following [] = ⊥
Tagged rules context type Following (tag ∷ w) = (tag < 256) × (tag_fault rules context type tag ≡ None) × Following type tag w

abbrev pub Insides : Rules → Inside → List ℕ → (List ℕ → Type 0) → Type 0
Insides rules (parts ps) w After = Parts rules ps w After
Insides rules (tag_of context type below) w After = Tagged rules (head_context context) type (λ ty tag v. Parts rules (after context tag ty below) v After) w

-- fields to the end
abbrev pub Body : Rules → ℕ → List ℕ → Type 0
Body rules from w = (fs : WireFields) × FieldsBy rules MAX_DEPTH from fs w []

abbrev pub body_after : Rules → WireType → ℕ → List ℕ → Type 0
body_after rules type tag w = Parts rules (contents MAX_DEPTH type []) w (Body rules (tag + 1))

abbrev pub Language : Rules → State → List ℕ → Type 0
Language rules (within inside from) w = Insides rules inside w (Body rules from)
Language rules (body_tag from type) w = Tagged rules (heads.Body from) type (body_after rules) w

-- a head that may stand in a context, and what comes after it
pub record Form (rules : Rules) (context : HeadContext) (w : List ℕ) (Following : WireType → ℕ → List ℕ → Type 0) : Type 0 where
  pub type : WireType
  pub tag : ℕ
  pub rest : List ℕ
  pub head : Head tag type w rest
  pub taken : takes context type ≡ true
  pub tag_fits : tag_fault rules context type tag ≡ None
  pub not_full : is_full rules context type ≡ false
  pub not_deep : is_deep rules context type ≡ false
  pub following : Following type tag rest

-- the same, by what the first byte says
abbrev pub Said : Rules → HeadContext → (WireType → ℕ → List ℕ → Type 0) → Result FirstByte WireWhy → List ℕ → Type 0
Said rules context Following (Ok (first.Whole head)) w = Following head.kind head.tag w
Said rules context Following (Ok (first.Long type)) w = Tagged rules context type Following w
Said rules context Following (Err fault) w = ⊥
