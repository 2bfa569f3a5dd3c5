-- What a text says, and what is read of it.
use Rattle.std.proofs.Common.{◌≡◌, ◌<◌, ◌-◌, ◌^◌, ℕ, true, List, ◌++◌, length, length-append, drop, Result, Ok, Err, sym, ap, ◌∙◌, subst, arith}
use Rattle.tars_model.specs.Declarations.{Declared}
use Rattle.tars_model.specs.Schemas.{IsSchema}
use Rattle.tars_model.specs.Values.{told}
use Rattle.tars_model.specs.declared.ty.Ty.{Ty}
use Rattle.tars_model.specs.declared.value.Value.{Value}
use Rattle.value_text.specs.Answers.{IsEnd}
use Rattle.value_text.specs.Printed.{has_bytes, printed}
use Rattle.value_text.specs.ReadSteps.{Stop, Fails}
use Rattle.value_text.specs.ValueSteps.{value_at}
use Rattle.value_text.specs.Spelling.{SpellsBy, ALL}
use Rattle.value_text.specs.declared.halt.Halt.{Halt}
use Rattle.value_text.specs.declared.halt.Halt.TheVariants as halts
use Rattle.value_text.specs.declared.value_fault.ValueWhy.{ValueWhy}
use Rattle.value_text.proofs.Complete.{value_is_read}
use Rattle.value_text.proofs.Fits as fitting
use Rattle.value_text.proofs.MapSound.{value_sound}
use Rattle.value_text.proofs.Octets.{value_octets}
use Rattle.value_text.proofs.PrintedParts.{printed_says}
use Rattle.value_text.proofs.SchemaNames.{schema_names}
use Rattle.value_text.proofs.Signs.{read_ok, gives}
use Rattle.value_text.proofs.Suffixes.{value_ends, rest_is}

abbrev failed : {A : Type 0} → Stop → Result A Stop
failed stop = Err stop

module _ (d : Declared) (t : Ty) (text : List ℕ) where
  module _ (v : Value) (rest : List ℕ) (is : value_at (length text) d t text ≡ Ok (v, rest)) where
    pub read_spells : SpellsBy ALL d t v text (drop (length text - length rest) text)
    read_spells =
        let s = value_sound (length text) d t text v rest is in
        subst (SpellsBy ALL d t v text) (rest_is text rest (value_ends s)) s

    pub read_fits : length text < 2 ^ 32 → (told v).fits d t ≡ true
    read_fits short = fitting.value_fits (value_sound (length text) d t text v rest is) short

    pub read_octets : has_bytes v ≡ true
    read_octets = value_octets (value_sound (length text) d t text v rest is)

    pub read_only : (w : Value) (after : List ℕ) → SpellsBy ALL d t w text after → (v ≡ w) × (length text - length rest ≡ length text - length after)
    read_only w after s =
        let same = gives v w rest after (sym is ∙ value_is_read (length text) s (omega arith)) in
        (same.0, ap (λ (r : List ℕ). length text - length r) same.1)

  pub not_refused : (stop : Stop) → value_at (length text) d t text ≡ Err stop → (w : Value) (after : List ℕ) → SpellsBy ALL d t w text after → ⊥
  not_refused stop is w after s = apart stop (sym is ∙ value_is_read (length text) s (omega arith))
    where
      apart : (stop : Stop) → failed stop ≡ read_ok w after → ⊥
      apart stop e = cc

-- where reading stops, the text says no value
pub stopped : (d : Declared) (t : Ty) (text bytes left : List ℕ) (e : Halt) (why : ValueWhy) → e ≡ halts.Bad why → bytes ≡ text → Fails e left (value_at (length text) d t bytes) → (w : Value) (after : List ℕ) → SpellsBy ALL d t w text after → ⊥
stopped d t text bytes left (halts.Bad why') why is same h w after s =
    not_refused d t text (record { left = left; why = why' }) (ap (value_at (length text) d t) (sym same) ∙ h) w after s
stopped d t text bytes left halts.Memory why is same h w after s = absurd cc

-- a text says one value, and one rest comes after it
pub one_reading : (d : Declared) (t : Ty) (text : List ℕ) (v w : Value) (r s : List ℕ) → SpellsBy ALL d t v text r → SpellsBy ALL d t w text s → (v ≡ w) × (r ≡ s)
one_reading d t text v w r s one two = gives v w r s (sym (value_is_read (length text) one (omega arith)) ∙ value_is_read (length text) two (omega arith))

-- ---- what is printed

module _ (d : Declared) (t : Ty) (text : List ℕ) (v : Value) (rest : List ℕ) (schema : IsSchema d) (fit : (told v).fits d t ≡ true) (bytes : has_bytes v ≡ true) (ends : IsEnd rest) (is : text ≡ printed d t v ++ rest) where
  pub printed_spells : SpellsBy ALL d t v text rest
  printed_spells = subst (λ (b : List ℕ). SpellsBy ALL d t v b rest) (sym is) (printed_says v d t rest (schema_names d schema) fit bytes ends)

  printed_taken : length text - length rest ≡ length (printed d t v)
  printed_taken = ap (λ (l : List ℕ). length l - length rest) is ∙ ap (λ (n : ℕ). n - length rest) (length-append (printed d t v) rest) ∙ omega arith

  pub printed_read : (w : Value) (taken : ℕ) → ((u : Value) (after : List ℕ) → SpellsBy ALL d t u text after → (w ≡ u) × (taken ≡ length text - length after)) → (w ≡ v) × (taken ≡ length (printed d t v))
  printed_read w taken only = let same = only v rest printed_spells in (same.0, same.1 ∙ printed_taken)
