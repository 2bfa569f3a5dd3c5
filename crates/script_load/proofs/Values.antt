-- What a text says of a value, whatever is declared.
use Rattle.std.proofs.Common.{◌≡◌, ◌⊎◌, inl, inr, ℕ, List, length, Ok, Err, refl}
use Rattle.script_rules.proofs.OneRule.{OneValue, ValueOrNone}
use Rattle.tars_model.specs.Declarations.{Declared}
use Rattle.tars_model.specs.declared.value.Value.{Value}
use Rattle.value_text.specs.ReadSteps.{Read}
use Rattle.value_text.specs.Spelling.{Spells}
use Rattle.value_text.specs.ValueSteps.{value_at}
use Rattle.value_text.proofs.MapSound.{value_sound}
use Rattle.value_text.proofs.Readings.{one_reading, not_refused}

-- it says one value at most
pub one_value : OneValue
one_value d t text r s v w one two = one_reading d t text v w r s one two

-- and whether it says one is decided
pub value_or_none : (d : Declared) → ValueOrNone d
value_or_none d t text = by_read (value_at (length text) d t text) refl
  where
    by_read : (read : Read Value) → value_at (length text) d t text ≡ read
        → ((v : Value) × (rest : List ℕ) × Spells d t v text rest) ⊎ ((v : Value) (rest : List ℕ) → ¬ (Spells d t v text rest))
    by_read (Ok (v, rest)) is = inl (v, rest, value_sound (length text) d t text v rest is)
    by_read (Err stop) is = inr (not_refused d t text stop is)
