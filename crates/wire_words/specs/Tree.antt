-- What stands on the wire, as trees (docs/PROTOCOL.md, "Fields"; the Tars protocol, "Data types"). The
-- code has no such tree.
use Rattle.std.specs.Prelude.{ℕ, ℤ, List}

-- a whole number, with the kind in which it stands
pub data WireNumber : Type 0 where
  zero_tag : WireNumber
  int1 : ℤ → WireNumber
  int2 : ℤ → WireNumber
  int4 : ℤ → WireNumber
  int8 : ℤ → WireNumber

-- a value; a field is a value after its tag
mutual
  pub data WireValue : Type 0 where
    whole : WireNumber → WireValue
    float : List ℕ → WireValue
    double : List ℕ → WireValue
    string1 : List ℕ → WireValue
    string4 : List ℕ → WireValue
    simple_list : List ℕ → WireValue
    list : WireValues → WireValue
    map : WirePairs → WireValue
    struct : WireFields → WireValue

  pub data WireValues : Type 0 where
    no_values : WireValues
    value : WireValue → WireValues → WireValues

  -- keys with their values
  pub data WirePairs : Type 0 where
    no_pairs : WirePairs
    pair : WireValue → WireValue → WirePairs → WirePairs

  -- tags with their values
  pub data WireFields : Type 0 where
    no_fields : WireFields
    field : ℕ → WireValue → WireFields → WireFields
