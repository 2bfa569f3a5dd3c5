-- Whether a new version can refuse values of an old one (docs/PROTOCOL.md, "Compatibility").
use Rattle.std.specs.Prelude.{ℕ, zero, suc, ◌-◌, ◌^◌, Bool, false, ◌&&◌, not, ◌==◌, if◌then◌else◌, ℤ, pos, negsuc, Option, Some, None, List, [], ◌∷◌}
use Rattle.std.specs.Int.Signed.{le_z}
use Rattle.std.specs.List.{All}
use Rattle.tars_model.specs.Declarations.{Declared, members_at}
use Rattle.tars_model.specs.Members.{HaveRisingTags}
use Rattle.tars_model.specs.Schemas.{IsTypeIn}
use Rattle.tars_model.specs.Types.{TyLayer}
use Rattle.tars_model.specs.Values.{is_byte}
use Rattle.tars_model.specs.declared.member.Member.{Member}
use Rattle.tars_model.specs.declared.ty.Ty.{Ty, out-Ty}
use Rattle.tars_model.specs.declared.ty.Ty.TheOpen as ty
use Rattle.tars_versions.specs.declared.reason_kind.ReasonKind.TheVariants.{Missing, Mismatch}
use Rattle.tars_versions.specs.Reasons.{Reason}

-- two types agree, or there is a first reason why they do not
pub data Agreement : Type 0 where
  agree : Agreement
  differ : Reason → Agreement

abbrev pub mismatch : Agreement
mismatch = differ (record { kind = Mismatch; steps = [] })

-- the same, seen from one step further out
abbrev pub at_step : ℕ → Agreement → Agreement
at_step step agree = agree
at_step step (differ reason) = differ (record { kind = reason.kind; steps = step ∷ reason.steps })

-- where the first has a reason it counts, else the second
abbrev pub both : Agreement → Agreement → Agreement
both agree second = second
both (differ reason) second = differ reason

-- ---- numbers

-- the least and the greatest number of so many bits, beside a sign or without one
abbrev pub signed_numbers : ℕ → ℤ × ℤ
signed_numbers bits = (negsuc (2 ^ bits - 1), pos (2 ^ bits - 1))

abbrev pub unsigned_numbers : ℕ → ℤ × ℤ
unsigned_numbers bits = (pos 0, pos (2 ^ bits - 1))

-- the least and the greatest number that the values of a type count as; None for a type without numbers
abbrev pub numbers_of : TyLayer → Option (ℤ × ℤ)
numbers_of ty.Bool = Some (unsigned_numbers 1)
numbers_of ty.Byte = Some (signed_numbers 7)
numbers_of ty.Short = Some (signed_numbers 15)
numbers_of ty.Int = Some (signed_numbers 31)
numbers_of (ty.Enum number) = Some (signed_numbers 31)
numbers_of ty.Long = Some (signed_numbers 63)
numbers_of ty.UByte = Some (unsigned_numbers 8)
numbers_of ty.UShort = Some (unsigned_numbers 16)
numbers_of ty.UInt = Some (unsigned_numbers 32)
numbers_of _ = None

-- the least and the greatest number that a type takes: a bool those of a byte, another type its own
abbrev pub numbers_taken : TyLayer → Option (ℤ × ℤ)
numbers_taken ty.Bool = Some (signed_numbers 7)
numbers_taken t = numbers_of t

abbrev pub lie_in : Option (ℤ × ℤ) → Option (ℤ × ℤ) → Bool
lie_in (Some inner) (Some outer) = le_z outer.0 inner.0 && le_z inner.1 outer.1
lie_in _ _ = false

abbrev pub numbers_agree : TyLayer → TyLayer → Agreement
numbers_agree t t' = if lie_in (numbers_of t) (numbers_taken t') then agree else mismatch

-- ---- vectors, maps and structs, by what is inside them

-- how an old type and a new one agree
abbrev pub Agreeing : Type 0
Agreeing = Ty → Ty → Agreement

-- an old `vector<byte>` needs a new one
abbrev pub elements_agree : Agreeing → Ty → Ty → Agreement
elements_agree inner of of' =
    if is_byte (out-Ty of) && not (is_byte (out-Ty of')) then mismatch else at_step 0 (inner of of')

abbrev pub entries_agree : Agreeing → Ty → Ty → Ty → Ty → Agreement
entries_agree inner key to key' to' = both (at_step 0 (inner key key')) (at_step 1 (inner to to'))

-- the member of a tag
abbrev pub member_with : ℕ → List Member → Option Member
member_with tag [] = None
member_with tag (m ∷ ms) = if m.tag == tag then Some m else member_with tag ms

-- a new member agrees with the old one of its tag; without one it has to be optional
abbrev pub member_agrees : Agreeing → Option Member → Member → Agreement
member_agrees inner (Some m) m' = at_step m'.tag (inner m.ty m'.ty)
member_agrees inner None m' = if m'.require then differ (record { kind = Missing; steps = m'.tag ∷ [] }) else agree

-- each new member agrees, in the order of their tags
abbrev pub members_agree : Agreeing → List Member → List Member → Agreement
members_agree inner ms [] = agree
members_agree inner ms (m' ∷ ms') = both (member_agrees inner (member_with m'.tag ms) m') (members_agree inner ms ms')

-- the rules, given how the types inside agree
abbrev pub agree_by : Agreeing → Declared → Declared → TyLayer → TyLayer → Agreement
agree_by inner d d' ty.Text ty.Text = agree
agree_by inner d d' (ty.Vector of) (ty.Vector of') = elements_agree inner of of'
agree_by inner d d' (ty.Map key to) (ty.Map key' to') = entries_agree inner key to key' to'
agree_by inner d d' (ty.Struct number) (ty.Struct number') = members_agree inner (members_at d number) (members_at d' number')
agree_by inner d d' t t' = numbers_agree t t'

-- ---- types and members

-- types whose values have fewer than so many levels, one inside the other
unfoldable pub agree_within : ℕ → Declared → Declared → Ty → Ty → Agreement
agree_within zero d d' t t' = mismatch
agree_within (suc levels) d d' t t' = agree_by (agree_within levels d d') d d' (out-Ty t) (out-Ty t')

-- one more than the greatest depth of a type of a schema, so that none has more
abbrev pub MAX_LEVELS : ℕ
MAX_LEVELS = 33

-- an old type and a new one
abbrev pub agrees : Declared → Declared → Agreeing
agrees d d' = agree_within MAX_LEVELS d d'

-- old members and new ones
abbrev pub versions_agree : Declared → List Member → Declared → List Member → Agreement
versions_agree d members d' members' = members_agree (agrees d d') members members'

-- members that may be compared with those of another version: their tags rise, and their types are over what is declared
pub record IsVersion (d : Declared) (members : List Member) : Type 0 where
  pub rising : HaveRisingTags members
  pub types : All (λ (m : Member). IsTypeIn d m.ty) members
