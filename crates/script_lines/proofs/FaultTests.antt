-- The faults of a line that says something, as tests.
use Rattle.std.proofs.Common.{◌≡◌, ℕ, ◌≤◌, Bool, true, false, if◌then◌else◌, not, ◌&&◌, ◌||◌, leb, ltb, List, length, Option, Some, None, Result, Ok, Err, refl, ap, subst, arith, ◌⊎◌, inl, inr}
use Rattle.std.specs.Prelude.{is_none, count_by}
use Rattle.std.specs.List.{list_any}
use Rattle.std.proofs.lemmas.Bool.{and_parts, and_from, leb-true, le-leb, ltb-true, lt-ltb}
use Rattle.script_lines.specs.Forms.{HeaderForm, client, server, interface, object, servant, queue, Said, skipped, header, event, Says}
use Rattle.script_lines.specs.Objects.{Object, SaysObject}
use Rattle.script_lines.specs.Faults.{Line, is_event, is_call, is_again, is_in_range, HasFault, HasNoFault}
use Rattle.script_lines.specs.FaultNumbers.{number_of}
use Rattle.script_lines.specs.TextLimits.{MAX_LINE, MAX_CALLS}
use Rattle.script_lines.specs.ObjectSteps.{object_at}
use Rattle.script_lines.specs.declared.fault.ScriptWhy.{ScriptWhy}
use Rattle.script_lines.specs.declared.fault.ScriptWhy.TheVariants.{BadLine, Order, Missing, Twice, BadObject, BadNumber, TooMany}
use Rattle.script_lines.proofs.FormLaws.{one_said}
use Rattle.script_lines.proofs.ObjectLaws.{object_takes, object_again}

-- whether a line comes after an event, stands twice, has a bad object or a bad number, or is too much
pub record Tests : Type 0 where
  pub order : Bool
  pub twice : Bool
  pub object : Bool
  pub number : Bool
  pub many : Bool

abbrev pub tests : Bool → Bool → Bool → Bool → Bool → Tests
tests order twice bad number many = record { order = order; twice = twice; object = bad; number = number; many = many }

abbrev pub fails : Tests → ScriptWhy → Bool
fails t BadLine = false
fails t Order = t.order
fails t Missing = false
fails t Twice = t.twice
fails t BadObject = t.object
fails t BadNumber = t.number
fails t TooMany = t.many

-- the first of these, or what there is without any
abbrev pub verdict : {X : Type 0} → Tests → X → Result X ScriptWhy
verdict t x =
    if t.order then Err Order else (if t.twice then Err Twice else (if t.object then Err BadObject
    else (if t.number then Err BadNumber else (if t.many then Err TooMany else Ok x))))

abbrev Least : Tests → ScriptWhy → Type 0
Least t why = (other : ScriptWhy) → fails t other ≡ true → number_of why ≤ number_of other

least_order : (t : Tests) → Least t Order
least_order t BadLine e = cc
least_order t Order e = omega arith
least_order t Missing e = cc
least_order t Twice e = omega arith
least_order t BadObject e = omega arith
least_order t BadNumber e = omega arith
least_order t TooMany e = omega arith

least_twice : (t : Tests) → t.order ≡ false → Least t Twice
least_twice t o BadLine e = cc
least_twice t o Order e = cc
least_twice t o Missing e = cc
least_twice t o Twice e = omega arith
least_twice t o BadObject e = omega arith
least_twice t o BadNumber e = omega arith
least_twice t o TooMany e = omega arith

least_object : (t : Tests) → t.order ≡ false → t.twice ≡ false → Least t BadObject
least_object t o w BadLine e = cc
least_object t o w Order e = cc
least_object t o w Missing e = cc
least_object t o w Twice e = cc
least_object t o w BadObject e = omega arith
least_object t o w BadNumber e = omega arith
least_object t o w TooMany e = omega arith

least_number : (t : Tests) → t.order ≡ false → t.twice ≡ false → t.object ≡ false → Least t BadNumber
least_number t o w b BadLine e = cc
least_number t o w b Order e = cc
least_number t o w b Missing e = cc
least_number t o w b Twice e = cc
least_number t o w b BadObject e = cc
least_number t o w b BadNumber e = omega arith
least_number t o w b TooMany e = omega arith

least_many : (t : Tests) → t.order ≡ false → t.twice ≡ false → t.object ≡ false → t.number ≡ false → Least t TooMany
least_many t o w b n BadLine e = cc
least_many t o w b n Order e = cc
least_many t o w b n Missing e = cc
least_many t o w b n Twice e = cc
least_many t o w b n BadObject e = cc
least_many t o w b n BadNumber e = cc
least_many t o w b n TooMany e = omega arith

none_fails : (t : Tests) → t.order ≡ false → t.twice ≡ false → t.object ≡ false → t.number ≡ false → t.many ≡ false → (why : ScriptWhy) → fails t why ≡ false
none_fails t o w b n m BadLine = refl
none_fails t o w b n m Order = o
none_fails t o w b n m Missing = refl
none_fails t o w b n m Twice = w
none_fails t o w b n m BadObject = b
none_fails t o w b n m BadNumber = n
none_fails t o w b n m TooMany = m

-- what a verdict says
abbrev pub Judges : {X : Type 0} → Tests → X → Result X ScriptWhy → Type 0
Judges t x (Ok y) = ((why : ScriptWhy) → fails t why ≡ false) × (x ≡ y)
Judges t x (Err why) = (fails t why ≡ true) × ((other : ScriptWhy) → fails t other ≡ true → number_of why ≤ number_of other)

pub verdict_judges : {X : Type 0} (t : Tests) (x : X) → Judges t x (verdict t x)
verdict_judges {X} t x = by_order t.order refl
  where
    by_many : t.order ≡ false → t.twice ≡ false → t.object ≡ false → t.number ≡ false → (m : Bool) → t.many ≡ m → Judges t x (if m then Err TooMany else Ok x)
    by_many o w b n true m = (m, least_many t o w b n)
    by_many o w b n false m = (none_fails t o w b n m, refl)

    by_number : t.order ≡ false → t.twice ≡ false → t.object ≡ false → (n : Bool) → t.number ≡ n → Judges t x (if n then Err BadNumber else (if t.many then Err TooMany else Ok x))
    by_number o w b true n = (n, least_number t o w b)
    by_number o w b false n = by_many o w b n t.many refl

    by_object : t.order ≡ false → t.twice ≡ false → (b : Bool) → t.object ≡ b → Judges t x (if b then Err BadObject else (if t.number then Err BadNumber else (if t.many then Err TooMany else Ok x)))
    by_object o w true b = (b, least_object t o w)
    by_object o w false b = by_number o w b t.number refl

    by_twice : t.order ≡ false → (w : Bool) → t.twice ≡ w → Judges t x (if w then Err Twice else (if t.object then Err BadObject else (if t.number then Err BadNumber else (if t.many then Err TooMany else Ok x))))
    by_twice o true w = (w, least_twice t o)
    by_twice o false w = by_object o w t.object refl

    by_order : (o : Bool) → t.order ≡ o → Judges t x (if o then Err Order else (if t.twice then Err Twice else (if t.object then Err BadObject else (if t.number then Err BadNumber else (if t.many then Err TooMany else Ok x)))))
    by_order true o = (o, least_order t)
    by_order false o = by_twice o t.twice refl

-- ---- the tests of a line

abbrev pub is_bad_object : HeaderForm → Bool
is_bad_object (object text) = is_none (object_at text)
is_bad_object _ = false

abbrev pub is_long : ℕ → Bool
is_long len = ltb MAX_LINE len

abbrev pub calls_in : List Line → ℕ
calls_in earlier = count_by (λ line. is_call line.said) earlier

abbrev pub tests_of : List Line → ℕ → Said → Tests
tests_of earlier len skipped = tests false false false false (is_long len)
tests_of earlier len (header form) =
    tests (list_any (λ line. is_event line.said) earlier) (list_any (λ line. is_again form line.said) earlier) (is_bad_object form)
    (not (is_in_range earlier (header form))) (is_long len)
tests_of earlier len (event form) =
    tests false false false (not (is_in_range earlier (event form))) (is_long len || (is_call (event form) && leb MAX_CALLS (calls_in earlier)))

or_left : (a b : Bool) → a ≡ true → (a || b) ≡ true
or_left true b e = refl
or_left false b e = cc

or_right : (a b : Bool) → b ≡ true → (a || b) ≡ true
or_right true b e = refl
or_right false b e = e

or_parts : (a b : Bool) → (a || b) ≡ true → (a ≡ true) ⊎ (b ≡ true)
or_parts true b e = inl refl
or_parts false b e = inr e

no_object : (text : List ℕ) → ((o : Object) → ¬ (SaysObject text o)) → is_none (object_at text) ≡ true
no_object text none = by_object (object_at text) refl
  where
    by_object : (o : Option Object) → object_at text ≡ o → is_none o ≡ true
    by_object None is = refl
    by_object (Some o) is = absurd (none o (object_takes text o is))

no_object_says : (text : List ℕ) → is_none (object_at text) ≡ true → (o : Object) → ¬ (SaysObject text o)
no_object_says text none o says = absurd (cc (none, ap is_none (object_again text o says)))

module _ (earlier : List Line) (bytes : List ℕ) (said : Said) (says : Says bytes said) where
  -- the tests of what the line says are those of what it says there
  moved : (other : Said) (why : ScriptWhy) → Says bytes other → fails (tests_of earlier (length bytes) other) why ≡ true → fails (tests_of earlier (length bytes) said) why ≡ true
  moved other why other_says e = subst (λ (s : Said). fails (tests_of earlier (length bytes) s) why ≡ true) (one_said bytes other said other_says says) e

  long_fails : (said : Said) → is_long (length bytes) ≡ true → fails (tests_of earlier (length bytes) said) TooMany ≡ true
  long_fails skipped e = e
  long_fails (header form) e = e
  long_fails (event form) e = or_left (is_long (length bytes)) _ e

  call_fails : (said : Said) → is_call said ≡ true → MAX_CALLS ≤ calls_in earlier → fails (tests_of earlier (length bytes) said) TooMany ≡ true
  call_fails skipped e many = cc
  call_fails (header form) e many = cc
  call_fails (event form) e many = or_right (is_long (length bytes)) _ (and_from _ _ e (le-leb MAX_CALLS (calls_in earlier) many))

  range_fails : (said : Said) → is_in_range earlier said ≡ false → fails (tests_of earlier (length bytes) said) BadNumber ≡ true
  range_fails skipped e = cc
  range_fails (header form) e = ap not e
  range_fails (event form) e = ap not e

  pub fault_fails : (why : ScriptWhy) → HasFault earlier bytes why → fails (tests_of earlier (length bytes) said) why ≡ true
  fault_fails BadLine has = absurd (has said says)
  fault_fails Order has = moved (header has.0) Order has.1 has.2
  fault_fails Missing has = absurd has
  fault_fails Twice has = moved (header has.0) Twice has.1 has.2
  fault_fails BadObject has = moved (header (object has.0)) BadObject has.1 (no_object has.0 has.2)
  fault_fails BadNumber has = moved has.0 BadNumber has.1 (range_fails has.0 has.2)
  fault_fails TooMany (inl long) = long_fails said (lt-ltb MAX_LINE (length bytes) long)
  fault_fails TooMany (inr has) = moved has.0 TooMany has.1 (call_fails has.0 has.2 has.3)

not_true : (b : Bool) → not b ≡ true → b ≡ false
not_true true e = cc
not_true false e = refl

object_fails : (earlier : List Line) (bytes : List ℕ) (form : HeaderForm) → Says bytes (header form) → is_bad_object form ≡ true → HasFault earlier bytes BadObject
object_fails earlier bytes (client file) says e = cc
object_fails earlier bytes (server file) says e = cc
object_fails earlier bytes (interface home name) says e = cc
object_fails earlier bytes (object text) says e = (text, says, no_object_says text e)
object_fails earlier bytes (servant func rule) says e = cc
object_fails earlier bytes (queue capacity timeout) says e = cc

pub fails_fault : (earlier : List Line) (bytes : List ℕ) (said : Said) → Says bytes said → (why : ScriptWhy) → fails (tests_of earlier (length bytes) said) why ≡ true → HasFault earlier bytes why
fails_fault earlier bytes said says BadLine e = cc
fails_fault earlier bytes said says Missing e = cc
fails_fault earlier bytes skipped says Order e = cc
fails_fault earlier bytes skipped says Twice e = cc
fails_fault earlier bytes skipped says BadObject e = cc
fails_fault earlier bytes skipped says BadNumber e = cc
fails_fault earlier bytes skipped says TooMany e = inl (ltb-true MAX_LINE (length bytes) e)
fails_fault earlier bytes (header form) says Order e = (form, says, e)
fails_fault earlier bytes (header form) says Twice e = (form, says, e)
fails_fault earlier bytes (header form) says BadObject e = object_fails earlier bytes form says e
fails_fault earlier bytes (header form) says BadNumber e = (header form, says, not_true _ e)
fails_fault earlier bytes (header form) says TooMany e = inl (ltb-true MAX_LINE (length bytes) e)
fails_fault earlier bytes (event form) says Order e = cc
fails_fault earlier bytes (event form) says Twice e = cc
fails_fault earlier bytes (event form) says BadObject e = cc
fails_fault earlier bytes (event form) says BadNumber e = (event form, says, not_true _ e)
fails_fault earlier bytes (event form) says TooMany e =
    elim (or_parts (is_long (length bytes)) _ e) [
      | inl long ↦ inl (ltb-true MAX_LINE (length bytes) long)
      | inr call ↦ let parts = and_parts (is_call (event form)) (leb MAX_CALLS (calls_in earlier)) call in inr (event form, says, parts.0, leb-true MAX_CALLS (calls_in earlier) parts.1)
    ]

-- where no test fails, there is no fault
pub no_fault : (earlier : List Line) (bytes : List ℕ) (said : Said) → Says bytes said → ((why : ScriptWhy) → fails (tests_of earlier (length bytes) said) why ≡ false) → HasNoFault earlier bytes
no_fault earlier bytes said says none why has = absurd (cc (none why, fault_fails earlier bytes said says why has))
