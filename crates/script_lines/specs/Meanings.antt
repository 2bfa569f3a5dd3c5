-- What rules, queues and events mean, if their numbers are in range (docs/SCRIPTS.md, "General scripts").
use Rattle.std.specs.Prelude.{Bool, true, false, ℕ, ◌&&◌, nat_lt, nat_abs, if◌then◌else◌, ℤ, List, Option, Some, None}
use Rattle.facts.specs.OptionSteps.{◌>>=◌}
use Rattle.tars_model.specs.Ranges.{is_int}
use Rattle.script_lines.specs.Forms as form
use Rattle.script_lines.specs.Numbers.{is_number, number_of, within}
use Rattle.script_lines.specs.TextLimits.{MAX_CAPACITY, MAX_TIME, MAX_COUNT, CALLER, NODE}

-- what a servant returns
pub data Rule : Type 0 where
  -- the value of this text
  value : List ℕ → Rule
  -- a parameter
  echo : List ℕ → Rule
  -- the sum of two parameters
  add : List ℕ → List ℕ → Rule
  -- a return code
  code : ℤ → Rule
  silent : Rule

pub record Queue : Type 0 where
  pub capacity : ℕ
  -- in milliseconds
  pub timeout : ℕ

-- what happens; `serve` and `deliver` are of so many bytes, or of all
pub data Event : Type 0 where
  -- the function and the text of the arguments
  call : List ℕ → List ℕ → Event
  serve : Option ℕ → Event
  work : Event
  deliver : Option ℕ → Event
  close : Event

abbrev pub is_call : Event → Bool
is_call (call func args) = true
is_call _ = false

-- the return code that a number's text means: an int, and not 0
unfoldable pub code_meant : List ℕ → Option ℤ
code_meant text = if is_number text && (is_int (number_of text) && nat_lt 0 (nat_abs (number_of text))) then Some (number_of text) else None

unfoldable pub rule_meant : form.RuleForm → Option Rule
rule_meant (form.value text) = Some (value text)
rule_meant (form.echo name) = Some (echo name)
rule_meant (form.add left right) = Some (add left right)
rule_meant (form.code text) = code_meant text >>= λ number. Some (code number)
rule_meant form.silent = Some silent

unfoldable pub queue_meant : List ℕ → List ℕ → Option Queue
queue_meant capacity timeout = do
  c ← within 1 MAX_CAPACITY capacity
  t ← within 1 MAX_TIME timeout
  Some (record { capacity = c; timeout = t })

-- how many bytes, if some number is named
unfoldable pub count_meant : Option (List ℕ) → Option (Option ℕ)
count_meant None = Some None
count_meant (Some text) = within 0 MAX_COUNT text >>= λ count. Some (Some count)

-- how many bytes of the node
unfoldable pub read_meant : List ℕ → Option (List ℕ) → Option (Option ℕ)
read_meant node count = within NODE NODE node >>= λ _. count_meant count

unfoldable pub event_meant : form.EventForm → Option Event
event_meant (form.call caller func args) = within CALLER CALLER caller >>= λ _. Some (call func args)
event_meant (form.serve node count) = read_meant node count >>= λ count. Some (serve count)
event_meant (form.work node) = within NODE NODE node >>= λ _. Some work
event_meant (form.deliver node count) = read_meant node count >>= λ count. Some (deliver count)
event_meant form.close = Some close
