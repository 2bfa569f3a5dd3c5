-- What is wrong with a line, after lines that say something (docs/SCRIPTS.md, "Faults of general scripts").
use Rattle.std.specs.Prelude.{◌≡◌, ◌<◌, ◌≤◌, ℕ, ◌⊎◌, Bool, true, false, ◌||◌, ◌&&◌, not, List, length, count_by, is_some}
use Rattle.std.specs.List.{list_any}
use Rattle.std.specs.Str.{bytes_eq}
use Rattle.script_lines.specs.Forms.{HeaderForm, client, server, interface, object, servant, queue, EventForm, call, serve, work, deliver, Said, header, event, Says}
use Rattle.script_lines.specs.Objects.{Object, SaysObject}
use Rattle.script_lines.specs.Meanings.{rule_meant, queue_meant, event_meant}
use Rattle.script_lines.specs.TextLimits.{MAX_LINE, MAX_CALLS}
use Rattle.script_lines.specs.declared.fault.ScriptWhy.{ScriptWhy}
use Rattle.script_lines.specs.declared.fault.ScriptWhy.TheVariants.{BadLine, Order, Missing, Twice, BadObject, BadNumber, TooMany}

-- a line that was read: the offset of its first byte, and what it says
pub record Line : Type 0 where
  pub at : ℕ
  pub said : Said

abbrev pub is_event : Said → Bool
is_event (event form) = true
is_event _ = false

abbrev pub is_call : Said → Bool
is_call (event (call caller func args)) = true
is_call _ = false

abbrev pub is_object : Said → Bool
is_object (header (object text)) = true
is_object _ = false

-- the same header, or a rule of the same function
abbrev pub is_again : HeaderForm → Said → Bool
is_again (client file) (header (client other)) = true
is_again (server file) (header (server other)) = true
is_again (interface home name) (header (interface home' name')) = true
is_again (object text) (header (object other)) = true
is_again (servant func rule) (header (servant other rule')) = bytes_eq func other
is_again (queue capacity timeout) (header (queue capacity' timeout')) = true
is_again _ _ = false

-- it speaks of a node
abbrev pub names_node : EventForm → Bool
names_node (serve node count) = true
names_node (work node) = true
names_node (deliver node count) = true
names_node _ = false

-- its numbers are in range, and a node that it names is given before
abbrev pub is_in_range : List Line → Said → Bool
is_in_range earlier (header (servant func rule)) = is_some (rule_meant rule)
is_in_range earlier (header (queue capacity timeout)) = is_some (queue_meant capacity timeout)
is_in_range earlier (event form) = is_some (event_meant form) && (not (names_node form) || list_any (λ line. is_object line.said) earlier)
is_in_range earlier _ = true

-- 1: no form
abbrev pub IsBadLine : List ℕ → Type 0
IsBadLine line = (said : Said) → ¬ (Says line said)

-- 2: a header after an event
abbrev pub ComesAfterEvent : List Line → List ℕ → Type 0
ComesAfterEvent earlier line = (form : HeaderForm) × Says line (header form) × (list_any (λ line. is_event line.said) earlier ≡ true)

-- 4: a header twice, or two rules of one function
abbrev pub ComesTwice : List Line → List ℕ → Type 0
ComesTwice earlier line = (form : HeaderForm) × Says line (header form) × (list_any (λ line. is_again form line.said) earlier ≡ true)

-- 5: a text that says no object
abbrev pub HasBadObject : List ℕ → Type 0
HasBadObject line = (text : List ℕ) × Says line (header (object text)) × ((o : Object) → ¬ (SaysObject text o))

-- 8: a number out of its range, or a node that no line before gives
abbrev pub HasBadNumber : List Line → List ℕ → Type 0
HasBadNumber earlier line = (said : Said) × Says line said × (is_in_range earlier said ≡ false)

-- 10: a line that is too long, or a call after as many as there may be
abbrev pub IsTooMany : List Line → List ℕ → Type 0
IsTooMany earlier line =
    (MAX_LINE < length line)
    ⊎ ((said : Said) × Says line said × (is_call said ≡ true) × (MAX_CALLS ≤ count_by (λ line. is_call line.said) earlier))

-- a line has the fault, after these; what is missing is no fault of a line
abbrev pub HasFault : List Line → List ℕ → ScriptWhy → Type 0
HasFault earlier line BadLine = IsBadLine line
HasFault earlier line Order = ComesAfterEvent earlier line
HasFault earlier line Missing = ⊥
HasFault earlier line Twice = ComesTwice earlier line
HasFault earlier line BadObject = HasBadObject line
HasFault earlier line BadNumber = HasBadNumber earlier line
HasFault earlier line TooMany = IsTooMany earlier line

abbrev pub HasNoFault : List Line → List ℕ → Type 0
HasNoFault earlier line = (why : ScriptWhy) → ¬ (HasFault earlier line why)
