-- For the proofs: what is kept of lines, one after the other, as the functions of src/draft do. What a script and its
-- faults are stands in specs/Scripts.antt and specs/Faults.antt.
use Rattle.std.specs.Prelude.{ℕ, ◌+◌, Bool, true, false, ◌&&◌, nat_le, nat_lt, if◌then◌else◌, List, [], ◌∷◌, ◌++◌, length, Option, Some, None, is_some, is_none, Result, Ok, Err}
use Rattle.std.specs.List.{list_any}
use Rattle.std.specs.Str.{bytes_eq}
use Rattle.facts.specs.ResultSteps.{◌>>=◌}
use Rattle.script_lines.specs.Lines.{TextLine, text_lines}
use Rattle.script_lines.specs.Objects.{Object}
use Rattle.script_lines.specs.Forms.{RuleForm, HeaderForm, client, server, interface, object, servant, queue, EventForm, Said, skipped, header, event}
use Rattle.script_lines.specs.Meanings.{Rule, Queue, Event, is_call, rule_meant, queue_meant, event_meant}
use Rattle.script_lines.specs.Faults.{names_node}
use Rattle.script_lines.specs.Scripts.{Script, RuleLine, EventLine, InterfaceLine}
use Rattle.script_lines.specs.TextLimits.{MAX_LINE, MAX_CALLS}
use Rattle.script_lines.specs.FormSteps.{said_at}
use Rattle.script_lines.specs.ObjectSteps.{object_at}
use Rattle.script_lines.specs.declared.fault.ScriptFault.{ScriptFault}
use Rattle.script_lines.specs.declared.fault.ScriptWhy.{ScriptWhy}
use Rattle.script_lines.specs.declared.fault.ScriptWhy.TheVariants.{BadLine, Order, Missing, Twice, BadObject, BadNumber, TooMany}

-- what lines have said so far
pub record Kept : Type 0 where
  pub client : Option (List ℕ)
  pub server : Option (List ℕ)
  pub interface : Option InterfaceLine
  pub object : Option Object
  pub rules : List RuleLine
  -- the functions of the rules
  pub funcs : List (List ℕ)
  pub queue : Option Queue
  pub events : List EventLine
  -- how many of the events are calls
  pub calls : ℕ

abbrev pub kept : Option (List ℕ) → Option (List ℕ) → Option InterfaceLine → Option Object → List RuleLine → List (List ℕ) → Option Queue → List EventLine → ℕ → Kept
kept c s i o rules funcs q events calls = record {
  client = c;
  server = s;
  interface = i;
  object = o;
  rules = rules;
  funcs = funcs;
  queue = q;
  events = events;
  calls = calls;
}

abbrev pub nothing_kept : Kept
nothing_kept = kept None None None None [] [] None [] 0

-- what is there, or else the fault
unfoldable pub or_fault : {X : Type 0} → Option X → ScriptWhy → Result X ScriptWhy
or_fault None why = Err why
or_fault (Some x) why = Ok x

-- ---- headers

abbrev pub with_client : Kept → List ℕ → Kept
with_client k file = kept (Some file) k.server k.interface k.object k.rules k.funcs k.queue k.events k.calls

abbrev pub with_server : Kept → List ℕ → Kept
with_server k file = kept k.client (Some file) k.interface k.object k.rules k.funcs k.queue k.events k.calls

abbrev pub with_interface : Kept → InterfaceLine → Kept
with_interface k i = kept k.client k.server (Some i) k.object k.rules k.funcs k.queue k.events k.calls

abbrev pub with_object : Kept → Object → Kept
with_object k o = kept k.client k.server k.interface (Some o) k.rules k.funcs k.queue k.events k.calls

abbrev pub with_rule : ℕ → List ℕ → Kept → Rule → Kept
with_rule at func k rule = kept k.client k.server k.interface k.object (k.rules ++ record { at = at; func = func; rule = rule } ∷ []) (k.funcs ++ func ∷ []) k.queue k.events k.calls

abbrev pub with_queue : Kept → Queue → Kept
with_queue k q = kept k.client k.server k.interface k.object k.rules k.funcs (Some q) k.events k.calls

unfoldable pub keep_client : List ℕ → Kept → Result Kept ScriptWhy
keep_client file k = if is_some k.client then Err Twice else Ok (with_client k file)

unfoldable pub keep_server : List ℕ → Kept → Result Kept ScriptWhy
keep_server file k = if is_some k.server then Err Twice else Ok (with_server k file)

unfoldable pub keep_interface : InterfaceLine → Kept → Result Kept ScriptWhy
keep_interface i k = if is_some k.interface then Err Twice else Ok (with_interface k i)

unfoldable pub keep_object : List ℕ → Kept → Result Kept ScriptWhy
keep_object text k = if is_some k.object then Err Twice else (or_fault (object_at text) BadObject >>= λ o. Ok (with_object k o))

unfoldable pub keep_rule : ℕ → List ℕ → RuleForm → Kept → Result Kept ScriptWhy
keep_rule at func rule k =
    if list_any (bytes_eq func) k.funcs then Err Twice
    else (or_fault (rule_meant rule) BadNumber >>= λ rule. Ok (with_rule at func k rule))

unfoldable pub keep_queue : List ℕ → List ℕ → Kept → Result Kept ScriptWhy
keep_queue capacity timeout k =
    if is_some k.queue then Err Twice else (or_fault (queue_meant capacity timeout) BadNumber >>= λ q. Ok (with_queue k q))

unfoldable pub keep_header : ℕ → HeaderForm → Kept → Result Kept ScriptWhy
keep_header at (client file) k = keep_client file k
keep_header at (server file) k = keep_server file k
keep_header at (interface home name) k = keep_interface (record { at = at; home = home; name = name }) k
keep_header at (object text) k = keep_object text k
keep_header at (servant func rule) k = keep_rule at func rule k
keep_header at (queue capacity timeout) k = keep_queue capacity timeout k

abbrev pub is_empty_list : {X : Type 0} → List X → Bool
is_empty_list [] = true
is_empty_list (x ∷ xs) = false

-- ---- events

abbrev pub with_event : ℕ → Kept → Event → Kept
with_event at k e = kept k.client k.server k.interface k.object k.rules k.funcs k.queue (k.events ++ record { at = at; event = e } ∷ []) (if is_call e then k.calls + 1 else k.calls)

unfoldable pub add_event : ℕ → Event → Kept → Result Kept ScriptWhy
add_event at e k = if is_call e && nat_le MAX_CALLS k.calls then Err TooMany else Ok (with_event at k e)

unfoldable pub keep_event : ℕ → EventForm → Kept → Result Kept ScriptWhy
keep_event at form k =
    if names_node form && is_none k.object then Err BadNumber
    else (or_fault (event_meant form) BadNumber >>= λ e. add_event at e k)

-- ---- lines

unfoldable pub keep_form : ℕ → Said → Kept → Result Kept ScriptWhy
keep_form at skipped k = Ok k
keep_form at (header form) k = if is_empty_list k.events then keep_header at form k else Err Order
keep_form at (event form) k = keep_event at form k

unfoldable pub if_short : List ℕ → Kept → Result Kept ScriptWhy
if_short line k = if nat_lt MAX_LINE (length line) then Err TooMany else Ok k

unfoldable pub keep_line : ℕ → List ℕ → Kept → Result Kept ScriptWhy
keep_line at line k = or_fault (said_at line) BadLine >>= λ said. keep_form at said k >>= if_short line

abbrev pub at_line : {X : Type 0} → ℕ → Result X ScriptWhy → Result X ScriptFault
at_line at (Ok x) = Ok x
at_line at (Err why) = Err (record { at = at; why = why })

unfoldable pub keep_lines : Kept → List TextLine → Result Kept ScriptFault
keep_lines k [] = Ok k
keep_lines k (line ∷ lines) = at_line line.at (keep_line line.at line.bytes k) >>= λ k. keep_lines k lines

-- ---- the script

abbrev pub script_by : ℕ → Kept → Option (List ℕ) → Option InterfaceLine → Option Object → Result Script ScriptFault
script_by len k (Some c) (Some i) (Some o) = Ok (record {
  client = c;
  server = k.server;
  interface = i;
  object = o;
  rules = k.rules;
  queue = k.queue;
  events = k.events;
})
script_by len k _ _ _ = Err (record { at = len; why = Missing })

-- of a text of this length
unfoldable pub script_from : ℕ → Kept → Result Script ScriptFault
script_from len k = script_by len k k.client k.interface k.object

unfoldable pub outcome : List ℕ → Result Script ScriptFault
outcome text = keep_lines nothing_kept (text_lines text) >>= script_from (length text)
