-- What the structs and enums of a script hold.
use Rattle.std.specs.Prelude.{ℕ, List, map, Option, option_map}
use Rattle.std.specs.Borrow.{Bor}
use Rattle.script_lines.specs.Objects.{Object}
use Rattle.script_lines.specs.Meanings.{Rule, Queue, Event}
use Rattle.script_lines.specs.Meanings as meant
use Rattle.script_lines.specs.Scripts as script
use Rattle.script_lines.specs.declared.object.ObjectWords.{ObjectWords}
use Rattle.script_lines.specs.declared.rule.RuleWords.{RuleWords}
use Rattle.script_lines.specs.declared.rule.RuleWords.TheVariants as rules
use Rattle.script_lines.specs.declared.queue.QueueWords.{QueueWords}
use Rattle.script_lines.specs.declared.event.EventWords.{EventWords}
use Rattle.script_lines.specs.declared.event.EventWords.TheVariants as events
use Rattle.script_lines.specs.declared.rule.RuleLine.{RuleLine}
use Rattle.script_lines.specs.declared.event.EventLine.{EventLine}
use Rattle.script_lines.specs.declared.interface.InterfaceLine.{InterfaceLine}
use Rattle.script_lines.specs.declared.script_lines.ScriptLines.{ScriptLines}

-- a text that may be there
abbrev pub text_of : Option (Bor (List ℕ)) → Option (List ℕ)
text_of text = option_map (λ t. t.now) text

abbrev pub object_of : ObjectWords → Object
object_of o = record { id = o.id.now; host = o.host.now; port = o.port; timeout = o.timeout }

abbrev pub rule_of : RuleWords → Rule
rule_of (rules.Value text) = meant.value text.now
rule_of (rules.Echo name) = meant.echo name.now
rule_of (rules.Add left right) = meant.add left.now right.now
rule_of (rules.Code number) = meant.code number
rule_of rules.Silent = meant.silent

abbrev pub queue_of : QueueWords → Queue
queue_of q = record { capacity = q.capacity; timeout = q.timeout }

abbrev pub event_of : EventWords → Event
event_of (events.Call func args) = meant.call func.now args.now
event_of (events.Serve bytes) = meant.serve bytes
event_of events.Work = meant.work
event_of (events.Deliver bytes) = meant.deliver bytes
event_of events.Close = meant.close

abbrev pub rule_line : RuleLine → script.RuleLine
rule_line line = record { at = line.at; func = line.func.now; rule = rule_of line.rule }

abbrev pub event_line : EventLine → script.EventLine
event_line line = record { at = line.at; event = event_of line.event }

abbrev pub interface_line : InterfaceLine → script.InterfaceLine
interface_line line = record { at = line.at; home = line.«module».now; name = line.name.now }

abbrev pub script_of : ScriptLines → script.Script
script_of s = record {
  client = s.client.now;
  server = text_of s.server;
  interface = interface_line s.interface;
  object = object_of s.object;
  rules = map rule_line s.rules.items;
  queue = option_map queue_of s.queue;
  events = map event_line s.events.items;
}
