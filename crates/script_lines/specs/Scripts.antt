-- General scripts, and the fault of a text that is none (docs/SCRIPTS.md, "General scripts").
use Rattle.std.specs.Prelude.{◌≡◌, ◌≤◌, ℕ, ◌⊎◌, List, [], ◌∷◌, ◌++◌, length, Option, Some, None, option_map}
use Rattle.std.specs.List.{flat_map}
use Rattle.script_lines.specs.Lines.{TextLine, text_lines}
use Rattle.script_lines.specs.Objects.{Object, SaysObject}
use Rattle.script_lines.specs.Forms.{Said, Says, header, event, client, server, interface, object, servant, queue}
use Rattle.script_lines.specs.Meanings.{Rule, Queue, Event, rule_meant, queue_meant, event_meant}
use Rattle.script_lines.specs.Faults.{Line, HasFault, HasNoFault}
use Rattle.script_lines.specs.FaultNumbers.{number_of}
use Rattle.script_lines.specs.declared.fault.ScriptFault.{ScriptFault}
use Rattle.script_lines.specs.declared.fault.ScriptWhy.{ScriptWhy}
use Rattle.script_lines.specs.declared.fault.ScriptWhy.TheVariants.{Missing}

-- a function's rule, with the offset of its line
pub record RuleLine : Type 0 where
  pub at : ℕ
  pub func : List ℕ
  pub rule : Rule

-- an event, with the offset of its line
pub record EventLine : Type 0 where
  pub at : ℕ
  pub event : Event

-- an interface of a module, with the offset of its line
pub record InterfaceLine : Type 0 where
  pub at : ℕ
  pub home : List ℕ
  pub name : List ℕ

-- what a script says
pub record Script : Type 0 where
  pub client : List ℕ
  pub server : Option (List ℕ)
  pub interface : InterfaceLine
  pub object : Object
  pub rules : List RuleLine
  pub queue : Option Queue
  pub events : List EventLine

-- what the lines say after these: each says something, and has no fault
abbrev pub AreRead : List Line → List TextLine → List Line → Type 0
AreRead earlier [] [] = Unit {0}
AreRead earlier (t ∷ texts) (line ∷ lines) =
    (line.at ≡ t.at) × Says t.bytes line.said × HasNoFault earlier t.bytes × AreRead (earlier ++ line ∷ []) texts lines
AreRead earlier _ _ = ⊥

-- ---- what lines say of each subject, in order

abbrev pub one_of : {X : Type 0} → Option X → List X
one_of None = []
one_of (Some x) = x ∷ []

abbrev pub said_by : {X : Type 0} → (ℕ → Said → List X) → List Line → List X
said_by what lines = flat_map (λ line. what line.at line.said) lines

abbrev pub clients : ℕ → Said → List (List ℕ)
clients at (header (client file)) = file ∷ []
clients at _ = []

abbrev pub servers : ℕ → Said → List (List ℕ)
servers at (header (server file)) = file ∷ []
servers at _ = []

abbrev pub interfaces : ℕ → Said → List InterfaceLine
interfaces at (header (interface home name)) = record { at = at; home = home; name = name } ∷ []
interfaces at _ = []

abbrev pub objects : ℕ → Said → List (List ℕ)
objects at (header (object text)) = text ∷ []
objects at _ = []

abbrev pub rules : ℕ → Said → List RuleLine
rules at (header (servant func rule)) = one_of (option_map (λ rule. record { at = at; func = func; rule = rule }) (rule_meant rule))
rules at _ = []

abbrev pub queues : ℕ → Said → List Queue
queues at (header (queue capacity timeout)) = one_of (queue_meant capacity timeout)
queues at _ = []

abbrev pub events : ℕ → Said → List EventLine
events at (event form) = one_of (option_map (λ event. record { at = at; event = event }) (event_meant form))
events at _ = []

-- the lines say the script
pub record SayScript (lines : List Line) (s : Script) : Type 0 where
  pub client : said_by clients lines ≡ s.client ∷ []
  pub server : said_by servers lines ≡ one_of s.server
  pub interface : said_by interfaces lines ≡ s.interface ∷ []
  pub text : List ℕ
  pub object : said_by objects lines ≡ text ∷ []
  pub object_is : SaysObject text s.object
  pub rules : said_by rules lines ≡ s.rules
  pub queue : said_by queues lines ≡ one_of s.queue
  pub events : said_by events lines ≡ s.events

-- a header that has to be there is missing
abbrev pub LackHeader : List Line → Type 0
LackHeader lines = (said_by clients lines ≡ []) ⊎ (said_by interfaces lines ≡ []) ⊎ (said_by objects lines ≡ [])

-- ---- whole texts

-- a text is a script
pub record IsScript (text : List ℕ) (s : Script) : Type 0 where
  pub lines : List Line
  pub read : AreRead [] (text_lines text) lines
  pub say : SayScript lines s

-- the first line that has a fault, with the least number of those that it has
pub record IsLineFault (text : List ℕ) (fault : ScriptFault) : Type 0 where
  pub before : List TextLine
  pub line : TextLine
  pub after : List TextLine
  pub split : text_lines text ≡ before ++ line ∷ after
  pub earlier : List Line
  pub read : AreRead [] before earlier
  pub has : HasFault earlier line.bytes fault.why
  pub least : (why : ScriptWhy) → HasFault earlier line.bytes why → number_of fault.why ≤ number_of why
  pub at : fault.at ≡ line.at

-- no line has a fault, and a header is missing
pub record IsMissing (text : List ℕ) (fault : ScriptFault) : Type 0 where
  pub lines : List Line
  pub read : AreRead [] (text_lines text) lines
  pub lack : LackHeader lines
  pub why : fault.why ≡ Missing
  pub at : fault.at ≡ length text

-- the fault of a text that is no script
abbrev pub IsScriptFault : List ℕ → ScriptFault → Type 0
IsScriptFault text fault = IsLineFault text fault ⊎ IsMissing text fault
