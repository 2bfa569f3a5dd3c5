-- For the proofs: how the words of a line are read, as the functions of src/forms do. What a line says stands in
-- specs/Forms.antt.
use Rattle.std.specs.Prelude.{ℕ, ◌&&◌, if◌then◌else◌, List, codes, Option, Some, None}
use Rattle.std.specs.List.{list_all}
use Rattle.std.specs.Str.{bytes_eq}
use Rattle.std.specs.Char.{is_ascii_alphabetic}
use Rattle.idl_lex.specs.Bytes.{begins, is_word_byte}
use Rattle.facts.specs.OptionSteps.{◌>>=◌}
use Rattle.script_lines.specs.Lines.{content_of, next_word}
use Rattle.script_lines.specs.Numbers.{is_natural, is_number}
use Rattle.script_lines.specs.Forms.{RuleForm, value, echo, add, code, silent, HeaderForm, client, server, interface, object, servant, queue, EventForm, call, serve, work, deliver, close, Said, skipped, header, event, is_skipped}
use Rattle.script_lines.specs.ScanSteps.{Whole, utf8, tested, before, ◌&>◌, is_empty, only_word, two_words, something}

-- ---- rules

-- what the word of a rule and the rest say
unfoldable pub code_at : Whole RuleForm
code_at rest = do
  number ← only_word rest
  if is_number number then Some (code number) else None

unfoldable pub silent_at : Whole RuleForm
silent_at rest = if is_empty rest then Some silent else None

unfoldable pub rule_by : List ℕ → Whole RuleForm
rule_by word rest =
    if bytes_eq word (codes "value") then (something rest >>= λ text. Some (value text))
    else (if bytes_eq word (codes "echo") then (only_word rest >>= λ name. Some (echo name))
    else (if bytes_eq word (codes "add") then (two_words rest >>= λ names. Some (add names.0 names.1))
    else (if bytes_eq word (codes "code") then code_at rest
    else (if bytes_eq word (codes "silent") then silent_at rest else None))))

-- ---- headers

unfoldable pub file_at : Whole (List ℕ)
file_at rest = only_word rest >>= utf8

-- an identifier or keyword
unfoldable pub identifier : Whole (List ℕ)
identifier = tested (λ word. begins is_ascii_alphabetic word && list_all is_word_byte word)

unfoldable pub interface_in : Whole (List ℕ × List ℕ)
interface_in = before (codes "::") identifier &> identifier

unfoldable pub interface_at : Whole HeaderForm
interface_at rest = do
  word ← only_word rest
  named ← interface_in word
  Some (interface named.0 named.1)

unfoldable pub servant_at : Whole HeaderForm
servant_at rest = do
  func ← next_word rest
  kind ← next_word func.1
  rule ← rule_by kind.0 kind.1
  Some (servant func.0 rule)

unfoldable pub queue_at : Whole HeaderForm
queue_at rest = do
  numbers ← two_words rest
  if is_natural numbers.0 && is_natural numbers.1 then Some (queue numbers.0 numbers.1) else None

unfoldable pub header_by : List ℕ → Whole HeaderForm
header_by word rest =
    if bytes_eq word (codes "client") then (file_at rest >>= λ file. Some (client file))
    else (if bytes_eq word (codes "server") then (file_at rest >>= λ file. Some (server file))
    else (if bytes_eq word (codes "interface") then interface_at rest
    else (if bytes_eq word (codes "object") then (something rest >>= λ text. Some (object text))
    else (if bytes_eq word (codes "servant") then servant_at rest
    else (if bytes_eq word (codes "queue") then queue_at rest else None)))))

-- ---- events

unfoldable pub call_at : Whole EventForm
call_at rest = do
  caller ← next_word rest
  func ← next_word caller.1
  if is_natural caller.0 then Some (call caller.0 func.0 func.1) else None

-- one natural number and nothing after it
unfoldable pub only_natural : Whole (List ℕ)
only_natural rest = only_word rest >>= tested is_natural

-- how many bytes, if the rest says that
unfoldable pub count_at : Whole (Option (List ℕ))
count_at rest = if is_empty rest then Some None else (only_natural rest >>= λ count. Some (Some count))

-- a node, and maybe how many bytes
unfoldable pub read_at : Whole (List ℕ × Option (List ℕ))
read_at rest = do
  node ← next_word rest
  count ← count_at node.1
  if is_natural node.0 then Some (node.0, count) else None

unfoldable pub close_at : Whole EventForm
close_at rest = if is_empty rest then Some close else None

unfoldable pub event_by : List ℕ → Whole EventForm
event_by word rest =
    if bytes_eq word (codes "call") then call_at rest
    else (if bytes_eq word (codes "serve") then (read_at rest >>= λ read. Some (serve read.0 read.1))
    else (if bytes_eq word (codes "work") then (only_natural rest >>= λ node. Some (work node))
    else (if bytes_eq word (codes "deliver") then (read_at rest >>= λ read. Some (deliver read.0 read.1))
    else (if bytes_eq word (codes "close") then close_at rest else None))))

-- ---- lines

abbrev pub header_or : Option HeaderForm → Option EventForm → Option Said
header_or (Some form) other = Some (header form)
header_or None other = other >>= λ form. Some (event form)

-- what the first word and the rest say
unfoldable pub form_by : List ℕ → Whole Said
form_by word rest = header_or (header_by word rest) (event_by word rest)

unfoldable pub said_at : Whole Said
said_at line =
    let content = content_of line in
    if is_skipped content then Some skipped else (next_word content >>= λ first. form_by first.0 first.1)
