-- What a line of a script says, by its words (docs/SCRIPTS.md, "General scripts").
use Rattle.std.specs.Prelude.{◌≡◌, ◌<◌, ℕ, ◌==◌, Bool, true, List, [], ◌∷◌, ◌++◌, length, codes, Option, Some, None, IsUtf8}
use Rattle.idl_lex.specs.Forms.{IsWord}
use Rattle.script_lines.specs.Lines.{content_of, IsCut, AreWords}
use Rattle.script_lines.specs.Numbers.{is_natural, is_number}

-- what a servant does; the value and the code are texts
pub data RuleForm : Type 0 where
  value : List ℕ → RuleForm
  echo : List ℕ → RuleForm
  add : List ℕ → List ℕ → RuleForm
  code : List ℕ → RuleForm
  silent : RuleForm

pub data HeaderForm : Type 0 where
  -- the file's name
  client : List ℕ → HeaderForm
  server : List ℕ → HeaderForm
  -- the module and the interface
  interface : List ℕ → List ℕ → HeaderForm
  object : List ℕ → HeaderForm
  -- the function and its rule
  servant : List ℕ → RuleForm → HeaderForm
  -- the capacity and the timeout
  queue : List ℕ → List ℕ → HeaderForm

pub data EventForm : Type 0 where
  -- the caller's line, the function and the arguments
  call : List ℕ → List ℕ → List ℕ → EventForm
  -- the node, and how many bytes
  serve : List ℕ → Option (List ℕ) → EventForm
  work : List ℕ → EventForm
  deliver : List ℕ → Option (List ℕ) → EventForm
  close : EventForm

pub data Said : Type 0 where
  -- a comment, or nothing
  skipped : Said
  header : HeaderForm → Said
  event : EventForm → Said

-- nothing, or a `#` and what follows
abbrev pub is_skipped : List ℕ → Bool
is_skipped [] = true
is_skipped (c ∷ cs) = c == 35

-- the words after a servant's function say the rule
abbrev pub SaysRule : List ℕ → RuleForm → Type 0
SaysRule rest (value text) = IsCut rest (codes "value" ∷ []) text × (0 < length text)
SaysRule rest (echo name) = AreWords rest (codes "echo" ∷ name ∷ [])
SaysRule rest (add left right) = AreWords rest (codes "add" ∷ left ∷ right ∷ [])
SaysRule rest (code number) = AreWords rest (codes "code" ∷ number ∷ []) × (is_number number ≡ true)
SaysRule rest silent = AreWords rest (codes "silent" ∷ [])

-- a module and an interface are each an identifier or a keyword
abbrev pub SaysHeader : List ℕ → HeaderForm → Type 0
SaysHeader content (client file) = AreWords content (codes "client" ∷ file ∷ []) × IsUtf8 file
SaysHeader content (server file) = AreWords content (codes "server" ∷ file ∷ []) × IsUtf8 file
SaysHeader content (interface home name) =
    AreWords content (codes "interface" ∷ (home ++ (codes "::" ++ name)) ∷ []) × IsWord home × IsWord name
SaysHeader content (object text) = IsCut content (codes "object" ∷ []) text × (0 < length text)
SaysHeader content (servant func rule) = (rest : List ℕ) × IsCut content (codes "servant" ∷ func ∷ []) rest × SaysRule rest rule
SaysHeader content (queue capacity timeout) =
    AreWords content (codes "queue" ∷ capacity ∷ timeout ∷ []) × (is_natural capacity ≡ true) × (is_natural timeout ≡ true)

-- a node, and maybe how many bytes
abbrev pub SaysRead : List ℕ → List ℕ → List ℕ → Option (List ℕ) → Type 0
SaysRead content word node None = AreWords content (word ∷ node ∷ []) × (is_natural node ≡ true)
SaysRead content word node (Some count) =
    AreWords content (word ∷ node ∷ count ∷ []) × (is_natural node ≡ true) × (is_natural count ≡ true)

-- the arguments of a call are the rest of the line, and may be nothing
abbrev pub SaysEvent : List ℕ → EventForm → Type 0
SaysEvent content (call caller func args) = IsCut content (codes "call" ∷ caller ∷ func ∷ []) args × (is_natural caller ≡ true)
SaysEvent content (serve node count) = SaysRead content (codes "serve") node count
SaysEvent content (work node) = AreWords content (codes "work" ∷ node ∷ []) × (is_natural node ≡ true)
SaysEvent content (deliver node count) = SaysRead content (codes "deliver") node count
SaysEvent content close = AreWords content (codes "close" ∷ [])

-- a line says this
abbrev pub Says : List ℕ → Said → Type 0
Says line skipped = is_skipped (content_of line) ≡ true
Says line (header form) = SaysHeader (content_of line) form
Says line (event form) = SaysEvent (content_of line) form
