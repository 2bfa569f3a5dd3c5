-- What is kept of lines, by what the lines say.
use Rattle.std.proofs.Common.{◌≡◌, ℕ, ◌+◌, Bool, true, false, cond, not, ◌||◌, List, [], ◌∷◌, ◌++◌, Option, Some, None, refl, sym, ap, ◌∙◌, append-nil, if◌then◌else◌, arith}
use Rattle.std.specs.Prelude.{is_some, count_by, option_map}
use Rattle.std.specs.List.{list_any, AllByRecursion}
use Rattle.std.specs.Str.{bytes_eq}
use Rattle.std.proofs.lemmas.Grind.{flat_map-append}
use Rattle.std.proofs.lemmas.List.Sums.{fold-append}
use Rattle.std.proofs.lemmas.List.Folds.{list_any-append}
use Rattle.script_lines.specs.Forms.{HeaderForm, client, server, interface, object, servant, queue, RuleForm, Said, skipped, header, event}
use Rattle.script_lines.specs.Objects.{Object}
use Rattle.script_lines.specs.Meanings.{rule_meant, queue_meant, event_meant}
use Rattle.script_lines.specs.Faults.{Line, is_event, is_call, is_object, is_again}
use Rattle.script_lines.specs.Scripts.{one_of, said_by, clients, servers, interfaces, rules, queues, events}
use Rattle.script_lines.specs.ObjectSteps.{object_at}
use Rattle.script_lines.specs.KeptSteps.{Kept, kept, is_empty_list}

abbrev pub first_of : {X : Type 0} → List X → Option X
first_of [] = None
first_of (x ∷ xs) = Some x

-- objects, as they are read
abbrev pub read_objects : ℕ → Said → List Object
read_objects at (header (object text)) = one_of (object_at text)
read_objects at _ = []

abbrev pub funcs : ℕ → Said → List (List ℕ)
funcs at (header (servant func rule)) = func ∷ []
funcs at _ = []

abbrev pub calls_of : List Line → ℕ
calls_of lines = count_by (λ line. is_call line.said) lines

abbrev pub kept_of : List Line → Kept
kept_of lines =
    kept (first_of (said_by clients lines)) (first_of (said_by servers lines)) (first_of (said_by interfaces lines)) (first_of (said_by read_objects lines))
    (said_by rules lines) (said_by funcs lines) (first_of (said_by queues lines)) (said_by events lines) (calls_of lines)

-- a line whose object, rule and numbers mean something
abbrev pub is_sound : Said → Bool
is_sound (header (object text)) = is_some (object_at text)
is_sound (header (servant func rule)) = is_some (rule_meant rule)
is_sound (header (queue capacity timeout)) = is_some (queue_meant capacity timeout)
is_sound (event form) = is_some (event_meant form)
is_sound _ = true

abbrev pub AreSound : List Line → Type 0
AreSound lines = AllByRecursion (λ line. is_sound line.said ≡ true) lines

pub sound_next : (lines : List Line) (line : Line) → AreSound lines → is_sound line.said ≡ true → AreSound (lines ++ line ∷ [])
sound_next [] line sound is = (is, tt)
sound_next (l ∷ lines) line sound is = (sound.0, sound_next lines line sound.1 is)

-- ---- one line more

pub said_next : {X : Type 0} (what : ℕ → Said → List X) (lines : List Line) (line : Line) → said_by what (lines ++ line ∷ []) ≡ said_by what lines ++ what line.at line.said
said_next {X} what lines line =
    flat_map-append (λ (line : Line). what line.at line.said) lines (line ∷ []) ∙ ap (λ (xs : List X). said_by what lines ++ xs) (append-nil (what line.at line.said))

one_more : (n : ℕ) (b : Bool) → n + cond b 1 0 ≡ (if b then n + 1 else n)
one_more n true = refl
one_more n false = omega arith

pub calls_next : (lines : List Line) (line : Line) → calls_of (lines ++ line ∷ []) ≡ (if is_call line.said then calls_of lines + 1 else calls_of lines)
calls_next lines line = fold-append (λ (n : ℕ) (line : Line). n + cond (is_call line.said) 1 0) 0 lines (line ∷ []) ∙ one_more (calls_of lines) (is_call line.said)

-- ---- whether something was said

not_empty_or : {X : Type 0} (xs ys : List X) → not (is_empty_list (xs ++ ys)) ≡ (not (is_empty_list xs) || not (is_empty_list ys))
not_empty_or [] ys = refl
not_empty_or (x ∷ xs) ys = refl

-- a test of lines that tells whether they say something of a subject
pub any_says : {X : Type 0} (test : Said → Bool) (what : ℕ → Said → List X) → ((at : ℕ) (said : Said) → is_sound said ≡ true → test said ≡ not (is_empty_list (what at said)))
    → (lines : List Line) → AreSound lines → list_any (λ line. test line.said) lines ≡ not (is_empty_list (said_by what lines))
any_says test what same [] sound = refl
any_says test what same (line ∷ lines) sound =
    ap (λ b. b || list_any (λ (line : Line). test line.said) lines) (same line.at line.said sound.0)
    ∙ ap (λ b. not (is_empty_list (what line.at line.said)) || b) (any_says test what same lines sound.1)
    ∙ sym (not_empty_or (what line.at line.said) (said_by what lines))

pub some_first : {X : Type 0} (xs : List X) → is_some (first_of xs) ≡ not (is_empty_list xs)
some_first [] = refl
some_first (x ∷ xs) = refl

one_says : {X : Type 0} (o : Option X) → is_some o ≡ true → true ≡ not (is_empty_list (one_of o))
one_says None is = sym is
one_says (Some x) is = refl

mapped_says : {X Y : Type 0} (f : X → Y) (o : Option X) → is_some o ≡ true → true ≡ not (is_empty_list (one_of (option_map f o)))
mapped_says f None is = sym is
mapped_says f (Some x) is = refl

event_says : (at : ℕ) (said : Said) → is_sound said ≡ true → is_event said ≡ not (is_empty_list (events at said))
event_says at skipped is = refl
event_says at (header form) is = refl
event_says at (event form) is = mapped_says (λ event. record { at = at; event = event }) (event_meant form) is

object_says : (at : ℕ) (said : Said) → is_sound said ≡ true → is_object said ≡ not (is_empty_list (read_objects at said))
object_says at skipped is = refl
object_says at (header (client file)) is = refl
object_says at (header (server file)) is = refl
object_says at (header (interface home name)) is = refl
object_says at (header (object text)) is = one_says (object_at text) is
object_says at (header (servant func rule)) is = refl
object_says at (header (queue capacity timeout)) is = refl
object_says at (event form) is = refl

pub any_event : (lines : List Line) → AreSound lines → list_any (λ line. is_event line.said) lines ≡ not (is_empty_list (said_by events lines))
any_event = any_says is_event events event_says

pub any_object : (lines : List Line) → AreSound lines → list_any (λ line. is_object line.said) lines ≡ is_some (first_of (said_by read_objects lines))
any_object lines sound = any_says is_object read_objects object_says lines sound ∙ sym (some_first (said_by read_objects lines))

-- ---- whether a header stood before

-- what is kept of a header
abbrev pub is_kept : HeaderForm → Kept → Bool
is_kept (client file) k = is_some k.client
is_kept (server file) k = is_some k.server
is_kept (interface home name) k = is_some k.interface
is_kept (object text) k = is_some k.object
is_kept (servant func rule) k = list_any (bytes_eq func) k.funcs
is_kept (queue capacity timeout) k = is_some k.queue

again_says : {X : Type 0} (form : HeaderForm) (what : ℕ → Said → List X) → ((at : ℕ) (said : Said) → is_sound said ≡ true → is_again form said ≡ not (is_empty_list (what at said)))
    → (lines : List Line) → AreSound lines → list_any (λ line. is_again form line.said) lines ≡ is_some (first_of (said_by what lines))
again_says form what same lines sound = any_says (is_again form) what same lines sound ∙ sym (some_first (said_by what lines))

client_again : (file : List ℕ) (at : ℕ) (said : Said) → is_sound said ≡ true → is_again (client file) said ≡ not (is_empty_list (clients at said))
client_again file at skipped is = refl
client_again file at (header (client other)) is = refl
client_again file at (header (server other)) is = refl
client_again file at (header (interface home name)) is = refl
client_again file at (header (object text)) is = refl
client_again file at (header (servant func rule)) is = refl
client_again file at (header (queue capacity timeout)) is = refl
client_again file at (event form) is = refl

server_again : (file : List ℕ) (at : ℕ) (said : Said) → is_sound said ≡ true → is_again (server file) said ≡ not (is_empty_list (servers at said))
server_again file at skipped is = refl
server_again file at (header (client other)) is = refl
server_again file at (header (server other)) is = refl
server_again file at (header (interface home name)) is = refl
server_again file at (header (object text)) is = refl
server_again file at (header (servant func rule)) is = refl
server_again file at (header (queue capacity timeout)) is = refl
server_again file at (event form) is = refl

interface_again : (home name : List ℕ) (at : ℕ) (said : Said) → is_sound said ≡ true → is_again (interface home name) said ≡ not (is_empty_list (interfaces at said))
interface_again home name at skipped is = refl
interface_again home name at (header (client other)) is = refl
interface_again home name at (header (server other)) is = refl
interface_again home name at (header (interface home' name')) is = refl
interface_again home name at (header (object text)) is = refl
interface_again home name at (header (servant func rule)) is = refl
interface_again home name at (header (queue capacity timeout)) is = refl
interface_again home name at (event form) is = refl

object_again : (text : List ℕ) (at : ℕ) (said : Said) → is_sound said ≡ true → is_again (object text) said ≡ not (is_empty_list (read_objects at said))
object_again text at skipped is = refl
object_again text at (header (client other)) is = refl
object_again text at (header (server other)) is = refl
object_again text at (header (interface home name)) is = refl
object_again text at (header (object other)) is = one_says (object_at other) is
object_again text at (header (servant func rule)) is = refl
object_again text at (header (queue capacity timeout)) is = refl
object_again text at (event form) is = refl

queue_again : (c t : List ℕ) (at : ℕ) (said : Said) → is_sound said ≡ true → is_again (queue c t) said ≡ not (is_empty_list (queues at said))
queue_again c t at skipped is = refl
queue_again c t at (header (client other)) is = refl
queue_again c t at (header (server other)) is = refl
queue_again c t at (header (interface home name)) is = refl
queue_again c t at (header (object other)) is = refl
queue_again c t at (header (servant func rule)) is = refl
queue_again c t at (header (queue capacity timeout)) is = one_says (queue_meant capacity timeout) is
queue_again c t at (event form) is = refl

rule_again : (func : List ℕ) (rule : RuleForm) (at : ℕ) (said : Said) → is_again (servant func rule) said ≡ list_any (bytes_eq func) (funcs at said)
rule_again func rule at skipped = refl
rule_again func rule at (header (client other)) = refl
rule_again func rule at (header (server other)) = refl
rule_again func rule at (header (interface home name)) = refl
rule_again func rule at (header (object other)) = refl
rule_again func rule at (header (servant other rule')) = sym (or_false (bytes_eq func other))
  where
    or_false : (b : Bool) → (b || false) ≡ b
    or_false true = refl
    or_false false = refl
rule_again func rule at (header (queue capacity timeout)) = refl
rule_again func rule at (event form) = refl

rules_again : (func : List ℕ) (rule : RuleForm) (lines : List Line) → list_any (λ line. is_again (servant func rule) line.said) lines ≡ list_any (bytes_eq func) (said_by funcs lines)
rules_again func rule [] = refl
rules_again func rule (line ∷ lines) =
    ap (λ b. b || list_any (λ (line : Line). is_again (servant func rule) line.said) lines) (rule_again func rule line.at line.said)
    ∙ ap (λ b. list_any (bytes_eq func) (funcs line.at line.said) || b) (rules_again func rule lines)
    ∙ sym (list_any-append (bytes_eq func) (funcs line.at line.said) (said_by funcs lines))

pub any_again : (form : HeaderForm) (lines : List Line) → AreSound lines → list_any (λ line. is_again form line.said) lines ≡ is_kept form (kept_of lines)
any_again (client file) lines sound = again_says (client file) clients (client_again file) lines sound
any_again (server file) lines sound = again_says (server file) servers (server_again file) lines sound
any_again (interface home name) lines sound = again_says (interface home name) interfaces (interface_again home name) lines sound
any_again (object text) lines sound = again_says (object text) read_objects (object_again text) lines sound
any_again (servant func rule) lines sound = rules_again func rule lines
any_again (queue c t) lines sound = again_says (queue c t) queues (queue_again c t) lines sound
