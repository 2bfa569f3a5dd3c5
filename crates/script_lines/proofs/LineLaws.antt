-- One line: what is kept of it, or its least fault.
use Rattle.std.proofs.Common.{◌≡◌, ℕ, ◌+◌, ◌≤◌, Bool, true, false, not, ◌&&◌, ◌||◌, leb, List, [], ◌∷◌, ◌++◌, length, Option, Some, None, Result, Ok, Err, refl, sym, ap, subst, ◌∙◌, append-nil, if◌then◌else◌, arith}
use Rattle.std.specs.Prelude.{is_some, is_none, option_map}
use Rattle.std.specs.List.{list_any}
use Rattle.std.specs.Str.{bytes_eq}
use Rattle.std.proofs.lemmas.Bool.{and_parts}
use Rattle.facts.specs.ResultSteps.{◌>>=◌}
use Rattle.facts.specs.OptionSteps as maybe
use Rattle.facts.proofs.OptionLaws.{some_is}
use Rattle.script_lines.specs.Forms.{HeaderForm, client, server, interface, object, servant, queue, EventForm, call, serve, work, deliver, close, Said, skipped, header, event, Says}
use Rattle.script_lines.specs.Objects.{Object}
use Rattle.script_lines.specs.Meanings.{Event, rule_meant, queue_meant, event_meant, read_meant}
use Rattle.script_lines.specs.Meanings as meant
use Rattle.script_lines.specs.Faults.{Line, is_call, is_event, is_in_range, names_node, HasFault, HasNoFault}
use Rattle.script_lines.specs.FaultNumbers.{number_of}
use Rattle.script_lines.specs.Numbers.{within}
use Rattle.script_lines.specs.Scripts.{said_by, clients, servers, interfaces, rules, queues, events}
use Rattle.script_lines.specs.TextLimits.{MAX_CALLS, CALLER, NODE}
use Rattle.script_lines.specs.FormSteps.{said_at}
use Rattle.script_lines.specs.ObjectSteps.{object_at}
use Rattle.script_lines.specs.KeptSteps.{Kept, kept, or_fault, with_client, with_server, with_interface, with_object, with_rule, with_queue, with_event, keep_client, keep_server, keep_interface, keep_object, keep_rule, keep_queue, keep_header, is_empty_list, add_event, keep_event, keep_form, if_short, keep_line}
use Rattle.script_lines.specs.declared.fault.ScriptWhy.{ScriptWhy}
use Rattle.script_lines.specs.declared.fault.ScriptWhy.TheVariants.{BadLine, Order, Missing, Twice, BadObject, BadNumber, TooMany}
use Rattle.script_lines.proofs.FormLaws.{said_takes, said_again}
use Rattle.script_lines.proofs.FaultTests.{tests, fails, verdict, Judges, verdict_judges, tests_of, is_bad_object, is_long, calls_in, fault_fails, fails_fault, no_fault}
use Rattle.script_lines.proofs.KeptOf.{first_of, read_objects, funcs, calls_of, kept_of, is_sound, AreSound, said_next, calls_next, any_event, any_object, is_kept, any_again}

-- what there is, or else the other
abbrev or_kept : Kept → Option Kept → Kept
or_kept k None = k
or_kept k (Some next) = next

-- what is kept with a line more, where it has no fault
abbrev add_line : ℕ → Said → Kept → Kept
add_line at skipped k = k
add_line at (header (client file)) k = with_client k file
add_line at (header (server file)) k = with_server k file
add_line at (header (interface home name)) k = with_interface k (record { at = at; home = home; name = name })
add_line at (header (object text)) k = or_kept k (option_map (with_object k) (object_at text))
add_line at (header (servant func rule)) k = or_kept k (option_map (with_rule at func k) (rule_meant rule))
add_line at (header (queue capacity timeout)) k = or_kept k (option_map (with_queue k) (queue_meant capacity timeout))
add_line at (event form) k = or_kept k (option_map (with_event at k) (event_meant form))

-- ---- the steps, as a verdict

abbrev Kinds : Type 0
Kinds = Result Kept ScriptWhy

-- a line that is not too long
abbrev unless_long : Bool → Kept → Kinds
unless_long long k = if long then Err TooMany else Ok k

set_once : (none twice long : Bool) (x : Kept) → ((if none then (if twice then Err Twice else Ok x) else Err Order) >>= unless_long long) ≡ verdict (tests (not none) twice false false long) x
set_once false twice long x = refl
set_once true true long x = refl
set_once true false true x = refl
set_once true false false x = refl

object_once : {X : Type 0} (none twice long : Bool) (o : Option X) (k : Kept) (with : X → Kept)
    → ((if none then (if twice then Err Twice else (or_fault o BadObject >>= λ x. Ok (with x))) else Err Order) >>= unless_long long) ≡ verdict (tests (not none) twice (is_none o) false long) (or_kept k (option_map with o))
unfolding or_fault
object_once false twice long o k with = refl
object_once true true long o k with = refl
object_once true false long None k with = refl
object_once true false true (Some x) k with = refl
object_once true false false (Some x) k with = refl

number_once : {X : Type 0} (none twice long : Bool) (o : Option X) (k : Kept) (with : X → Kept)
    → ((if none then (if twice then Err Twice else (or_fault o BadNumber >>= λ x. Ok (with x))) else Err Order) >>= unless_long long) ≡ verdict (tests (not none) twice false (not (is_some o)) long) (or_kept k (option_map with o))
unfolding or_fault
number_once false twice long o k with = refl
number_once true true long o k with = refl
number_once true false long None k with = refl
number_once true false true (Some x) k with = refl
number_once true false false (Some x) k with = refl

add_short : (full long : Bool) (x : Kept) → ((if full then Err TooMany else Ok x) >>= unless_long long) ≡ verdict (tests false false false false (long || full)) x
add_short true true x = refl
add_short true false x = refl
add_short false true x = refl
add_short false false x = refl

event_once : (at : ℕ) (k : Kept) (node long calls : Bool) (o : Option Object) (m : Option Event) → ((e : Event) → m ≡ Some e → meant.is_call e ≡ calls)
    → ((if node && is_none o then Err BadNumber else (or_fault m BadNumber >>= λ e. add_event at e k)) >>= unless_long long)
    ≡ verdict (tests false false false (not (is_some m && (not node || is_some o))) (long || (calls && leb MAX_CALLS k.calls))) (or_kept k (option_map (with_event at k) m))
unfolding or_fault add_event
event_once at k false long calls o None same = refl
event_once at k true long calls None None same = refl
event_once at k true long calls (Some x) None same = refl
event_once at k true long calls None (Some e) same = refl
event_once at k true long calls (Some x) (Some e) same =
    add_short (meant.is_call e && leb MAX_CALLS k.calls) long (with_event at k e) ∙ ap (λ (c : Bool). verdict (tests false false false false (long || (c && leb MAX_CALLS k.calls))) (with_event at k e)) (same e refl)
event_once at k false long calls o (Some e) same =
    add_short (meant.is_call e && leb MAX_CALLS k.calls) long (with_event at k e) ∙ ap (λ (c : Bool). verdict (tests false false false false (long || (c && leb MAX_CALLS k.calls))) (with_event at k e)) (same e refl)

-- an event's form and its meaning are both a call or both none
no_call : {X : Type 0} (o : Option X) (f : X → Event) → ((x : X) → meant.is_call (f x) ≡ false) → (e : Event) → maybe.◌>>=◌ o (λ x. Some (f x)) ≡ Some e → meant.is_call e ≡ false
no_call None f none e is = cc
no_call (Some x) f none e is = subst (λ (e : Event). meant.is_call e ≡ false) (some_is (f x) e is) (none x)

is_a_call : {X : Type 0} (o : Option X) (f : X → Event) → ((x : X) → meant.is_call (f x) ≡ true) → (e : Event) → maybe.◌>>=◌ o (λ x. Some (f x)) ≡ Some e → meant.is_call e ≡ true
is_a_call None f some e is = cc
is_a_call (Some x) f some e is = subst (λ (e : Event). meant.is_call e ≡ true) (some_is (f x) e is) (some x)

pub event_call : (form : EventForm) (e : Event) → event_meant form ≡ Some e → meant.is_call e ≡ is_call (event form)
unfolding event_meant
event_call (call caller func args) e is = is_a_call (within CALLER CALLER caller) (λ _. meant.call func args) (λ _. refl) e is
event_call (serve node count) e is = no_call (read_meant node count) (λ count. meant.serve count) (λ _. refl) e is
event_call (work node) e is = no_call (within NODE NODE node) (λ _. meant.work) (λ _. refl) e is
event_call (deliver node count) e is = no_call (read_meant node count) (λ count. meant.deliver count) (λ _. refl) e is
event_call close e is = subst (λ (e : Event). meant.is_call e ≡ false) (some_is meant.close e is) refl

header_verdict : (earlier : List Line) (at len : ℕ) (form : HeaderForm) → AreSound earlier
    → ((if is_empty_list (kept_of earlier).events then keep_header at form (kept_of earlier) else Err Order) >>= unless_long (is_long len))
    ≡ verdict (tests (not (is_empty_list (kept_of earlier).events)) (is_kept form (kept_of earlier)) (is_bad_object form) (not (is_in_range earlier (header form))) (is_long len)) (add_line at (header form) (kept_of earlier))
unfolding keep_header keep_client keep_server keep_interface keep_object keep_rule keep_queue
header_verdict earlier at len (client file) sound = set_once (is_empty_list (kept_of earlier).events) (is_some (kept_of earlier).client) (is_long len) (with_client (kept_of earlier) file)
header_verdict earlier at len (server file) sound = set_once (is_empty_list (kept_of earlier).events) (is_some (kept_of earlier).server) (is_long len) (with_server (kept_of earlier) file)
header_verdict earlier at len (interface home name) sound = set_once (is_empty_list (kept_of earlier).events) (is_some (kept_of earlier).interface) (is_long len) (with_interface (kept_of earlier) (record { at = at; home = home; name = name }))
header_verdict earlier at len (object text) sound = object_once (is_empty_list (kept_of earlier).events) (is_some (kept_of earlier).object) (is_long len) (object_at text) (kept_of earlier) (with_object (kept_of earlier))
header_verdict earlier at len (servant func rule) sound = number_once (is_empty_list (kept_of earlier).events) (list_any (bytes_eq func) (kept_of earlier).funcs) (is_long len) (rule_meant rule) (kept_of earlier) (with_rule at func (kept_of earlier))
header_verdict earlier at len (queue capacity timeout) sound = number_once (is_empty_list (kept_of earlier).events) (is_some (kept_of earlier).queue) (is_long len) (queue_meant capacity timeout) (kept_of earlier) (with_queue (kept_of earlier))

form_verdict : (earlier : List Line) (at len : ℕ) (said : Said) → AreSound earlier
    → (keep_form at said (kept_of earlier) >>= unless_long (is_long len)) ≡ verdict (tests_of earlier len said) (add_line at said (kept_of earlier))
unfolding keep_form keep_event
form_verdict earlier at len skipped sound = refl
form_verdict earlier at len (header form) sound =
    header_verdict earlier at len form sound
    ∙ ap (λ (o : Bool). verdict (tests o (is_kept form (kept_of earlier)) (is_bad_object form) (not (is_in_range earlier (header form))) (is_long len)) (add_line at (header form) (kept_of earlier))) (sym (any_event earlier sound))
    ∙ ap (λ (t : Bool). verdict (tests (list_any (λ line. is_event line.said) earlier) t (is_bad_object form) (not (is_in_range earlier (header form))) (is_long len)) (add_line at (header form) (kept_of earlier))) (sym (any_again form earlier sound))
form_verdict earlier at len (event form) sound =
    event_once at (kept_of earlier) (names_node form) (is_long len) (is_call (event form)) (kept_of earlier).object (event_meant form) (event_call form)
    ∙ ap (λ (o : Bool). verdict (tests false false false (not (is_some (event_meant form) && (not (names_node form) || o))) (is_long len || (is_call (event form) && leb MAX_CALLS (calls_in earlier)))) (add_line at (event form) (kept_of earlier))) (sym (any_object earlier sound))

-- ---- what is kept then

pub first_none : {X : Type 0} (xs : List X) → is_some (first_of xs) ≡ false → xs ≡ []
first_none [] e = refl
first_none (x ∷ xs) e = cc

some_value : {X : Type 0} (o : Option X) → is_some o ≡ true → (x : X) × (o ≡ Some x)
some_value None e = cc
some_value (Some x) e = (x, refl)

not_none : {X : Type 0} (o : Option X) → is_none o ≡ false → is_some o ≡ true
not_none None e = cc
not_none (Some x) e = refl

not_false : (b : Bool) → not b ≡ false → b ≡ true
not_false true e = refl
not_false false e = cc

abbrev next_kept : List Line → Line → Kept
next_kept lines line =
    kept (first_of (said_by clients lines ++ clients line.at line.said)) (first_of (said_by servers lines ++ servers line.at line.said))
    (first_of (said_by interfaces lines ++ interfaces line.at line.said)) (first_of (said_by read_objects lines ++ read_objects line.at line.said))
    (said_by rules lines ++ rules line.at line.said) (said_by funcs lines ++ funcs line.at line.said) (first_of (said_by queues lines ++ queues line.at line.said))
    (said_by events lines ++ events line.at line.said) (if is_call line.said then calls_of lines + 1 else calls_of lines)

kept_next : (lines : List Line) (line : Line) → kept_of (lines ++ line ∷ []) ≡ next_kept lines line
kept_next lines line =
    rw (said_next clients lines line, said_next servers lines line, said_next interfaces lines line, said_next read_objects lines line, said_next rules lines line, said_next funcs lines line, said_next queues lines line, said_next events lines line, calls_next lines line) refl

-- a line of which no test fails adds what it says
added_next : (earlier : List Line) (at len : ℕ) (said : Said) → AreSound earlier → ((why : ScriptWhy) → fails (tests_of earlier len said) why ≡ false)
    → (is_sound said ≡ true) × (add_line at said (kept_of earlier) ≡ next_kept earlier (record { at = at; said = said }))
added_next earlier at len skipped sound none = (refl, simp append-nil)
added_next earlier at len (header (client file)) sound none =
    let free = first_none (said_by clients earlier) (sym (any_again (client file) earlier sound) ∙ none Twice) in
    (refl, rw free (simp append-nil))
added_next earlier at len (header (server file)) sound none =
    let free = first_none (said_by servers earlier) (sym (any_again (server file) earlier sound) ∙ none Twice) in
    (refl, rw free (simp append-nil))
added_next earlier at len (header (interface home name)) sound none =
    let free = first_none (said_by interfaces earlier) (sym (any_again (interface home name) earlier sound) ∙ none Twice) in
    (refl, rw free (simp append-nil))
added_next earlier at len (header (object text)) sound none =
    let free = first_none (said_by read_objects earlier) (sym (any_again (object text) earlier sound) ∙ none Twice) in
    let o = some_value (object_at text) (not_none (object_at text) (none BadObject)) in
    (ap is_some o.1, rw (free, o.1) (simp append-nil))
added_next earlier at len (header (servant func rule)) sound none =
    let r = some_value (rule_meant rule) (not_false (is_some (rule_meant rule)) (none BadNumber)) in
    (ap is_some r.1, rw r.1 (simp append-nil))
added_next earlier at len (header (queue capacity timeout)) sound none =
    let free = first_none (said_by queues earlier) (sym (any_again (queue capacity timeout) earlier sound) ∙ none Twice) in
    let q = some_value (queue_meant capacity timeout) (not_false (is_some (queue_meant capacity timeout)) (none BadNumber)) in
    (ap is_some q.1, rw (free, q.1) (simp append-nil))
added_next earlier at len (event form) sound none =
    let m = some_value (event_meant form) (and_parts (is_some (event_meant form)) _ (not_false (is_in_range earlier (event form)) (none BadNumber))).0 in
    (ap is_some m.1, rw (m.1, sym (event_call form m.0 m.1)) (simp append-nil))

-- ---- a whole line

-- what comes of a line: it says something and has no fault, or this is its least fault
abbrev pub LineGives : List Line → ℕ → List ℕ → Kinds → Type 0
LineGives earlier at bytes (Ok k) =
    (said : Said) × Says bytes said × HasNoFault earlier bytes × (is_sound said ≡ true) × (k ≡ kept_of (earlier ++ record { at = at; said = said } ∷ []))
LineGives earlier at bytes (Err why) = HasFault earlier bytes why × ((other : ScriptWhy) → HasFault earlier bytes other → number_of why ≤ number_of other)

first_number : (why : ScriptWhy) → 1 ≤ number_of why
first_number BadLine = omega arith
first_number Order = omega arith
first_number Missing = omega arith
first_number Twice = omega arith
first_number BadObject = omega arith
first_number BadNumber = omega arith
first_number TooMany = omega arith

judged : (earlier : List Line) (at : ℕ) (bytes : List ℕ) (said : Said) → AreSound earlier → Says bytes said
    → (r : Kinds) → Judges (tests_of earlier (length bytes) said) (add_line at said (kept_of earlier)) r → LineGives earlier at bytes r
judged earlier at bytes said sound says (Ok k) is =
    let a = added_next earlier at (length bytes) said sound is.0 in
    (said, says, no_fault earlier bytes said says is.0, a.0, sym is.1 ∙ a.1 ∙ sym (kept_next earlier (record { at = at; said = said })))
judged earlier at bytes said sound says (Err why) is =
    (fails_fault earlier bytes said says why is.0, λ other has. is.1 other (fault_fails earlier bytes said says other has))

pub line_gives : (earlier : List Line) (at : ℕ) (bytes : List ℕ) → AreSound earlier → LineGives earlier at bytes (keep_line at bytes (kept_of earlier))
unfolding keep_line or_fault if_short
line_gives earlier at bytes sound = by_said (said_at bytes) refl
  where
    by_said : (o : Option Said) → said_at bytes ≡ o → LineGives earlier at bytes (or_fault o BadLine >>= λ said. keep_form at said (kept_of earlier) >>= if_short bytes)
    by_said None is = (λ said says. absurd (cc (is, said_again bytes said says)), λ other has. first_number other)
    by_said (Some said) is =
        let says = said_takes bytes said is in
        let t = tests_of earlier (length bytes) said in
        let next = add_line at said (kept_of earlier) in
        subst (LineGives earlier at bytes) (sym (form_verdict earlier at (length bytes) said sound)) (judged earlier at bytes said sound says (verdict t next) (verdict_judges t next))
