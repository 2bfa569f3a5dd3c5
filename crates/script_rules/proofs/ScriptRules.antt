-- The rules and calls of a script are judged.
use Rattle.std.proofs.Common.{◌≡◌, ◌≢◌, ◌≤◌, ◌-◌, ◌&&◌, ℕ, ℤ, pos, Bool, true, false, cond, List, [], ◌∷◌, ◌++◌, length, take, drop, length-drop, length-append, Option, Some, None, option_map, nat_lt, nat_abs, nat_le, inl, reverse, leb-true, leb-false, codes, refl, ap, subst, arith}
use Rattle.std.specs.List.{All, prefix_len}
use Rattle.std.proofs.lemmas.Bool.{and_parts}
use Rattle.std.proofs.lemmas.List.{length-take-le, take-append-drop}
use Rattle.std.proofs.lemmas.List.Elements.{All-append, All-cons, All-nil}
use Rattle.facts.specs.OptionSteps.{◌>>=◌}
use Rattle.tars_model.specs.Ranges.{is_int}
use Rattle.script_lines.specs.Faults.{Line, HasNoFault}
use Rattle.script_lines.specs.Forms as form
use Rattle.script_lines.specs.Forms.{Said, Says, SaysRule, SaysEvent, header, event, skipped}
use Rattle.script_lines.specs.Lines.{TextLine, text_lines, content_of, after_spaces, before_spaces, is_word_byte, is_space, next_word, IsCut}
use Rattle.script_lines.specs.Meanings as says
use Rattle.script_lines.specs.Meanings.{rule_meant, code_meant, read_meant, event_meant}
use Rattle.script_lines.specs.Numbers.{is_number, number_of, within}
use Rattle.script_lines.specs.Scripts.{Script, IsScript, RuleLine, EventLine, AreRead, said_by, rules, events, one_of}
use Rattle.script_lines.specs.TextLimits.{MAX_LINE, CALLER, NODE}
use Rattle.script_lines.specs.declared.fault.ScriptWhy.TheVariants.{TooMany}
use Rattle.script_rules.specs.Rules.{IsJudged, IsJudgedEvent}
use Rattle.script_rules.proofs.Names.{some_is}

-- ---- what is left of a line is no longer than it

less : (n : ℕ) (bytes : List ℕ) → length (drop n bytes) ≤ length bytes
less n bytes = omega (arith, length-drop n bytes)

word_left : (content word after : List ℕ) → next_word content ≡ Some (word, after) → length after ≤ length content
unfolding next_word
word_left [] word after is = absurd cc
word_left (c ∷ cs) word after is =
    subst (λ (x : List ℕ × List ℕ). length x.1 ≤ length (c ∷ cs)) (some_is is) (twice (prefix_len is_word_byte (c ∷ cs)))
  where
    twice : (n : ℕ) → length (after_spaces (drop n (c ∷ cs))) ≤ length (c ∷ cs)
    twice n = omega (arith, less (prefix_len is_space (drop n (c ∷ cs))) (drop n (c ∷ cs)), less n (c ∷ cs))

-- and so is each word of it
word_less : (content word after : List ℕ) → next_word content ≡ Some (word, after) → length word ≤ length content
unfolding next_word
word_less [] word after is = absurd cc
word_less (c ∷ cs) word after is =
    subst (λ (x : List ℕ × List ℕ). length x.0 ≤ length (c ∷ cs)) (some_is is) (shorter (prefix_len is_word_byte (c ∷ cs)))
  where
    shorter : (n : ℕ) → length (take n (c ∷ cs)) ≤ length (c ∷ cs)
    shorter n = omega (arith, ap length (take-append-drop n (c ∷ cs)), length-append (take n (c ∷ cs)) (drop n (c ∷ cs)))

pub cut_left : (words : List (List ℕ)) (content rest : List ℕ) → IsCut content words rest → length rest ≤ length content
cut_left [] content rest is = omega (arith, ap length is)
cut_left (word ∷ words) content rest (after, next, more) = omega (arith, cut_left words after rest more, word_left content word after next)

third_less : (content first second third rest : List ℕ) → IsCut content (first ∷ second ∷ third ∷ []) rest → length third ≤ length content
third_less content first second third rest (a, one, (b, two, (c, three, is))) =
    omega (arith, word_left content first a one, word_left a second b two, word_less b third c three)

pub content_less : (line : List ℕ) → length (content_of line) ≤ length line
unfolding content_of
content_less line =
    omega (arith, less (prefix_len is_space (before_spaces line)) (before_spaces line), length-take-le (length line - prefix_len is_space (reverse line)) line)

-- ---- rules

abbrev pub Judged : RuleLine → Type 0
Judged line = IsJudged line.rule

module _ (at : ℕ) (func : List ℕ) where
  may_judged : (o : Option says.Rule) → ((r : says.Rule) → o ≡ Some r → IsJudged r) → All Judged (one_of (option_map (λ r. record { at = at; func = func; rule = r }) o))
  may_judged None judged = All-nil Judged
  may_judged (Some r) judged = All-cons Judged (record { at = at; func = func; rule = r }) [] (judged r refl) (All-nil Judged)

code_not : (number : ℤ) → nat_lt 0 (nat_abs number) ≡ true → number ≢ pos 0
code_not number above is = absurd (nothing (subst (λ (n : ℤ). nat_lt 0 (nat_abs n) ≡ true) is above))
  where
    nothing : nat_lt 0 (nat_abs (pos 0)) ≡ true → ⊥
    nothing e = cc

code_is : (text : List ℕ) (number : ℤ) → code_meant text ≡ Some number → number ≢ pos 0
unfolding code_meant
code_is text number is = by_test (is_number text && (is_int (number_of text) && nat_lt 0 (nat_abs (number_of text)))) refl is
  where
    by_test : (b : Bool) → (is_number text && (is_int (number_of text) && nat_lt 0 (nat_abs (number_of text)))) ≡ b → cond b (Some (number_of text)) None ≡ Some number → number ≢ pos 0
    by_test true test same =
        let parts = and_parts (is_number text) _ test in
        let more = and_parts (is_int (number_of text)) _ parts.1 in
        subst (λ (n : ℤ). n ≢ pos 0) (some_is same) (code_not (number_of text) more.1)
    by_test false test same = absurd cc

meant_judged : (rest : List ℕ) (form : form.RuleForm) → SaysRule rest form → length rest ≤ MAX_LINE → (r : says.Rule) → rule_meant form ≡ Some r → IsJudged r
unfolding rule_meant
meant_judged rest (form.value text) h short r is =
    subst IsJudged (some_is is) (omega (arith, cut_left (codes "value" ∷ []) rest text h.0, short))
meant_judged rest (form.echo name) h short r is = subst IsJudged (some_is is) tt
meant_judged rest (form.add left right) h short r is = subst IsJudged (some_is is) tt
meant_judged rest (form.code text) h short r is = by_code (code_meant text) refl is
  where
    by_code : (o : Option ℤ) → code_meant text ≡ o → (o >>= λ number. Some (says.code number)) ≡ Some r → IsJudged r
    by_code None means same = absurd cc
    by_code (Some number) means same = subst IsJudged (some_is same) (code_is text number means)
meant_judged rest form.silent h short r is = subst IsJudged (some_is is) tt

-- ---- lines

line_judged : (at : ℕ) (bytes : List ℕ) (said : Said) → length bytes ≤ MAX_LINE → Says bytes said → All Judged (rules at said)
line_judged at bytes (header (form.servant func rule)) short (rest, cut, h) =
    may_judged at func (rule_meant rule)
    (meant_judged rest rule h (omega (arith, cut_left (codes "servant" ∷ func ∷ []) (content_of bytes) rest cut, content_less bytes, short)))
line_judged at bytes (header (form.client file)) short h = All-nil Judged
line_judged at bytes (header (form.server file)) short h = All-nil Judged
line_judged at bytes (header (form.interface home name)) short h = All-nil Judged
line_judged at bytes (header (form.object text)) short h = All-nil Judged
line_judged at bytes (header (form.queue capacity timeout)) short h = All-nil Judged
line_judged at bytes (event e) short h = All-nil Judged
line_judged at bytes skipped short h = All-nil Judged

short_line : (earlier : List Line) (bytes : List ℕ) → HasNoFault earlier bytes → length bytes ≤ MAX_LINE
short_line earlier bytes none = by_test (nat_le (length bytes) MAX_LINE) refl
  where
    by_test : (b : Bool) → nat_le (length bytes) MAX_LINE ≡ b → length bytes ≤ MAX_LINE
    by_test true test = leb-true (length bytes) MAX_LINE test
    by_test false test = absurd (none TooMany (inl (leb-false (length bytes) MAX_LINE test)))

-- what holds of all that a line says holds of all that lines say
module _ {X : Type 0} (what : ℕ → Said → List X) (P : X → Type 0) (line_holds : (at : ℕ) (bytes : List ℕ) (said : Said) → length bytes ≤ MAX_LINE → Says bytes said → All P (what at said)) where
  pub each_said : (earlier : List Line) (texts : List TextLine) (lines : List Line) → AreRead earlier texts lines → All P (said_by what lines)
  each_said earlier [] [] read = All-nil P
  each_said earlier (t ∷ texts) [] read = absurd read
  each_said earlier [] (line ∷ lines) read = absurd read
  each_said earlier (t ∷ texts) (line ∷ lines) (at, says, none, more) =
      All-append P (what line.at line.said) (said_by what lines)
      (line_holds line.at t.bytes line.said (short_line earlier t.bytes none) says) (each_said (earlier ++ line ∷ []) texts lines more)

pub script_judged : (text : List ℕ) (s : Script) → IsScript text s → All Judged s.rules
script_judged text s is =
    subst (λ (ls : List RuleLine). All Judged ls) is.say.rules (each_said rules Judged line_judged [] (text_lines text) is.lines is.read)

-- ---- events

abbrev pub JudgedEvent : EventLine → Type 0
JudgedEvent line = IsJudgedEvent line.event

may_events : (at : ℕ) (o : Option says.Event) → ((e : says.Event) → o ≡ Some e → IsJudgedEvent e) → All JudgedEvent (one_of (option_map (λ e. record { at = at; event = e }) o))
may_events at None judged = All-nil JudgedEvent
may_events at (Some e) judged = All-cons JudgedEvent (record { at = at; event = e }) [] (judged e refl) (All-nil JudgedEvent)

-- what is meant after some condition
after : {A : Type 0} (o : Option A) (f : A → says.Event) (e : says.Event) → ((a : A) → IsJudgedEvent (f a)) → (o >>= λ a. Some (f a)) ≡ Some e → IsJudgedEvent e
after None f e each is = absurd cc
after (Some a) f e each is = subst IsJudgedEvent (some_is is) (each a)

event_judged : (content : List ℕ) (form : form.EventForm) → SaysEvent content form → length content ≤ MAX_LINE → (e : says.Event) → event_meant form ≡ Some e → IsJudgedEvent e
unfolding event_meant
event_judged content (form.call caller func args) h short e is =
    after (within CALLER CALLER caller) (λ _. says.call func args) e
    (λ _. (
      omega (arith, third_less content (codes "call") caller func args h.0, short),
      omega (arith, cut_left (codes "call" ∷ caller ∷ func ∷ []) content args h.0, short),
    )) is
event_judged content (form.serve node count) h short e is = after (read_meant node count) says.serve e (λ _. tt) is
event_judged content (form.work node) h short e is = after (within NODE NODE node) (λ _. says.work) e (λ _. tt) is
event_judged content (form.deliver node count) h short e is = after (read_meant node count) says.deliver e (λ _. tt) is
event_judged content form.close h short e is = subst IsJudgedEvent (some_is is) tt

line_event : (at : ℕ) (bytes : List ℕ) (said : Said) → length bytes ≤ MAX_LINE → Says bytes said → All JudgedEvent (events at said)
line_event at bytes (event form) short h = may_events at (event_meant form) (event_judged (content_of bytes) form h (omega (arith, content_less bytes, short)))
line_event at bytes (header h) short says = All-nil JudgedEvent
line_event at bytes skipped short says = All-nil JudgedEvent

pub events_judged : (text : List ℕ) (s : Script) → IsScript text s → All JudgedEvent s.events
events_judged text s is = subst (λ (ls : List EventLine). All JudgedEvent ls) is.say.events (each_said events JudgedEvent line_event [] (text_lines text) is.lines is.read)
