-- Every script keeps the limits of calls and rules.
use Rattle.std.proofs.Common.{◌≡◌, ℕ, ◌+◌, ◌≤◌, Bool, true, false, cond, List, [], ◌∷◌, ◌++◌, map, Option, Some, None, refl, sym, ap, subst, ◌∙◌, append_assoc, append-nil, if◌then◌else◌, arith, inl, inr}
use Rattle.std.specs.Prelude.{is_some, option_map, count_by}
use Rattle.std.specs.List.{fold, list_any}
use Rattle.std.specs.Str.{bytes_eq}
use Rattle.std.proofs.lemmas.Bool.{or_parts, cases_lt, false_from_ne_true}
use Rattle.std.proofs.lemmas.List.{map-append}
use Rattle.std.proofs.lemmas.List.Sums.{fold-append}
use Rattle.std.proofs.lemmas.List.Folds.{list_any-append}
use Rattle.std.proofs.lemmas.Slice.Eq.{bytes_eq-Decides}
use Rattle.script_lines.specs.Lines.{TextLine}
use Rattle.script_lines.specs.Forms.{HeaderForm, client, server, interface, object, servant, queue, EventForm, Said, skipped, header, event, Says}
use Rattle.script_lines.specs.Meanings.{Event, Rule, rule_meant, event_meant}
use Rattle.script_lines.specs.Meanings as meant
use Rattle.script_lines.specs.Faults.{Line, is_call, is_again, HasNoFault}
use Rattle.script_lines.specs.Scripts.{Script, EventLine, RuleLine, AreRead, one_of, said_by, rules, events, IsScript}
use Rattle.script_lines.specs.ScriptLimits.{Differ, KeepsLimits}
use Rattle.script_lines.specs.TextLimits.{MAX_CALLS}
use Rattle.script_lines.specs.KeptSteps.{keep_line}
use Rattle.script_lines.specs.declared.fault.ScriptWhy.TheVariants.{Twice, TooMany}
use Rattle.script_lines.proofs.KeptOf.{funcs, calls_of, kept_of, is_sound, AreSound, sound_next, said_next, calls_next, any_again}
use Rattle.script_lines.proofs.LineLaws.{line_gives, event_call}
use Rattle.script_lines.proofs.WalkLaws.{line_kept}

-- ---- calls

abbrev count : ℕ → List EventLine → ℕ
count n lines = fold (λ n line. n + cond (meant.is_call line.event) 1 0) n lines

-- an event that a line says
one_event : (n at : ℕ) (form : EventForm) (o : Option Event) → event_meant form ≡ o → is_some o ≡ true
    → count n (one_of (option_map (λ event. record { at = at; event = event }) o)) ≡ n + cond (is_call (event form)) 1 0
one_event n at form None is some = cc
one_event n at form (Some e) is some = ap (λ (b : Bool). n + cond b 1 0) (event_call form e is)

line_count : (n at : ℕ) (said : Said) → is_sound said ≡ true → count n (events at said) ≡ n + cond (is_call said) 1 0
line_count n at skipped sound = omega arith
line_count n at (header form) sound = omega arith
line_count n at (event form) sound = one_event n at form (event_meant form) refl sound

counts : (n : ℕ) (lines : List Line) → AreSound lines → count n (said_by events lines) ≡ fold (λ n line. n + cond (is_call line.said) 1 0) n lines
counts n [] sound = refl
counts n (line ∷ lines) sound =
    fold-append (λ (n : ℕ) (line : EventLine). n + cond (meant.is_call line.event) 1 0) n (events line.at line.said) (said_by events lines)
    ∙ ap (λ (m : ℕ). count m (said_by events lines)) (line_count n line.at line.said sound.0)
    ∙ counts (n + cond (is_call line.said) 1 0) lines sound.1

more_calls : (earlier : List Line) (bytes : List ℕ) (said : Said) → Says bytes said → HasNoFault earlier bytes → calls_of earlier ≤ MAX_CALLS → (b : Bool) → is_call said ≡ b
    → (if b then calls_of earlier + 1 else calls_of earlier) ≤ MAX_CALLS
more_calls earlier bytes said says none within false is = within
more_calls earlier bytes said says none within true is =
    elim (cases_lt (calls_of earlier) MAX_CALLS) [
      | inl room ↦ omega (arith, room)
      | inr full ↦ absurd (none TooMany (inr (said, says, is, full)))
    ]

-- ---- functions of rules

one_func : (at : ℕ) (func : List ℕ) (o : Option Rule) → is_some o ≡ true → map (λ (rule : RuleLine). rule.func) (one_of (option_map (λ rule. record { at = at; func = func; rule = rule }) o)) ≡ func ∷ []
one_func at func None some = cc
one_func at func (Some rule) some = refl

line_funcs : (at : ℕ) (said : Said) → is_sound said ≡ true → map (λ (rule : RuleLine). rule.func) (rules at said) ≡ funcs at said
line_funcs at skipped sound = refl
line_funcs at (header (client file)) sound = refl
line_funcs at (header (server file)) sound = refl
line_funcs at (header (interface home name)) sound = refl
line_funcs at (header (object text)) sound = refl
line_funcs at (header (servant func rule)) sound = one_func at func (rule_meant rule) sound
line_funcs at (header (queue capacity timeout)) sound = refl
line_funcs at (event form) sound = refl

all_funcs : (lines : List Line) → AreSound lines → map (λ (rule : RuleLine). rule.func) (said_by rules lines) ≡ said_by funcs lines
all_funcs [] sound = refl
all_funcs (line ∷ lines) sound =
    map-append (λ (rule : RuleLine). rule.func) (rules line.at line.said) (said_by rules lines)
    ∙ ap (λ (fs : List (List ℕ)). fs ++ map (λ (rule : RuleLine). rule.func) (said_by rules lines)) (line_funcs line.at line.said sound.0)
    ∙ ap (λ (fs : List (List ℕ)). funcs line.at line.said ++ fs) (all_funcs lines sound.1)

other_way : (a b : List ℕ) → bytes_eq a b ≡ false → bytes_eq b a ≡ false
other_way a b e = false_from_ne_true (bytes_eq b a) (λ same. absurd (cc (e, (bytes_eq-Decides a b).1 (sym ((bytes_eq-Decides b a).0 same)))))

differ_next : (names : List (List ℕ)) (name : List ℕ) → Differ names → list_any (bytes_eq name) names ≡ false → Differ (names ++ name ∷ [])
differ_next [] name differ new = (refl, tt)
differ_next (first ∷ names) name differ new =
    let parts = or_parts (bytes_eq name first) (list_any (bytes_eq name) names) new in
    let apart : list_any (bytes_eq first) (names ++ name ∷ []) ≡ false = list_any-append (bytes_eq first) names (name ∷ []) ∙ rw (differ.0, other_way name first parts.0) refl in
    (apart, differ_next names name differ.1 parts.1)

none_again : (earlier : List Line) (bytes : List ℕ) (form : HeaderForm) → Says bytes (header form) → HasNoFault earlier bytes → list_any (λ line. is_again form line.said) earlier ≡ false
none_again earlier bytes form says none = false_from_ne_true (list_any (λ line. is_again form line.said) earlier) (λ again. absurd (none Twice (form, says, again)))

differ_more : (earlier : List Line) (bytes : List ℕ) (at : ℕ) (said : Said) → AreSound earlier → Says bytes said → HasNoFault earlier bytes → Differ (said_by funcs earlier) → Differ (said_by funcs earlier ++ funcs at said)
differ_more earlier bytes at (header (servant func rule)) sound says none differ =
    differ_next (said_by funcs earlier) func differ (sym (any_again (servant func rule) earlier sound) ∙ none_again earlier bytes (servant func rule) says none)
differ_more earlier bytes at skipped sound says none differ = subst Differ (sym (append-nil (said_by funcs earlier))) differ
differ_more earlier bytes at (header (client file)) sound says none differ = subst Differ (sym (append-nil (said_by funcs earlier))) differ
differ_more earlier bytes at (header (server file)) sound says none differ = subst Differ (sym (append-nil (said_by funcs earlier))) differ
differ_more earlier bytes at (header (interface home name)) sound says none differ = subst Differ (sym (append-nil (said_by funcs earlier))) differ
differ_more earlier bytes at (header (object text)) sound says none differ = subst Differ (sym (append-nil (said_by funcs earlier))) differ
differ_more earlier bytes at (header (queue capacity timeout)) sound says none differ = subst Differ (sym (append-nil (said_by funcs earlier))) differ
differ_more earlier bytes at (event form) sound says none differ = subst Differ (sym (append-nil (said_by funcs earlier))) differ

-- ---- all lines

record Keep (lines : List Line) : Type 0 where
  pub sound : AreSound lines
  pub calls : calls_of lines ≤ MAX_CALLS
  pub rules : Differ (said_by funcs lines)

keep_next : (earlier : List Line) (bytes : List ℕ) (line : Line) → Says bytes line.said → HasNoFault earlier bytes → is_sound line.said ≡ true → Keep earlier → Keep (earlier ++ line ∷ [])
keep_next earlier bytes line says none sound k = record {
  sound = sound_next earlier line k.sound sound;
  calls = subst (λ (n : ℕ). n ≤ MAX_CALLS) (sym (calls_next earlier line)) (more_calls earlier bytes line.said says none k.calls (is_call line.said) refl);
  rules = subst Differ (sym (said_next funcs earlier line)) (differ_more earlier bytes line.at line.said k.sound says none k.rules);
}

keep_all : (earlier : List Line) (texts : List TextLine) (lines : List Line) → Keep earlier → AreRead earlier texts lines → Keep (earlier ++ lines)
keep_all earlier [] [] k read = subst Keep (sym (append-nil earlier)) k
keep_all earlier [] (line ∷ lines) k read = absurd read
keep_all earlier (text ∷ texts) [] k read = absurd read
keep_all earlier (text ∷ texts) (line ∷ lines) k read =
    let kept = line_kept earlier text.at text.bytes line.said read.1 read.2 (keep_line text.at text.bytes (kept_of earlier)) (line_gives earlier text.at text.bytes k.sound) in
    subst Keep (append_assoc earlier (line ∷ []) lines) (keep_all (earlier ++ line ∷ []) texts lines (keep_next earlier text.bytes line read.1 read.2 kept.1 k) read.3)

pub keeps_limits : (text : List ℕ) (s : Script) → IsScript text s → KeepsLimits s
keeps_limits text s is =
    let k = keep_all [] _ is.lines (record { sound = tt; calls = omega arith; rules = tt }) is.read in
    record {
      calls = subst (λ (es : List EventLine). count_by (λ line. meant.is_call line.event) es ≤ MAX_CALLS) is.say.events (subst (λ (n : ℕ). n ≤ MAX_CALLS) (sym (counts 0 is.lines k.sound)) k.calls);
      rules = subst (λ (rs : List RuleLine). Differ (map (λ rule. rule.func) rs)) is.say.rules (subst Differ (sym (all_funcs is.lines k.sound)) k.rules);
    }
