-- Lines, one after the other: what is kept of all, or the first that has a fault.
use Rattle.std.proofs.Common.{◌≡◌, ℕ, ◌≤◌, true, eqb, List, [], ◌∷◌, ◌++◌, Result, Ok, Err, refl, sym, ap, subst, ◌∙◌, append_assoc, append-nil, if◌then◌else◌, arith}
use Rattle.facts.specs.ResultSteps.{◌>>=◌}
use Rattle.script_lines.specs.Lines.{TextLine}
use Rattle.script_lines.specs.Forms.{Said, Says}
use Rattle.script_lines.specs.Faults.{Line, HasFault, HasNoFault}
use Rattle.script_lines.specs.FaultNumbers.{number_of}
use Rattle.script_lines.specs.Scripts.{AreRead}
use Rattle.script_lines.specs.KeptSteps.{Kept, keep_line, at_line, keep_lines}
use Rattle.script_lines.specs.declared.fault.ScriptFault.{ScriptFault}
use Rattle.script_lines.specs.declared.fault.ScriptWhy.{ScriptWhy}
use Rattle.script_lines.specs.declared.fault.ScriptWhy.TheVariants.{BadLine, Order, Missing, Twice, BadObject, BadNumber, TooMany}
use Rattle.script_lines.proofs.FormLaws.{one_said}
use Rattle.script_lines.proofs.KeptOf.{kept_of, is_sound, AreSound, sound_next}
use Rattle.script_lines.proofs.LineLaws.{LineGives, line_gives}

-- ---- numbers tell the faults apart

abbrev why_of : ℕ → ScriptWhy
why_of n =
    if eqb n 1 then BadLine else (if eqb n 2 then Order else (if eqb n 3 then Missing else (if eqb n 4 then Twice
    else (if eqb n 5 then BadObject else (if eqb n 8 then BadNumber else TooMany)))))

why_back : (why : ScriptWhy) → why_of (number_of why) ≡ why
why_back BadLine = refl
why_back Order = refl
why_back Missing = refl
why_back Twice = refl
why_back BadObject = refl
why_back BadNumber = refl
why_back TooMany = refl

same_number : (a b : ScriptWhy) → number_of a ≤ number_of b → number_of b ≤ number_of a → a ≡ b
same_number a b below above =
    let same : number_of a ≡ number_of b = omega (arith, below, above) in
    sym (why_back a) ∙ ap why_of same ∙ why_back b

-- ---- all lines

abbrev IsLeastFault : List Line → List ℕ → ScriptWhy → Type 0
IsLeastFault earlier bytes why = HasFault earlier bytes why × ((other : ScriptWhy) → HasFault earlier bytes other → number_of why ≤ number_of other)

-- the first line that has a fault
pub record FaultIn (earlier : List Line) (texts : List TextLine) (fault : ScriptFault) : Type 0 where
  pub before : List TextLine
  pub line : TextLine
  pub after : List TextLine
  pub split : texts ≡ before ++ line ∷ after
  pub lines : List Line
  pub read : AreRead earlier before lines
  pub is : IsLeastFault (earlier ++ lines) line.bytes fault.why
  pub at : fault.at ≡ line.at

abbrev pub LinesGive : List Line → List TextLine → Result Kept ScriptFault → Type 0
LinesGive earlier texts (Ok k) = (lines : List Line) × AreRead earlier texts lines × AreSound (earlier ++ lines) × (k ≡ kept_of (earlier ++ lines))
LinesGive earlier texts (Err fault) = FaultIn earlier texts fault

more_given : (earlier : List Line) (text : TextLine) (texts : List TextLine) (said : Said) → Says text.bytes said → HasNoFault earlier text.bytes
    → (r : Result Kept ScriptFault) → LinesGive (earlier ++ record { at = text.at; said = said } ∷ []) texts r → LinesGive earlier (text ∷ texts) r
more_given earlier text texts said says none (Ok k) given =
    let line : Line = record { at = text.at; said = said } in
    let same : (earlier ++ line ∷ []) ++ given.0 ≡ earlier ++ line ∷ given.0 = append_assoc earlier (line ∷ []) given.0 in
    (line ∷ given.0, (refl, says, none, given.1), subst AreSound same given.2, given.3 ∙ ap kept_of same)
more_given earlier text texts said says none (Err fault) given =
    let line : Line = record { at = text.at; said = said } in
    record {
      before = text ∷ given.before;
      line = given.line;
      after = given.after;
      split = ap (λ (ts : List TextLine). text ∷ ts) given.split;
      lines = line ∷ given.lines;
      read = (refl, says, none, given.read);
      is = subst (λ (ls : List Line). IsLeastFault ls given.line.bytes fault.why) (append_assoc earlier (line ∷ []) given.lines) given.is;
      at = given.at;
    }

by_line : (earlier : List Line) (text : TextLine) (texts : List TextLine) → AreSound earlier → ((next : List Line) → AreSound next → LinesGive next texts (keep_lines (kept_of next) texts))
    → (r : Result Kept ScriptWhy) → LineGives earlier text.at text.bytes r → LinesGive earlier (text ∷ texts) (at_line text.at r >>= λ k. keep_lines k texts)
by_line earlier text texts sound more (Ok k) given =
    let line : Line = record { at = text.at; said = given.0 } in
    subst (λ (k : Kept). LinesGive earlier (text ∷ texts) (keep_lines k texts)) (sym given.4)
    (more_given earlier text texts given.0 given.1 given.2 (keep_lines (kept_of (earlier ++ line ∷ [])) texts) (more (earlier ++ line ∷ []) (sound_next earlier line sound given.3)))
by_line earlier text texts sound more (Err why) given = record {
  before = [];
  line = text;
  after = texts;
  split = refl;
  lines = [];
  read = tt;
  is = subst (λ (ls : List Line). IsLeastFault ls text.bytes why) (sym (append-nil earlier)) given;
  at = refl;
}

pub lines_give : (earlier : List Line) (texts : List TextLine) → AreSound earlier → LinesGive earlier texts (keep_lines (kept_of earlier) texts)
unfolding keep_lines
lines_give earlier [] sound = ([], tt, subst AreSound (sym (append-nil earlier)) sound, ap kept_of (sym (append-nil earlier)))
lines_give earlier (text ∷ texts) sound =
    by_line earlier text texts sound (λ next sound. lines_give next texts sound) (keep_line text.at text.bytes (kept_of earlier)) (line_gives earlier text.at text.bytes sound)

-- ---- and nothing else

-- a line that says something and has no fault is kept
pub line_kept : (earlier : List Line) (at : ℕ) (bytes : List ℕ) (said : Said) → Says bytes said → HasNoFault earlier bytes → (r : Result Kept ScriptWhy) → LineGives earlier at bytes r
    → (r ≡ Ok (kept_of (earlier ++ record { at = at; said = said } ∷ []))) × (is_sound said ≡ true)
line_kept earlier at bytes said says none (Ok k) given =
    let same = one_said bytes given.0 said given.1 says in
    (ap Ok given.4 ∙ ap (λ (s : Said). Ok (kept_of (earlier ++ record { at = at; said = s } ∷ []))) same, ap is_sound (sym same) ∙ given.3)
line_kept earlier at bytes said says none (Err why) given = absurd (none why given.0)

-- a line's least fault is given
line_faults : (earlier : List Line) (at : ℕ) (bytes : List ℕ) (why : ScriptWhy) → IsLeastFault earlier bytes why → (r : Result Kept ScriptWhy) → LineGives earlier at bytes r → r ≡ Err why
line_faults earlier at bytes why is (Ok k) given = absurd (given.2 why is.0)
line_faults earlier at bytes why is (Err other) given = ap Err (same_number other why (given.1 why is.0) (is.1 other given.0))

pub lines_kept : (earlier : List Line) (texts : List TextLine) (lines : List Line) → AreSound earlier → AreRead earlier texts lines → keep_lines (kept_of earlier) texts ≡ Ok (kept_of (earlier ++ lines))
unfolding keep_lines
lines_kept earlier [] [] sound read = ap (λ (ls : List Line). Ok (kept_of ls)) (sym (append-nil earlier))
lines_kept earlier [] (line ∷ lines) sound read = absurd read
lines_kept earlier (text ∷ texts) [] sound read = absurd read
lines_kept earlier (text ∷ texts) (line ∷ lines) sound read =
    let first = line_kept earlier text.at text.bytes line.said read.1 read.2 (keep_line text.at text.bytes (kept_of earlier)) (line_gives earlier text.at text.bytes sound) in
    let same : record { at = text.at; said = line.said } ≡ line = ap (λ (n : ℕ). record { at = n; said = line.said }) (sym read.0) in
    ap (λ (r : Result Kept ScriptWhy). at_line text.at r >>= λ k. keep_lines k texts) first.0
    ∙ ap (λ (l : Line). keep_lines (kept_of (earlier ++ l ∷ [])) texts) same
    ∙ lines_kept (earlier ++ line ∷ []) texts lines (sound_next earlier line sound first.1) read.3
    ∙ ap (λ (ls : List Line). Ok (kept_of ls)) (append_assoc earlier (line ∷ []) lines)

pub lines_fault : (earlier : List Line) (before after : List TextLine) (text : TextLine) (lines : List Line) (why : ScriptWhy) → AreSound earlier → AreRead earlier before lines
    → IsLeastFault (earlier ++ lines) text.bytes why → keep_lines (kept_of earlier) (before ++ text ∷ after) ≡ Err (record { at = text.at; why = why })
unfolding keep_lines
lines_fault earlier [] after text [] why sound read is =
    let here : IsLeastFault earlier text.bytes why = subst (λ (ls : List Line). IsLeastFault ls text.bytes why) (append-nil earlier) is in
    ap (λ (r : Result Kept ScriptWhy). at_line text.at r >>= λ k. keep_lines k after) (line_faults earlier text.at text.bytes why here (keep_line text.at text.bytes (kept_of earlier)) (line_gives earlier text.at text.bytes sound))
lines_fault earlier [] after text (line ∷ lines) why sound read is = absurd read
lines_fault earlier (first ∷ before) after text [] why sound read is = absurd read
lines_fault earlier (first ∷ before) after text (line ∷ lines) why sound read is =
    let one = line_kept earlier first.at first.bytes line.said read.1 read.2 (keep_line first.at first.bytes (kept_of earlier)) (line_gives earlier first.at first.bytes sound) in
    let same : record { at = first.at; said = line.said } ≡ line = ap (λ (n : ℕ). record { at = n; said = line.said }) (sym read.0) in
    let later : IsLeastFault ((earlier ++ line ∷ []) ++ lines) text.bytes why = subst (λ (ls : List Line). IsLeastFault ls text.bytes why) (sym (append_assoc earlier (line ∷ []) lines)) is in
    ap (λ (r : Result Kept ScriptWhy). at_line first.at r >>= λ k. keep_lines k (before ++ text ∷ after)) one.0
    ∙ ap (λ (l : Line). keep_lines (kept_of (earlier ++ l ∷ [])) (before ++ text ∷ after)) same
    ∙ lines_fault (earlier ++ line ∷ []) before after text lines why (sound_next earlier line sound one.1) read.3 later
