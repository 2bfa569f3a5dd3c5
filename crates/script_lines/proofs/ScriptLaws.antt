-- Scripts: what is kept of lines without a fault is the script that they say, or a header is missing.
use Rattle.std.proofs.Common.{◌≡◌, ℕ, List, [], ◌∷◌, ◌++◌, length, Option, Some, None, Result, Ok, Err, refl, sym, ap, subst, ◌∙◌, append-nil, inl, inr}
use Rattle.std.specs.Prelude.{is_some}
use Rattle.std.specs.List.{flat_map}
use Rattle.std.proofs.lemmas.Grind.{flat_map-append}
use Rattle.facts.specs.ResultSteps.{◌>>=◌}
use Rattle.script_lines.specs.Lines.{TextLine, text_lines}
use Rattle.script_lines.specs.Objects.{Object, SaysObject}
use Rattle.script_lines.specs.Forms.{client, server, interface, object, servant, queue, Said, skipped, header, event}
use Rattle.script_lines.specs.Faults.{Line}
use Rattle.script_lines.specs.Scripts.{Script, InterfaceLine, AreRead, one_of, said_by, clients, interfaces, objects, SayScript, LackHeader, IsScript, IsScriptFault}
use Rattle.script_lines.specs.ObjectSteps.{object_at}
use Rattle.script_lines.specs.KeptSteps.{Kept, keep_lines, script_by, script_from, outcome}
use Rattle.script_lines.specs.declared.fault.ScriptFault.{ScriptFault}
use Rattle.script_lines.specs.declared.fault.ScriptWhy.{ScriptWhy}
use Rattle.script_lines.specs.declared.fault.ScriptWhy.TheVariants.{Missing}
use Rattle.script_lines.proofs.ObjectLaws.{object_takes, object_again}
use Rattle.script_lines.proofs.KeptOf.{first_of, read_objects, kept_of, AreSound}
use Rattle.script_lines.proofs.WalkLaws.{LinesGive, lines_give, lines_kept, lines_fault}
use Rattle.script_lines.proofs.Singles.{IsSingle, Singles, no_text, singles}

-- ---- the script of lines

first_one : {X : Type 0} (o : Option X) → first_of (one_of o) ≡ o
first_one None = refl
first_one (Some x) = refl

first_only : {X : Type 0} (o : Option X) → first_of (one_of o ++ []) ≡ o
first_only None = refl
first_only (Some x) = refl

abbrev read_text : List ℕ → List Object
read_text text = one_of (object_at text)

-- objects are read of the texts that stand there
read_at : (at : ℕ) (said : Said) → read_objects at said ≡ flat_map read_text (objects at said)
read_at at skipped = refl
read_at at (header (client file)) = refl
read_at at (header (server file)) = refl
read_at at (header (interface home name)) = refl
read_at at (header (object text)) = sym (append-nil (read_text text))
read_at at (header (servant func rule)) = refl
read_at at (header (queue capacity timeout)) = refl
read_at at (event form) = refl

read_of : (lines : List Line) → said_by read_objects lines ≡ flat_map read_text (said_by objects lines)
read_of [] = refl
read_of (line ∷ lines) =
    ap (λ (os : List Object). os ++ said_by read_objects lines) (read_at line.at line.said)
    ∙ ap (λ (os : List Object). flat_map read_text (objects line.at line.said) ++ os) (read_of lines)
    ∙ sym (flat_map-append read_text (objects line.at line.said) (said_by objects lines))

-- the object that is kept, by its text
object_is : (lines : List Line) (text : List ℕ) → said_by objects lines ≡ text ∷ [] → first_of (said_by read_objects lines) ≡ object_at text
object_is lines text is = ap first_of (read_of lines ∙ ap (flat_map read_text) is) ∙ first_only (object_at text)

text_of_object : (lines : List Line) (o : Object) → IsSingle (said_by objects lines) → first_of (said_by read_objects lines) ≡ Some o → (text : List ℕ) × (said_by objects lines ≡ text ∷ []) × SaysObject text o
text_of_object lines o single is = by_text (first_of (said_by objects lines)) refl
  where
    by_text : (t : Option (List ℕ)) → first_of (said_by objects lines) ≡ t → (text : List ℕ) × (said_by objects lines ≡ text ∷ []) × SaysObject text o
    by_text None none =
        let nothing : first_of (said_by read_objects lines) ≡ None = ap first_of (read_of lines ∙ ap (flat_map read_text) (single ∙ ap one_of none)) in
        absurd (cc (nothing, is))
    by_text (Some text) some =
        let here : said_by objects lines ≡ text ∷ [] = single ∙ ap one_of some in
        (text, here, object_takes text o (sym (object_is lines text here) ∙ is))

abbrev FinishGives : ℕ → List Line → Result Script ScriptFault → Type 0
FinishGives len lines (Ok s) = SayScript lines s
FinishGives len lines (Err fault) = LackHeader lines × (fault.why ≡ Missing) × (fault.at ≡ len)

first_missing : {X : Type 0} (xs : List X) → first_of xs ≡ None → xs ≡ []
first_missing [] e = refl
first_missing (x ∷ xs) e = cc

finish_gives : (len : ℕ) (lines : List Line) → AreSound lines → Singles lines → FinishGives len lines (script_from len (kept_of lines))
unfolding script_from
finish_gives len lines sound s = by_headers (first_of (said_by clients lines)) (first_of (said_by interfaces lines)) (first_of (said_by read_objects lines)) refl refl refl
  where
    by_headers : (c : Option (List ℕ)) (i : Option InterfaceLine) (o : Option Object) → first_of (said_by clients lines) ≡ c → first_of (said_by interfaces lines) ≡ i → first_of (said_by read_objects lines) ≡ o
        → FinishGives len lines (script_by len (kept_of lines) c i o)
    by_headers None i o c_is i_is o_is = (inl (first_missing _ c_is), refl, refl)
    by_headers (Some c) None o c_is i_is o_is = (inr (inl (first_missing _ i_is)), refl, refl)
    by_headers (Some c) (Some i) None c_is i_is o_is = (inr (inr (no_text lines sound (ap is_some o_is))), refl, refl)
    by_headers (Some c) (Some i) (Some o) c_is i_is o_is =
        let t = text_of_object lines o s.object o_is in
        record {
          client = s.client ∙ ap one_of c_is;
          server = s.server;
          interface = s.interface ∙ ap one_of i_is;
          text = t.0;
          object = t.1;
          object_is = t.2;
          rules = refl;
          queue = s.queue;
          events = refl;
        }

script_is : (len : ℕ) (k : Kept) (s : Script) → k.client ≡ Some s.client → k.server ≡ s.server → k.interface ≡ Some s.interface → k.object ≡ Some s.object → k.rules ≡ s.rules → k.queue ≡ s.queue → k.events ≡ s.events
    → script_from len k ≡ Ok s
unfolding script_from
script_is len k s c sv i o r q e = rw (c, i, o) (rw (sv, r, q, e) refl)

said_script : (len : ℕ) (lines : List Line) (s : Script) → SayScript lines s → script_from len (kept_of lines) ≡ Ok s
said_script len lines s say =
    script_is len (kept_of lines) s (ap first_of say.client) (ap first_of say.server ∙ first_one s.server) (ap first_of say.interface)
    (object_is lines say.text say.object ∙ object_again say.text s.object say.object_is) say.rules (ap first_of say.queue ∙ first_one s.queue) say.events

abbrev missing : ℕ → Result Script ScriptFault
missing len = Err (record { at = len; why = Missing })

no_client : (len : ℕ) (k : Kept) (c : Option (List ℕ)) (i : Option InterfaceLine) (o : Option Object) → c ≡ None → script_by len k c i o ≡ missing len
no_client len k None i o e = refl
no_client len k (Some c) i o e = cc

no_interface : (len : ℕ) (k : Kept) (c : Option (List ℕ)) (i : Option InterfaceLine) (o : Option Object) → i ≡ None → script_by len k c i o ≡ missing len
no_interface len k None i o e = refl
no_interface len k (Some c) None o e = refl
no_interface len k (Some c) (Some i) o e = cc

no_object : (len : ℕ) (k : Kept) (c : Option (List ℕ)) (i : Option InterfaceLine) (o : Option Object) → o ≡ None → script_by len k c i o ≡ missing len
no_object len k None i o e = refl
no_object len k (Some c) None o e = refl
no_object len k (Some c) (Some i) None e = refl
no_object len k (Some c) (Some i) (Some o) e = cc

lacks_header : (len : ℕ) (lines : List Line) → LackHeader lines → script_from len (kept_of lines) ≡ missing len
unfolding script_from
lacks_header len lines (inl none) = no_client len (kept_of lines) _ _ _ (ap first_of none)
lacks_header len lines (inr (inl none)) = no_interface len (kept_of lines) _ _ _ (ap first_of none)
lacks_header len lines (inr (inr none)) = no_object len (kept_of lines) _ _ _ (ap first_of (read_of lines ∙ ap (flat_map read_text) none))

-- ---- whole texts

abbrev pub OutcomeIs : List ℕ → Result Script ScriptFault → Type 0
OutcomeIs text (Ok s) = IsScript text s
OutcomeIs text (Err fault) = IsScriptFault text fault

finished : (text : List ℕ) (lines : List Line) → AreRead [] (text_lines text) lines → (r : Result Script ScriptFault) → FinishGives (length text) lines r → OutcomeIs text r
finished text lines read (Ok s) say = record { lines = lines; read = read; say = say }
finished text lines read (Err fault) lack = inr (record { lines = lines; read = read; lack = lack.0; why = lack.1; at = lack.2 })

kept_all : (text : List ℕ) (r : Result Kept ScriptFault) → LinesGive [] (text_lines text) r → OutcomeIs text (r >>= script_from (length text))
kept_all text (Ok k) given =
    let all = finished text given.0 given.1 (script_from (length text) (kept_of given.0)) (finish_gives (length text) given.0 given.2 (singles (text_lines text) given.0 given.1)) in
    subst (λ (k : Kept). OutcomeIs text (script_from (length text) k)) (sym given.3) all
kept_all text (Err fault) given = inl (record {
  before = given.before;
  line = given.line;
  after = given.after;
  split = given.split;
  earlier = given.lines;
  read = given.read;
  has = given.is.0;
  least = given.is.1;
  at = given.at;
})

-- each text has an outcome
pub outcome_is : (text : List ℕ) → OutcomeIs text (outcome text)
unfolding outcome
outcome_is text = kept_all text (keep_lines (kept_of []) (text_lines text)) (lines_give [] (text_lines text) tt)

-- and no other
pub script_outcome : (text : List ℕ) (s : Script) → IsScript text s → outcome text ≡ Ok s
unfolding outcome
script_outcome text s is =
    ap (λ (r : Result Kept ScriptFault). r >>= script_from (length text)) (lines_kept [] (text_lines text) is.lines tt is.read) ∙ said_script (length text) is.lines s is.say

fault_is : (at : ℕ) (why : ScriptWhy) (fault : ScriptFault) → fault.at ≡ at → fault.why ≡ why → record { at = at; why = why } ≡ fault
fault_is at why fault same kind = ap (λ (n : ℕ). record { at = n; why = why }) (sym same) ∙ ap (λ (w : ScriptWhy). record { at = fault.at; why = w }) (sym kind)

pub fault_outcome : (text : List ℕ) (fault : ScriptFault) → IsScriptFault text fault → outcome text ≡ Err fault
unfolding outcome
fault_outcome text fault (inl is) =
    ap (λ (ts : List TextLine). keep_lines (kept_of []) ts >>= script_from (length text)) is.split
    ∙ ap (λ (r : Result Kept ScriptFault). r >>= script_from (length text)) (lines_fault [] is.before is.after is.line is.earlier fault.why tt is.read (is.has, is.least))
    ∙ ap Err (fault_is is.line.at fault.why fault is.at refl)
fault_outcome text fault (inr is) =
    ap (λ (r : Result Kept ScriptFault). r >>= script_from (length text)) (lines_kept [] (text_lines text) is.lines tt is.read)
    ∙ lacks_header (length text) is.lines is.lack ∙ ap Err (fault_is (length text) Missing fault is.at is.why)
