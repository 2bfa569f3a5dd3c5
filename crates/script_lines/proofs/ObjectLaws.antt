-- The text of an object: what is read is so written, and what is so written is read.
use Rattle.std.proofs.Common.{◌≡◌, ℕ, Bool, true, false, eqb, leb, List, [], ◌++◌, length, codes, Some, refl, sym, ap, ◌∙◌, append_assoc}
use Rattle.std.specs.Bool.{Decides}
use Rattle.std.specs.List.{list_all}
use Rattle.std.specs.Str.Parse.{digits_value}
use Rattle.std.proofs.lemmas.Bool.{and_parts, and_from, leb-true, le-leb}
use Rattle.std.proofs.lemmas.List.Folds.{list_all-append}
use Rattle.facts.specs.OptionSteps.{◌>>=◌}
use Rattle.facts.proofs.OptionLaws.{bind_some, bind_is, some_is}
use Rattle.script_lines.specs.Objects.{ObjectText, Object, object_id, object_text, IsWordOf, is_part_byte, is_host_byte, IsNaturalWithin, object_meant, SaysObject}
use Rattle.script_lines.specs.TextLimits.{MAX_PORT, MAX_TIME}
use Rattle.script_lines.specs.ScanSteps.{before, ◌&>◌}
use Rattle.script_lines.specs.ObjectSteps.{is_word_of, part, host, id, node, object_from, object_at}
use Rattle.script_lines.proofs.NumberLaws.{natural_lacks, within_whole}
use Rattle.script_lines.proofs.Readers.{lacks, lacks_from, IsWhole, tested_whole, before_prefix, and_whole}

word_decides : (test : ℕ → Bool) (word : List ℕ) → Decides (is_word_of test word) (IsWordOf test word)
word_decides test word = (
  λ e. let parts = and_parts (leb 1 (length word)) (list_all test word) e in record { some = leb-true 1 (length word) parts.0; each = parts.1 },
  λ is. and_from _ _ (le-leb 1 (length word) is.some) is.each,
)

part_whole : IsWhole part (λ (word : List ℕ). word) (IsWordOf is_part_byte) (λ (word : List ℕ). word)
unfolding part
part_whole = tested_whole (word_decides is_part_byte)

host_whole : IsWhole host (λ (word : List ℕ). word) (IsWordOf is_host_byte) (λ (word : List ℕ). word)
unfolding host
host_whole = tested_whole (word_decides is_host_byte)

-- ---- the id, as it is read

abbrev Parts : Type 0
Parts = List ℕ × (List ℕ × List ℕ)

abbrev id_written : Parts → List ℕ
id_written p = (p.0 ++ codes ".") ++ ((p.1.0 ++ codes ".") ++ p.1.1)

abbrev AreParts : Parts → Type 0
AreParts p = IsWordOf is_part_byte p.0 × (IsWordOf is_part_byte p.1.0 × IsWordOf is_part_byte p.1.1)

part_lacks : (c : ℕ) (word : List ℕ) → is_part_byte c ≡ false → IsWordOf is_part_byte word → lacks c word ≡ true
part_lacks c word other is = lacks_from is_part_byte c word other is.each

parts_whole : IsWhole (before (codes ".") part &> (before (codes ".") part &> part)) id_written AreParts (λ (p : Parts). p)
parts_whole =
    let point = before_prefix 46 [] part_whole (λ word is. part_lacks 46 word refl is) in
    and_whole point (and_whole point part_whole)

id_whole : IsWhole id id_written AreParts id_written
unfolding id
id_whole = record {
  takes = λ bytes v e.
      let a = bind_some ((before (codes ".") part &> (before (codes ".") part &> part)) bytes) (λ _. Some bytes) v e in
      let t = parts_whole.takes bytes a.0 a.1 in
      (t.0, t.1, t.2, sym (some_is bytes v a.2) ∙ t.1);
  again = λ t are. bind_is _ (λ _. Some (id_written t)) t (parts_whole.again t are);
}

id_lacks : (c : ℕ) (p : Parts) → is_part_byte c ≡ false → eqb 46 c ≡ false → AreParts p → lacks c (id_written p) ≡ true
id_lacks c p other unlike are =
    let first = part_lacks c p.0 other are.0 in
    let second = part_lacks c p.1.0 other are.1.0 in
    let third = part_lacks c p.1.1 other are.1.1 in
    simp (list_all-append, first, second, third, unlike)

-- ---- the node, as it is read

abbrev Node : Type 0
Node = List ℕ × (List ℕ × List ℕ)

abbrev node_written : Node → List ℕ
node_written n = (n.0 ++ codes " -p ") ++ ((n.1.0 ++ codes " -t ") ++ n.1.1)

abbrev IsNode : Node → Type 0
IsNode n = IsWordOf is_host_byte n.0 × (IsNaturalWithin 1 MAX_PORT n.1.0 × IsNaturalWithin 1 MAX_TIME n.1.1)

abbrev node_meant : Node → List ℕ × (ℕ × ℕ)
node_meant n = (n.0, (digits_value 10 n.1.0, digits_value 10 n.1.1))

node_whole : IsWhole node node_written IsNode node_meant
unfolding node
node_whole =
    let host_prefix = before_prefix 32 (codes "-p ") host_whole (λ word is. lacks_from is_host_byte 32 word refl is.each) in
    let port_prefix = before_prefix 32 (codes "-t ") (within_whole 1 MAX_PORT) (λ text is. natural_lacks 32 text refl is.form) in
    and_whole host_prefix (and_whole port_prefix (within_whole 1 MAX_TIME))

-- ---- the whole text

abbrev Both : Type 0
Both = Parts × Node

abbrev both_written : Both → List ℕ
both_written o = (id_written o.0 ++ codes "@tcp -h ") ++ node_written o.1

both_whole : IsWhole (before (codes "@tcp -h ") id &> node) both_written (λ (o : Both). AreParts o.0 × IsNode o.1) (λ (o : Both). (id_written o.0, node_meant o.1))
both_whole = and_whole (before_prefix 64 (codes "tcp -h ") id_whole (λ p are. id_lacks 64 p refl refl are)) node_whole

abbrev text_from : Both → ObjectText
text_from o = record { app = o.0.0; server = o.0.1.0; object = o.0.1.1; host = o.1.0; port = o.1.1.0; timeout = o.1.1.1 }

abbrev both_from : ObjectText → Both
both_from o = ((o.app, (o.server, o.object)), (o.host, (o.port, o.timeout)))

id_is : (o : Both) → id_written o.0 ≡ object_id (text_from o)
unfolding object_id
id_is o = simp append_assoc

written_is : (o : Both) → both_written o ≡ object_text (text_from o)
unfolding object_text object_id
written_is o = simp append_assoc

pub object_takes : (text : List ℕ) (o : Object) → object_at text ≡ Some o → SaysObject text o
unfolding object_at
object_takes text o e =
    let a = bind_some ((before (codes "@tcp -h ") id &> node) text) (λ object. Some (object_from object)) o e in
    let t = both_whole.takes text a.0 a.1 in
    let is : object_from a.0 ≡ object_meant (text_from t.0) = ap object_from t.3 ∙ ap (λ (i : List ℕ). object_from (i, node_meant t.0.1)) (id_is t.0) in (
      text_from t.0,
      t.1 ∙ written_is t.0,
      record { app = t.2.0.0; server = t.2.0.1.0; object = t.2.0.1.1; host = t.2.1.0; port = t.2.1.1.0; timeout = t.2.1.1.1 },
      sym (some_is (object_from a.0) o a.2) ∙ is,
    )

pub object_again : (text : List ℕ) (o : Object) → SaysObject text o → object_at text ≡ Some o
unfolding object_at
object_again text o says =
    let b = both_from says.0 in
    let is = says.2 in
    let fits : AreParts b.0 × IsNode b.1 = ((is.app, (is.server, is.object)), (is.host, (is.port, is.timeout))) in
    ap (λ (t : List ℕ). (before (codes "@tcp -h ") id &> node) t >>= λ object. Some (object_from object)) (says.1 ∙ sym (written_is b))
    ∙ bind_is ((before (codes "@tcp -h ") id &> node) (both_written b)) (λ object. Some (object_from object)) (id_written b.0, node_meant b.1) (both_whole.again b fits)
    ∙ ap Some (ap (λ (i : List ℕ). object_from (i, node_meant b.1)) (id_is b) ∙ sym says.3)
