-- Rules and headers: what is read of a line is what it says.
use Rattle.std.proofs.Common.{◌≡◌, ℕ, false, cond, ◌&&◌, List, [], ◌∷◌, ◌++◌, codes, Option, Some, None, refl, ap, subst, ◌∙◌, inl, inr}
use Rattle.std.specs.Prelude.{IsUtf8}
use Rattle.std.specs.Str.{bytes_eq}
use Rattle.std.proofs.lemmas.Bool.{cond-true, and_parts, and_from}
use Rattle.std.proofs.lemmas.Option.{cond_some}
use Rattle.facts.specs.OptionSteps.{◌>>=◌}
use Rattle.facts.proofs.OptionLaws.{bind_some, bind_is, some_is}
use Rattle.script_lines.specs.Lines.{next_word, AreWords}
use Rattle.script_lines.specs.Numbers.{is_natural, is_number}
use Rattle.script_lines.specs.Forms.{RuleForm, value, echo, add, code, silent, HeaderForm, client, server, interface, object, servant, queue, is_skipped, SaysRule, SaysHeader}
use Rattle.script_lines.specs.ScanSteps.{is_empty, utf8, only_word, two_words, something}
use Rattle.script_lines.specs.FormSteps.{code_at, silent_at, rule_by, file_at, interface_in, interface_at, servant_at, queue_at, header_by}
use Rattle.script_lines.proofs.Texts.{utf8_takes, utf8_again}
use Rattle.script_lines.proofs.WordLaws.{empty_is, choice, first_is, only_takes, only_again, two_takes, two_again, something_takes, something_again}
use Rattle.script_lines.proofs.NameLaws.{interface_takes, interface_again}

-- ---- rules

value_takes : (content rest : List ℕ) (rule : RuleForm) → next_word content ≡ Some (codes "value", rest) → (something rest >>= λ text. Some (value text)) ≡ Some rule → SaysRule content rule
value_takes content rest rule e read =
    let a = bind_some (something rest) (λ text. Some (value text)) rule read in
    let t = something_takes rest a.0 a.1 in
    subst (SaysRule content) (some_is (value a.0) rule a.2) ((rest, e, t.0), t.1)

echo_takes : (content rest : List ℕ) (rule : RuleForm) → next_word content ≡ Some (codes "echo", rest) → (only_word rest >>= λ name. Some (echo name)) ≡ Some rule → SaysRule content rule
echo_takes content rest rule e read =
    let a = bind_some (only_word rest) (λ name. Some (echo name)) rule read in
    subst (SaysRule content) (some_is (echo a.0) rule a.2) (rest, e, only_takes rest a.0 a.1)

add_takes : (content rest : List ℕ) (rule : RuleForm) → next_word content ≡ Some (codes "add", rest) → (two_words rest >>= λ names. Some (add names.0 names.1)) ≡ Some rule → SaysRule content rule
add_takes content rest rule e read =
    let a = bind_some (two_words rest) (λ names. Some (add names.0 names.1)) rule read in
    subst (SaysRule content) (some_is (add a.0.0 a.0.1) rule a.2) (rest, e, two_takes rest a.0 a.1)

code_takes : (content rest : List ℕ) (rule : RuleForm) → next_word content ≡ Some (codes "code", rest) → code_at rest ≡ Some rule → SaysRule content rule
unfolding code_at
code_takes content rest rule e read =
    let a = bind_some (only_word rest) (λ number. cond (is_number number) (Some (code number)) None) rule read in
    let c = cond_some (is_number a.0) (code a.0) rule a.2 in
    subst (SaysRule content) c.1 ((rest, e, only_takes rest a.0 a.1), c.0)

silent_takes : (content rest : List ℕ) (rule : RuleForm) → next_word content ≡ Some (codes "silent", rest) → silent_at rest ≡ Some rule → SaysRule content rule
unfolding silent_at
silent_takes content rest rule e read =
    let c = cond_some (is_empty rest) silent rule read in
    subst (SaysRule content) c.1 (rest, e, empty_is rest c.0)

rule_takes : (content word rest : List ℕ) (rule : RuleForm) → next_word content ≡ Some (word, rest) → rule_by word rest ≡ Some rule → SaysRule content rule
unfolding rule_by
rule_takes content word rest rule e read =
    elim (choice (bytes_eq word (codes "value")) _ _ (Some rule) read) [
      | inl is ↦ value_takes content rest rule (first_is content word (codes "value") rest e is.0) is.1
      | inr other ↦ elim (choice (bytes_eq word (codes "echo")) _ _ (Some rule) other.1) [
        | inl is ↦ echo_takes content rest rule (first_is content word (codes "echo") rest e is.0) is.1
        | inr other ↦ elim (choice (bytes_eq word (codes "add")) _ _ (Some rule) other.1) [
          | inl is ↦ add_takes content rest rule (first_is content word (codes "add") rest e is.0) is.1
          | inr other ↦ elim (choice (bytes_eq word (codes "code")) _ _ (Some rule) other.1) [
            | inl is ↦ code_takes content rest rule (first_is content word (codes "code") rest e is.0) is.1
            | inr other ↦ elim (choice (bytes_eq word (codes "silent")) _ _ (Some rule) other.1) [
              | inl is ↦ silent_takes content rest rule (first_is content word (codes "silent") rest e is.0) is.1
              | inr none ↦ absurd (let e = none.1 in cc)
            ]
          ]
        ]
      ]
    ]

rule_again : (content : List ℕ) (rule : RuleForm) → SaysRule content rule → (word : List ℕ) × (rest : List ℕ) × (next_word content ≡ Some (word, rest)) × (rule_by word rest ≡ Some rule)
unfolding rule_by code_at silent_at
rule_again content (value text) says =
    (codes "value", says.0.0, says.0.1, bind_is (something says.0.0) (λ text. Some (value text)) text (ap something says.0.2 ∙ something_again text says.1))
rule_again content (echo name) says =
    (codes "echo", says.0, says.1, bind_is (only_word says.0) (λ name. Some (echo name)) name (only_again says.0 name says.2))
rule_again content (add left right) says =
    (codes "add", says.0, says.1, bind_is (two_words says.0) (λ names. Some (add names.0 names.1)) (left, right) (two_again says.0 left right says.2))
rule_again content (code number) says =
    (codes "code", says.0.0, says.0.1, bind_is (only_word says.0.0) (λ number. cond (is_number number) (Some (code number)) None) number (only_again says.0.0 number says.0.2) ∙ cond-true (is_number number) _ _ says.1)
rule_again content silent says =
    (codes "silent", says.0, says.1, ap (λ (r : List ℕ). cond (is_empty r) (Some silent) None) says.2)

-- ---- headers

file_takes : (rest file : List ℕ) → file_at rest ≡ Some file → AreWords rest (file ∷ []) × IsUtf8 file
unfolding file_at
file_takes rest file e =
    let a = bind_some (only_word rest) utf8 file e in
    let t = utf8_takes a.0 file a.2 in
    (subst (λ (f : List ℕ). AreWords rest (f ∷ [])) t.0 (only_takes rest a.0 a.1), subst IsUtf8 t.0 t.1)

file_again : (rest file : List ℕ) → AreWords rest (file ∷ []) → IsUtf8 file → file_at rest ≡ Some file
unfolding file_at
file_again rest file words text = bind_is (only_word rest) utf8 file (only_again rest file words) ∙ utf8_again file text

client_takes : (content rest : List ℕ) (form : HeaderForm) → next_word content ≡ Some (codes "client", rest) → (file_at rest >>= λ file. Some (client file)) ≡ Some form → SaysHeader content form
client_takes content rest form e read =
    let a = bind_some (file_at rest) (λ file. Some (client file)) form read in
    let f = file_takes rest a.0 a.1 in
    subst (SaysHeader content) (some_is (client a.0) form a.2) ((rest, e, f.0), f.1)

server_takes : (content rest : List ℕ) (form : HeaderForm) → next_word content ≡ Some (codes "server", rest) → (file_at rest >>= λ file. Some (server file)) ≡ Some form → SaysHeader content form
server_takes content rest form e read =
    let a = bind_some (file_at rest) (λ file. Some (server file)) form read in
    let f = file_takes rest a.0 a.1 in
    subst (SaysHeader content) (some_is (server a.0) form a.2) ((rest, e, f.0), f.1)

words_are : (rest word same : List ℕ) → AreWords rest (word ∷ []) → word ≡ same → AreWords rest (same ∷ [])
words_are rest word same words e = subst (λ (w : List ℕ). AreWords rest (w ∷ [])) e words

interface_takes_line : (content rest : List ℕ) (form : HeaderForm) → next_word content ≡ Some (codes "interface", rest) → interface_at rest ≡ Some form → SaysHeader content form
unfolding interface_at
interface_takes_line content rest form e read =
    let a = bind_some (only_word rest) (λ word. interface_in word >>= λ named. Some (interface named.0 named.1)) form read in
    let b = bind_some (interface_in a.0) (λ named. Some (interface named.0 named.1)) form a.2 in
    let n = interface_takes a.0 b.0 b.1 in
    subst (SaysHeader content) (some_is (interface b.0.0 b.0.1) form b.2) ((rest, e, words_are rest a.0 (b.0.0 ++ (codes "::" ++ b.0.1)) (only_takes rest a.0 a.1) n.0), n.1, n.2)

object_takes : (content rest : List ℕ) (form : HeaderForm) → next_word content ≡ Some (codes "object", rest) → (something rest >>= λ text. Some (object text)) ≡ Some form → SaysHeader content form
object_takes content rest form e read =
    let a = bind_some (something rest) (λ text. Some (object text)) form read in
    let t = something_takes rest a.0 a.1 in
    subst (SaysHeader content) (some_is (object a.0) form a.2) ((rest, e, t.0), t.1)

servant_says : (content rest func after : List ℕ) (rule : RuleForm) (form : HeaderForm) → next_word content ≡ Some (codes "servant", rest) → next_word rest ≡ Some (func, after)
    → SaysRule after rule → servant func rule ≡ form → SaysHeader content form
servant_says content rest func after rule form e f says same = subst (SaysHeader content) same (after, (rest, e, (after, f, refl)), says)

servant_takes : (content rest : List ℕ) (form : HeaderForm) → next_word content ≡ Some (codes "servant", rest) → servant_at rest ≡ Some form → SaysHeader content form
unfolding servant_at
servant_takes content rest form e read =
    let f = bind_some (next_word rest) (λ func. next_word func.1 >>= λ kind. rule_by kind.0 kind.1 >>= λ rule. Some (servant func.0 rule)) form read in
    let k = bind_some (next_word f.0.1) (λ kind. rule_by kind.0 kind.1 >>= λ rule. Some (servant f.0.0 rule)) form f.2 in
    let r = bind_some (rule_by k.0.0 k.0.1) (λ rule. Some (servant f.0.0 rule)) form k.2 in
    servant_says content rest f.0.0 f.0.1 r.0 form e f.1 (rule_takes f.0.1 k.0.0 k.0.1 r.0 k.1 r.1) (some_is (servant f.0.0 r.0) form r.2)

queue_takes : (content rest : List ℕ) (form : HeaderForm) → next_word content ≡ Some (codes "queue", rest) → queue_at rest ≡ Some form → SaysHeader content form
unfolding queue_at
queue_takes content rest form e read =
    let a = bind_some (two_words rest) (λ numbers. cond (is_natural numbers.0 && is_natural numbers.1) (Some (queue numbers.0 numbers.1)) None) form read in
    let c = cond_some (is_natural a.0.0 && is_natural a.0.1) (queue a.0.0 a.0.1) form a.2 in
    let parts = and_parts (is_natural a.0.0) (is_natural a.0.1) c.0 in
    subst (SaysHeader content) c.1 ((rest, e, two_takes rest a.0 a.1), parts.0, parts.1)

pub header_takes : (content word rest : List ℕ) (form : HeaderForm) → next_word content ≡ Some (word, rest) → header_by word rest ≡ Some form → SaysHeader content form
unfolding header_by
header_takes content word rest form e read =
    elim (choice (bytes_eq word (codes "client")) _ _ (Some form) read) [
      | inl is ↦ client_takes content rest form (first_is content word (codes "client") rest e is.0) is.1
      | inr other ↦ elim (choice (bytes_eq word (codes "server")) _ _ (Some form) other.1) [
        | inl is ↦ server_takes content rest form (first_is content word (codes "server") rest e is.0) is.1
        | inr other ↦ elim (choice (bytes_eq word (codes "interface")) _ _ (Some form) other.1) [
          | inl is ↦ interface_takes_line content rest form (first_is content word (codes "interface") rest e is.0) is.1
          | inr other ↦ elim (choice (bytes_eq word (codes "object")) _ _ (Some form) other.1) [
            | inl is ↦ object_takes content rest form (first_is content word (codes "object") rest e is.0) is.1
            | inr other ↦ elim (choice (bytes_eq word (codes "servant")) _ _ (Some form) other.1) [
              | inl is ↦ servant_takes content rest form (first_is content word (codes "servant") rest e is.0) is.1
              | inr other ↦ elim (choice (bytes_eq word (codes "queue")) _ _ (Some form) other.1) [
                | inl is ↦ queue_takes content rest form (first_is content word (codes "queue") rest e is.0) is.1
                | inr none ↦ absurd (let e = none.1 in cc)
              ]
            ]
          ]
        ]
      ]
    ]

-- the first word of a line, which begins no comment, with what is read of the line by it
abbrev pub ReadBy : {V : Type 0} → (List ℕ → List ℕ → Option V) → List ℕ → V → Type 0
ReadBy {V} read content v = (word : List ℕ) × (rest : List ℕ) × (next_word content ≡ Some (word, rest)) × (is_skipped word ≡ false) × (read word rest ≡ Some v)

pub header_again : (content : List ℕ) (form : HeaderForm) → SaysHeader content form → ReadBy header_by content form
unfolding header_by interface_at servant_at queue_at
header_again content (client file) says =
    (codes "client", says.0.0, says.0.1, refl, bind_is (file_at says.0.0) (λ file. Some (client file)) file (file_again says.0.0 file says.0.2 says.1))
header_again content (server file) says =
    (codes "server", says.0.0, says.0.1, refl, bind_is (file_at says.0.0) (λ file. Some (server file)) file (file_again says.0.0 file says.0.2 says.1))
header_again content (interface home name) says = (
  codes "interface",
  says.0.0,
  says.0.1,
  refl,
  bind_is (only_word says.0.0) (λ word. interface_in word >>= λ named. Some (interface named.0 named.1)) (home ++ (codes "::" ++ name)) (only_again says.0.0 (home ++ (codes "::" ++ name)) says.0.2)
      ∙ bind_is (interface_in (home ++ (codes "::" ++ name))) (λ named. Some (interface named.0 named.1)) (home, name) (interface_again home name says.1 says.2),
)
header_again content (object text) says =
    (codes "object", says.0.0, says.0.1, refl, bind_is (something says.0.0) (λ text. Some (object text)) text (ap something says.0.2 ∙ something_again text says.1))
header_again content (servant func rule) says =
    let cut = says.1 in
    let r = rule_again says.0 rule says.2 in
    let f : next_word cut.0 ≡ Some (func, says.0) = subst (λ (x : List ℕ). next_word cut.0 ≡ Some (func, x)) cut.2.2 cut.2.1 in (
      codes "servant",
      cut.0,
      cut.1,
      refl,
      bind_is (next_word cut.0) (λ func. next_word func.1 >>= λ kind. rule_by kind.0 kind.1 >>= λ rule. Some (servant func.0 rule)) (func, says.0) f
          ∙ bind_is (next_word says.0) (λ kind. rule_by kind.0 kind.1 >>= λ rule. Some (servant func rule)) (r.0, r.1) r.2
          ∙ bind_is (rule_by r.0 r.1) (λ rule. Some (servant func rule)) rule r.3,
    )
header_again content (queue capacity timeout) says = (
  codes "queue",
  says.0.0,
  says.0.1,
  refl,
  bind_is (two_words says.0.0) (λ numbers. cond (is_natural numbers.0 && is_natural numbers.1) (Some (queue numbers.0 numbers.1)) None) (capacity, timeout) (two_again says.0.0 capacity timeout says.0.2)
      ∙ cond-true (is_natural capacity && is_natural timeout) _ _ (and_from _ _ says.1 says.2),
)
