-- Events: what is read of a line is what it says.
use Rattle.std.proofs.Common.{◌≡◌, ℕ, true, false, cond, List, [], ◌∷◌, codes, Option, Some, None, refl, ap, subst, ◌∙◌, inl, inr}
use Rattle.std.specs.Str.{bytes_eq}
use Rattle.std.proofs.lemmas.Bool.{cond-true}
use Rattle.std.proofs.lemmas.Option.{cond_some}
use Rattle.facts.specs.OptionSteps.{◌>>=◌}
use Rattle.facts.proofs.OptionLaws.{bind_some, bind_is, some_is}
use Rattle.script_lines.specs.Lines.{next_word, AreWords}
use Rattle.script_lines.specs.Numbers.{is_natural}
use Rattle.script_lines.specs.Forms.{EventForm, call, serve, work, deliver, close, SaysRead, SaysEvent}
use Rattle.script_lines.specs.ScanSteps.{is_empty, only_word, tested}
use Rattle.script_lines.specs.FormSteps.{call_at, only_natural, count_at, read_at, close_at, event_by, header_by}
use Rattle.script_lines.proofs.WordLaws.{Split, empty_is, choice, first_is, only_takes, only_again}
use Rattle.script_lines.proofs.HeaderLaws.{ReadBy}

call_takes : (content rest : List ℕ) (form : EventForm) → next_word content ≡ Some (codes "call", rest) → call_at rest ≡ Some form → SaysEvent content form
unfolding call_at
call_takes content rest form e read =
    let a = bind_some (next_word rest) (λ caller. next_word caller.1 >>= λ func. cond (is_natural caller.0) (Some (call caller.0 func.0 func.1)) None) form read in
    let b = bind_some (next_word a.0.1) (λ func. cond (is_natural a.0.0) (Some (call a.0.0 func.0 func.1)) None) form a.2 in
    let c = cond_some (is_natural a.0.0) (call a.0.0 b.0.0 b.0.1) form b.2 in
    subst (SaysEvent content) c.1 ((rest, e, (a.0.1, a.1, (b.0.1, b.1, refl))), c.0)

natural_takes : (rest word : List ℕ) → only_natural rest ≡ Some word → AreWords rest (word ∷ []) × (is_natural word ≡ true)
unfolding only_natural
natural_takes rest word e =
    let a = bind_some (only_word rest) (tested is_natural) word e in
    let c = cond_some (is_natural a.0) a.0 word a.2 in
    (subst (λ (w : List ℕ). AreWords rest (w ∷ [])) c.1 (only_takes rest a.0 a.1), subst (λ (w : List ℕ). is_natural w ≡ true) c.1 c.0)

natural_again : (rest word : List ℕ) → AreWords rest (word ∷ []) → is_natural word ≡ true → only_natural rest ≡ Some word
unfolding only_natural
natural_again rest word words form = bind_is (only_word rest) (tested is_natural) word (only_again rest word words) ∙ cond-true (is_natural word) _ _ form

-- how many bytes, if some number stands there
SaysCount : List ℕ → Option (List ℕ) → Type 0
SaysCount rest None = rest ≡ []
SaysCount rest (Some count) = AreWords rest (count ∷ []) × (is_natural count ≡ true)

count_takes : (rest : List ℕ) (count : Option (List ℕ)) → count_at rest ≡ Some count → SaysCount rest count
unfolding count_at SaysCount
count_takes rest count e =
    elim (choice (is_empty rest) _ _ (Some count) e) [
      | inl none ↦ subst (SaysCount rest) (some_is None count none.1) (empty_is rest none.0)
      | inr some ↦
          let a = bind_some (only_natural rest) (λ count. Some (Some count)) count some.1 in
          subst (SaysCount rest) (some_is (Some a.0) count a.2) (natural_takes rest a.0 a.1)
    ]

not_empty : (rest : List ℕ) (x : Split) → next_word rest ≡ Some x → is_empty rest ≡ false
unfolding next_word
not_empty [] x e = cc
not_empty (b ∷ rest) x e = refl

count_again : (rest : List ℕ) (count : Option (List ℕ)) → SaysCount rest count → count_at rest ≡ Some count
unfolding count_at SaysCount
count_again rest None says = ap (λ (r : List ℕ). cond (is_empty r) (Some None) (only_natural r >>= λ count. Some (Some count))) says
count_again rest (Some count) says =
    rw (not_empty rest (count, says.0.0) says.0.1) (bind_is (only_natural rest) (λ count. Some (Some count)) count (natural_again rest count says.0 says.1))

-- a node, and maybe a count
ReadSays : List ℕ → List ℕ → Option (List ℕ) → Type 0
ReadSays rest node count = (after : List ℕ) × (next_word rest ≡ Some (node, after)) × SaysCount after count × (is_natural node ≡ true)

read_takes : (rest : List ℕ) (read : List ℕ × Option (List ℕ)) → read_at rest ≡ Some read → ReadSays rest read.0 read.1
unfolding read_at ReadSays
read_takes rest read e =
    let a = bind_some (next_word rest) (λ node. count_at node.1 >>= λ count. cond (is_natural node.0) (Some (node.0, count)) None) read e in
    let b = bind_some (count_at a.0.1) (λ count. cond (is_natural a.0.0) (Some (a.0.0, count)) None) read a.2 in
    let c = cond_some (is_natural a.0.0) (a.0.0, b.0) read b.2 in
    subst (λ (r : List ℕ × Option (List ℕ)). ReadSays rest r.0 r.1) c.1 (a.0.1, a.1, count_takes a.0.1 b.0 b.1, c.0)

read_again : (rest node : List ℕ) (count : Option (List ℕ)) → ReadSays rest node count → read_at rest ≡ Some (node, count)
unfolding read_at ReadSays
read_again rest node count says =
    bind_is (next_word rest) (λ node. count_at node.1 >>= λ count. cond (is_natural node.0) (Some (node.0, count)) None) (node, says.0) says.1
    ∙ bind_is (count_at says.0) (λ count. cond (is_natural node) (Some (node, count)) None) count (count_again says.0 count says.2)
    ∙ cond-true (is_natural node) _ _ says.3

read_of_line : (content word rest node : List ℕ) (count : Option (List ℕ)) → next_word content ≡ Some (word, rest) → ReadSays rest node count → SaysRead content word node count
unfolding ReadSays SaysCount
read_of_line content word rest node None e says = ((rest, e, (says.0, says.1, says.2)), says.3)
read_of_line content word rest node (Some count) e says = ((rest, e, (says.0, says.1, says.2.0)), says.3, says.2.1)

line_of_read : (content word node : List ℕ) (count : Option (List ℕ)) → SaysRead content word node count → (rest : List ℕ) × (next_word content ≡ Some (word, rest)) × ReadSays rest node count
unfolding ReadSays SaysCount
line_of_read content word node None says = (says.0.0, says.0.1, (says.0.2.0, says.0.2.1, says.0.2.2, says.1))
line_of_read content word node (Some count) says = (says.0.0, says.0.1, (says.0.2.0, says.0.2.1, (says.0.2.2, says.2), says.1))

serve_takes : (content rest : List ℕ) (form : EventForm) → next_word content ≡ Some (codes "serve", rest) → (read_at rest >>= λ read. Some (serve read.0 read.1)) ≡ Some form → SaysEvent content form
serve_takes content rest form e read =
    let a = bind_some (read_at rest) (λ read. Some (serve read.0 read.1)) form read in
    subst (SaysEvent content) (some_is (serve a.0.0 a.0.1) form a.2) (read_of_line content (codes "serve") rest a.0.0 a.0.1 e (read_takes rest a.0 a.1))

deliver_takes : (content rest : List ℕ) (form : EventForm) → next_word content ≡ Some (codes "deliver", rest) → (read_at rest >>= λ read. Some (deliver read.0 read.1)) ≡ Some form → SaysEvent content form
deliver_takes content rest form e read =
    let a = bind_some (read_at rest) (λ read. Some (deliver read.0 read.1)) form read in
    subst (SaysEvent content) (some_is (deliver a.0.0 a.0.1) form a.2) (read_of_line content (codes "deliver") rest a.0.0 a.0.1 e (read_takes rest a.0 a.1))

work_takes : (content rest : List ℕ) (form : EventForm) → next_word content ≡ Some (codes "work", rest) → (only_natural rest >>= λ node. Some (work node)) ≡ Some form → SaysEvent content form
work_takes content rest form e read =
    let a = bind_some (only_natural rest) (λ node. Some (work node)) form read in
    let n = natural_takes rest a.0 a.1 in
    subst (SaysEvent content) (some_is (work a.0) form a.2) ((rest, e, n.0), n.1)

close_takes : (content rest : List ℕ) (form : EventForm) → next_word content ≡ Some (codes "close", rest) → close_at rest ≡ Some form → SaysEvent content form
unfolding close_at
close_takes content rest form e read =
    let c = cond_some (is_empty rest) close form read in
    subst (SaysEvent content) c.1 (rest, e, empty_is rest c.0)

pub event_takes : (content word rest : List ℕ) (form : EventForm) → next_word content ≡ Some (word, rest) → event_by word rest ≡ Some form → SaysEvent content form
unfolding event_by
event_takes content word rest form e read =
    elim (choice (bytes_eq word (codes "call")) _ _ (Some form) read) [
      | inl is ↦ call_takes content rest form (first_is content word (codes "call") rest e is.0) is.1
      | inr other ↦ elim (choice (bytes_eq word (codes "serve")) _ _ (Some form) other.1) [
        | inl is ↦ serve_takes content rest form (first_is content word (codes "serve") rest e is.0) is.1
        | inr other ↦ elim (choice (bytes_eq word (codes "work")) _ _ (Some form) other.1) [
          | inl is ↦ work_takes content rest form (first_is content word (codes "work") rest e is.0) is.1
          | inr other ↦ elim (choice (bytes_eq word (codes "deliver")) _ _ (Some form) other.1) [
            | inl is ↦ deliver_takes content rest form (first_is content word (codes "deliver") rest e is.0) is.1
            | inr other ↦ elim (choice (bytes_eq word (codes "close")) _ _ (Some form) other.1) [
              | inl is ↦ close_takes content rest form (first_is content word (codes "close") rest e is.0) is.1
              | inr none ↦ absurd (let e = none.1 in cc)
            ]
          ]
        ]
      ]
    ]

pub event_again : (content : List ℕ) (form : EventForm) → SaysEvent content form → ReadBy event_by content form
unfolding event_by call_at close_at
event_again content (call caller func args) says =
    let cut = says.0 in
    let f : next_word cut.2.0 ≡ Some (func, args) = subst (λ (x : List ℕ). next_word cut.2.0 ≡ Some (func, x)) cut.2.2.2 cut.2.2.1 in (
      codes "call",
      cut.0,
      cut.1,
      refl,
      bind_is (next_word cut.0) (λ caller. next_word caller.1 >>= λ func. cond (is_natural caller.0) (Some (call caller.0 func.0 func.1)) None) (caller, cut.2.0) cut.2.1
          ∙ bind_is (next_word cut.2.0) (λ func. cond (is_natural caller) (Some (call caller func.0 func.1)) None) (func, args) f
          ∙ cond-true (is_natural caller) _ _ says.1,
    )
event_again content (serve node count) says =
    let r = line_of_read content (codes "serve") node count says in
    (codes "serve", r.0, r.1, refl, bind_is (read_at r.0) (λ read. Some (serve read.0 read.1)) (node, count) (read_again r.0 node count r.2))
event_again content (work node) says =
    (codes "work", says.0.0, says.0.1, refl, bind_is (only_natural says.0.0) (λ node. Some (work node)) node (natural_again says.0.0 node says.0.2 says.1))
event_again content (deliver node count) says =
    let r = line_of_read content (codes "deliver") node count says in
    (codes "deliver", r.0, r.1, refl, bind_is (read_at r.0) (λ read. Some (deliver read.0 read.1)) (node, count) (read_again r.0 node count r.2))
event_again content close says =
    (codes "close", says.0, says.1, refl, ap (λ (r : List ℕ). cond (is_empty r) (Some close) None) says.2)

-- no event is read as a header
pub no_header : (content : List ℕ) (form : EventForm) (says : SaysEvent content form) → header_by (event_again content form says).0 (event_again content form says).1 ≡ None
unfolding header_by event_again
no_header content (call caller func args) says = refl
no_header content (serve node count) says = refl
no_header content (work node) says = refl
no_header content (deliver node count) says = refl
no_header content close says = refl
