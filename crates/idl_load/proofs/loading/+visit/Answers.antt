use Rattle.std.proofs.Common.{rules, ◌≡◌, ◌<◌, ◌≤◌, ◌+◌, ◌-◌, ◌∙◌, ℕ, suc, List, [], ◌∷◌, ◌++◌, Ok, true, false, refl, ap, subst, sym, arith, length, get_or, slice_range}
use Rattle.std.specs.List.{list_any}
use Rattle.std.specs.Str.{bytes_eq}
use Rattle.idl_load.specs.declared.file_fault.FileFault.TheVariants.{TooManyFiles}
use Rattle.std.proofs.lemmas.Str.{is_utf8-from_IsUtf8}
use Rattle.std.specs.Prelude.{IsUtf8}
use Rattle.std.specs.Str.{is_utf8}
use Rattle.tars_base.specs.Contents.{IsPrefixOfFile}
use Rattle.tars_base.specs.Limits.{MAX_FILE}
use Rattle.idl_load.specs.Loading.{begin, include, follow, visit}
use Rattle.idl_load.specs.LoadAnswers.{IsErrGiven}
use Rattle.idl_load.specs.LoadSteps.{IsGiven, ForStep, Keeps}
use Rattle.idl_parse.specs.Files.{include_spans}
use Rattle.idl_lex.specs.Meanings.{plain_text as meaning}
use Rattle.idl_load.proofs.Seeing.{kept_on, always, onward, both}
use Rattle.idl_load.proofs.loading.+visit.Goals.{follow-in-Include+in_ok-include, follow-in_default}
use Rattle.std.proofs.lemmas.List.{append-nil}
use Rattle.idl_load.proofs.Steps.{no_memory, not_read, begun_before, stopped_at, gone_on, at_module, no_text, no_name, entered, one_too_many, refused_for, by_error, refused_text, stopped_inside, file_done, same_file}
use Rattle.idl_load.proofs.loading.+visit.Goals as goal

pub include-returns-in_default-clause-exact : goal.include-returns-in_default-clause-exact
include-returns-in_default-clause-exact g t c =
    let name = meaning (slice_range c.args.ast.now.text c.args.span.start c.args.span.end) in
    let is : c.deref.result.now ≡ name = search rules in
    let not_text : (IsUtf8 name → ⊥) = subst (λ (n : List ℕ). IsUtf8 n → ⊥) is (c.in_default.ensures.cases.0) in
    always (g.F.Files.contents c.args.files.now) c.args.progress.now.begun c.args.progress.now.begun (λ read. no_name (visit c.args.room read) c.args.file.now c.args.progress.now name c.args.span.start (no_text name not_text))

pub include-returns-then-len-ge-MAX_FILES-clause-exact : goal.include-returns-then-len-ge-MAX_FILES-clause-exact
include-returns-then-len-ge-MAX_FILES-clause-exact g t c =
    let name = meaning (slice_range c.args.ast.now.text c.args.span.start c.args.span.end) in
    let is : c.deref.result.now ≡ name = search rules in
    let text : is_utf8 name ≡ true = is_utf8-from_IsUtf8 name (subst IsUtf8 is c.in-Ok.ensures.cases.1) in
    let same : c.as_bytes.result.now ≡ name = c.as_bytes.ensures.value ∙ c.in-Ok.ensures.cases.0 ∙ is in
    let fresh : list_any (bytes_eq name) c.args.progress.now.begun ≡ false = rw (← same, ← c.has_begun.ensures) c.if-has_begun.false in
    let many : 64 ≤ length c.args.progress.now.begun = omega (arith, c.if-len-ge-MAX_FILES.true, c.len.ensures) in
    always (g.F.Files.contents c.args.files.now) c.args.progress.now.begun c.args.progress.now.begun
    (λ read. refused_for c.args.file.now (TooManyFiles c.args.span.start) c.refused.result _ c.refused.ensures
    (one_too_many (visit c.args.room read) c.args.file.now c.args.progress.now name c.args.span.start text fresh many))

pub include-returns-clause-exact : goal.include-returns-clause-exact
include-returns-clause-exact g t c =
    let name = meaning (slice_range c.args.ast.now.text c.args.span.start c.args.span.end) in
    let is : c.deref.result.now ≡ name = search rules in
    let text : is_utf8 name ≡ true = is_utf8-from_IsUtf8 name (subst IsUtf8 is c.in-Ok.ensures.cases.1) in
    let same : c.as_bytes.result.now ≡ name = c.as_bytes.ensures.value ∙ c.in-Ok.ensures.cases.0 ∙ is in
    let fresh : list_any (bytes_eq name) c.args.progress.now.begun ≡ false = rw (← same, ← c.has_begun.ensures) c.if-has_begun.false in
    let few : length c.args.progress.now.begun < 64 = omega (arith, c.if-len-ge-MAX_FILES.false, c.len.ensures) in
    let own : c.in-Ok.name.now ≡ name = c.in-Ok.ensures.cases.0 ∙ is in
    onward (g.F.Files.contents c.args.files.now) c.args.progress.now.begun c.visit.new.progress.begun
    (λ read given. subst (IsGiven c.visit.result c.visit.new.progress)
    (ap (visit c.args.room read c.args.progress.now) own ∙ sym (entered (visit c.args.room read) c.args.file.now c.args.progress.now name c.args.span.start text fresh few)) given)
    c.visit.ensures.exact

pub visit-returns-in-Err-clause-exact : goal.visit-returns-in-Err-clause-exact
visit-returns-in-Err-clause-exact g t c =
    let told = g.F.Files.contents c.args.files.now in
    let more : c.args.room ≡ suc (c.args.room - 1) = omega (arith, c.requires.1.1.1.0, c.requires.1.1.1.1.0) in
    let prefix : IsPrefixOfFile told c.args.name.now (MAX_FILE + 1) c.deref.result.now = rw c.deref.ensures.value c.in_ok-text.ensures.bytes in
    let within : length c.deref.result.now ≤ MAX_FILE + 1 = search rules in
    let begun : c.push.new.self ≡ c.args.progress.now.begun ++ c.args.name.now ∷ [] = search rules in
    rw begun (refused_text told c.args.progress.now c.args.name.now c.deref.result.now c.args.room (c.args.room - 1) more c.requires.1.1.1.1.1 prefix within c.in-Err.fault c.refused.result c.in-Err.ensures.text c.refused.ensures)

pub visit-returns-in_err-follow-clause-exact : goal.visit-returns-in_err-follow-clause-exact
visit-returns-in_err-follow-clause-exact g t c =
    let told = g.F.Files.contents c.args.files.now in
    let more : c.args.room ≡ suc (c.args.room - 1) = omega (arith, c.requires.1.1.1.0, c.requires.1.1.1.1.0) in
    let prefix : IsPrefixOfFile told c.args.name.now (MAX_FILE + 1) c.deref.result.now = rw c.deref.ensures.value c.in_ok-text.ensures.bytes in
    let within : length c.deref.result.now ≤ MAX_FILE + 1 = search rules in
    let begun : c.push.new.self ≡ c.args.progress.now.begun ++ c.args.name.now ∷ [] = search rules in
    let mid : List (List ℕ) = c.args.progress.now.begun ++ c.args.name.now ∷ [] in
    let keeps : Keeps mid c.follow.new.progress.begun = rw (← begun) c.in_err-follow.ensures.keeps in
    let inside : ForStep told mid c.follow.new.progress.begun (λ read. IsErrGiven c.in_err-follow.field-0.0 (follow (visit (c.args.room - 1) read) c.args.name.now c.deref.result.now (begin c.args.progress.now c.args.name.now) (include_spans c.in-Ok.ast.entries))) =
    rw (← begun, ← c.in-Ok.ensures.kept, ← c.read.ensures.same) c.in_err-follow.ensures.exact in
    onward told c.args.progress.now.begun c.follow.new.progress.begun (λ read given. by_error c.from_residual-in_err-follow.result c.in_err-follow.field-0.0 _ _ c.from_residual-in_err-follow.ensures given)
    (stopped_inside told c.args.progress.now c.args.name.now c.deref.result.now c.args.room (c.args.room - 1) more c.requires.1.1.1.1.1 prefix within c.in-Ok.ast.entries c.in-Ok.ensures.text c.follow.new.progress.begun keeps c.in_err-follow.field-0.0 inside)

pub visit-returns-clause-exact : goal.visit-returns-clause-exact
visit-returns-clause-exact g t c =
    let told = g.F.Files.contents c.args.files.now in
    let more : c.args.room ≡ suc (c.args.room - 1) = omega (arith, c.requires.1.1.1.0, c.requires.1.1.1.1.0) in
    let prefix : IsPrefixOfFile told c.args.name.now (MAX_FILE + 1) c.deref.result.now = rw c.deref.ensures.value c.in_ok-text.ensures.bytes in
    let within : length c.deref.result.now ≤ MAX_FILE + 1 = search rules in
    let begun : c.push.new.self ≡ c.args.progress.now.begun ++ c.args.name.now ∷ [] = search rules in
    let mid : List (List ℕ) = c.args.progress.now.begun ++ c.args.name.now ∷ [] in
    let keeps : Keeps mid c.follow.new.progress.begun = rw (← begun) c.in_ok-follow.ensures.keeps in
    let inside : ForStep told mid c.follow.new.progress.begun (λ read. follow (visit (c.args.room - 1) read) c.args.name.now c.deref.result.now (begin c.args.progress.now c.args.name.now) (include_spans c.in-Ok.ast.entries) ≡ Ok c.follow.new.progress) =
    rw (← begun, ← c.in-Ok.ensures.kept, ← c.read.ensures.same) c.in_ok-follow.ensures.exact in
    let file = c.in-Ok.ast in
    let grown : c.push-2.new.self ≡ c.follow.new.progress.done ++ file ∷ [] = search rules in
    file_done told c.args.progress.now c.args.name.now c.deref.result.now c.args.room (c.args.room - 1) more c.requires.1.1.1.1.1 prefix within file.entries c.in-Ok.ensures.text c.follow.new.progress.begun keeps
    c.follow.new.progress file c.push-2.new.self (same_file file c.args.name.now c.deref.result.now c.in-Ok.ensures.named c.in-Ok.ensures.kept) grown inside

pub include-returns-in_err-name-clause-exact : goal.include-returns-in_err-name-clause-exact
include-returns-in_err-name-clause-exact g t c =
    let begun = c.args.progress.now.begun in
    always (g.F.Files.contents c.args.files.now) begun begun (λ read. no_memory c.from_residual.result c.args.progress.now _ c.from_residual.ensures)

pub include-returns-then-has_begun-clause-exact : goal.include-returns-then-has_begun-clause-exact
include-returns-then-has_begun-clause-exact g t c =
    let name = meaning (slice_range c.args.ast.now.text c.args.span.start c.args.span.end) in
    let is : c.deref.result.now ≡ name = search rules in
    let same : c.as_bytes.result.now ≡ name = c.as_bytes.ensures.value ∙ c.in-Ok.ensures.cases.0 ∙ is in
    let before : list_any (bytes_eq name) c.args.progress.now.begun ≡ true = rw (← same, ← c.has_begun.ensures) c.if-has_begun.true in
    let begun = c.args.progress.now.begun in
    always (g.F.Files.contents c.args.files.now) begun begun (λ read. begun_before (visit c.args.room read) c.args.file.now c.args.progress.now name c.args.span.start before)

pub follow-entries-init : goal.follow-entries-init
follow-entries-init g t c =
    let begun = c.args.progress.now.begun in
    (omega arith, ([], sym (append-nil begun)), refl, refl, always (g.F.Files.contents c.args.files.now) begun begun (λ read. refl))

pub follow-returns-in_err-include-clause-exact : goal.follow-returns-in_err-include-clause-exact
follow-returns-in_err-include-clause-exact g t c =
    let told = g.F.Files.contents c.args.files.now in
    let span = c.in-Include.span in
    let name = meaning (slice_range c.args.ast.now.text span.start span.end) in
    let within : c.entries.entry-index < length c.args.ast.now.entries = rw (← c.entries-entry-items.ensures.entries) c.entries-test.true in
    let is : c.entry-item.result ≡ get_or c.args.ast.now.entries c.entries.entry-index c.entry-item.result = rw (← c.entries-entry-items.ensures.entries) c.entry-item.is in
    let inside : ForStep told c.entries.progress.begun c.include.new.progress.begun (λ read. IsErrGiven c.in_err-include.field-0.0 (include (visit c.args.room read) c.args.file.now c.entries.progress name span.start)) =
    rw (← c.entries.invariant.2) c.in_err-include.ensures.exact in
    both told c.args.progress.now.begun c.entries.progress.begun c.include.new.progress.begun c.entries.invariant.1 c.in_err-include.ensures.keeps
    (λ read left given. by_error c.from_residual.result c.in_err-include.field-0.0 _ _ c.from_residual.ensures
    (stopped_at (visit c.args.room read) c.args.file.now c.args.ast.now.text c.entries.progress c.args.ast.now.entries c.entries.entry-index c.entry-item.result within is span c.in_err-include.field-0.0 _ c.in-Include.is left given))
    c.entries.invariant.4 inside

pub follow-entries-preserved : goal.follow-entries-preserved
follow-entries-preserved g t c = elim c.match-entry.branch [
  | follow-in-Include+in_ok-include w ↦
      let told = g.F.Files.contents c.args.files.now in
      let span = w.in-Include.span in
      let name = meaning (slice_range c.args.ast.now.text span.start span.end) in
      let within : c.entries.entry-index < length c.args.ast.now.entries = rw (← c.entries-entry-items.ensures.entries) c.entries-test.true in
      let is : c.entry-item.result ≡ get_or c.args.ast.now.entries c.entries.entry-index c.entry-item.result = rw (← c.entries-entry-items.ensures.entries) c.entry-item.is in
      let inside : ForStep told c.entries.progress.begun w.include.new.progress.begun (λ read. include (visit c.args.room read) c.args.file.now c.entries.progress name span.start ≡ Ok w.include.new.progress) =
      rw (← c.entries.invariant.2) w.in_ok-include.ensures.exact in
      rw (w.progress-is, w.files-is) (
        omega (arith, c.entries.invariant.0, w.in_ok-include.ensures.grows),
        kept_on c.args.progress.now.begun c.entries.progress.begun w.include.new.progress.begun c.entries.invariant.1 w.in_ok-include.ensures.keeps,
        search rules,
        search rules,
        both told c.args.progress.now.begun c.entries.progress.begun w.include.new.progress.begun c.entries.invariant.1 w.in_ok-include.ensures.keeps
            (λ read left given. gone_on (visit c.args.room read) c.args.file.now c.args.ast.now.text c.entries.progress c.args.ast.now.entries c.entries.entry-index c.entry-item.result within is span w.include.new.progress _ w.in-Include.is left given)
            c.entries.invariant.4 inside,
      )
  | follow-in_default w ↦
      let told = g.F.Files.contents c.args.files.now in
      let within : c.entries.entry-index < length c.args.ast.now.entries = rw (← c.entries-entry-items.ensures.entries) c.entries-test.true in
      let is : c.entry-item.result ≡ get_or c.args.ast.now.entries c.entries.entry-index c.entry-item.result = rw (← c.entries-entry-items.ensures.entries) c.entry-item.is in
      rw (w.progress-is, w.files-is) (
        c.entries.invariant.0,
        c.entries.invariant.1,
        c.entries.invariant.2,
        c.entries.invariant.3,
        onward told c.args.progress.now.begun c.entries.progress.begun
            (λ read left. ap (λ spans. follow (visit c.args.room read) c.args.file.now c.args.ast.now.text c.entries.progress spans)
            (at_module c.args.ast.now.entries c.entries.entry-index c.entry-item.result within is w.in_default.field-0 w.in_default.is) ∙ left)
            c.entries.invariant.4,
      )
]

pub visit-returns-in_err-from_slice-clause-exact : goal.visit-returns-in_err-from_slice-clause-exact
visit-returns-in_err-from_slice-clause-exact g t c =
    let begun = c.args.progress.now.begun in
    always (g.F.Files.contents c.args.files.now) begun begun (λ read. no_memory c.from_residual.result c.args.progress.now _ c.from_residual.ensures)

pub visit-returns-in_err-push-clause-exact : goal.visit-returns-in_err-push-clause-exact
visit-returns-in_err-push-clause-exact g t c =
    always (g.F.Files.contents c.args.files.now) c.args.progress.now.begun c.push.new.self (λ read. no_memory c.from_residual-in_err-push.result _ _ c.from_residual-in_err-push.ensures)

pub visit-returns-in_err-text-clause-exact : goal.visit-returns-in_err-text-clause-exact
visit-returns-in_err-text-clause-exact g t c =
    always (g.F.Files.contents c.args.files.now) c.args.progress.now.begun c.push.new.self
    (λ read. not_read c.in_err-text.field-0.0 c.from_residual-in_err-text.result _ _ c.from_residual-in_err-text.ensures)
