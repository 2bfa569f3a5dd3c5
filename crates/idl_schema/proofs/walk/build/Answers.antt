use Rattle.std.proofs.Common.{◌+◌, length, drop, fold, subst, sym, ap, ◌∙◌, arith}
use Rattle.std.proofs.lemmas.List.{take_all}
use Rattle.tars_model.specs.Declarations.{Declared, nothing_declared}
use Rattle.idl_schema.specs.Faultless.{CanAddFiles, with_file}
use Rattle.idl_schema.proofs.KeyCounts.{file_few, next_file_few}
use Rattle.idl_schema.proofs.Walking.{left_is, walked_more, first_file, rest_files, can_add_files, all_files}
use Rattle.idl_schema.proofs.walk.build.Goals as goal

pub loop-file-init : goal.loop-file-init
loop-file-init c = record {
  made = c.new-building.ensures.empty;
  can = subst (λ d. CanAddFiles d c.args.files.now) (sym c.new-building.ensures.empty) (can_add_files c.args.files.now c.requires.faultless);
  few = omega (arith, ap (λ (d : Declared). length d.keys) c.new-building.ensures.empty, c.requires.short);
  named = c.new-building.ensures.named;
}

pub add_entries-requires-clause-can : goal.add_entries-requires-clause-can
add_entries-requires-clause-can c =
    rw (c.text.ensures.text, c.entries.ensures.entries)
    (first_file c.loop-file.building.schema c.file-item.result (drop (c.loop-file.file-index + 1) c.args.files.now)
    (subst (CanAddFiles c.loop-file.building.schema) (left_is c.args.files.now c.loop-file.file-index c.file-item.result c.loop-file-test.true c.file-item.is) c.loop-file.invariant.can)
    c.text.ensures.short c.entries.ensures.spans c.entries.ensures.nested)

pub add_entries-requires-clause-few : goal.add_entries-requires-clause-few
add_entries-requires-clause-few c =
    rw c.entries.ensures.entries
    (file_few c.loop-file.building.schema c.args.files.now c.loop-file.file-index c.file-item.result c.loop-file-test.true c.file-item.is c.loop-file.invariant.few c.entries.ensures.file)

pub loop-file-preserved : goal.loop-file-preserved
loop-file-preserved c =
    let added = rw (c.text.ensures.text, c.entries.ensures.entries) at c.in_ok-add_entries.ensures.made in
    record {
      made = added ∙ ap (λ d. with_file d c.file-item.result) c.loop-file.invariant.made
          ∙ sym (walked_more with_file nothing_declared c.args.files.now c.loop-file.file-index c.file-item.result c.loop-file-test.true c.file-item.is);
      can = subst (λ d. CanAddFiles d (drop (c.loop-file.file-index + 1) c.args.files.now)) (sym added)
          (rest_files c.loop-file.building.schema c.file-item.result (drop (c.loop-file.file-index + 1) c.args.files.now)
          (subst (CanAddFiles c.loop-file.building.schema) (left_is c.args.files.now c.loop-file.file-index c.file-item.result c.loop-file-test.true c.file-item.is) c.loop-file.invariant.can)
          c.text.ensures.short c.entries.ensures.spans c.entries.ensures.nested);
      few = next_file_few c.loop-file.building.schema c.args.files.now c.loop-file.file-index c.file-item.result c.loop-file-test.true c.file-item.is c.loop-file.invariant.few c.entries.ensures.file _ added;
      named = c.in_ok-add_entries.ensures.named;
    }

pub returns : goal.returns
returns c =
    c.loop-file.invariant.made ∙ ap (fold with_file nothing_declared) (take_all c.loop-file.file-index c.args.files.now c.loop-file-test.false) ∙ all_files c.args.files.now
