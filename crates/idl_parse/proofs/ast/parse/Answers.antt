use Rattle.std.proofs.Common.{sym, ◌∙◌, length}
use Rattle.idl_parse.proofs.Parsing.Deriving.FileLaws.{file_sound, file_complete, entries_of}
use Rattle.idl_parse.proofs.Trees.NestingLaws.{file_spans}
use Rattle.idl_parse.proofs.Parsing.Stopping.ParseSteps.{no_file, true_fault, refused_fault}
use Rattle.idl_parse.proofs.ast.parse.Goals as goal

pub returns-in-Err-clause-only : goal.returns-in-Err-clause-only
returns-in-Err-clause-only c = no_file (length c.args.text.now) c.args.tokens.now c.file.new.tokens c.in-Err.halt c.fault_of.result (rw c.new-left.ensures at c.in-Err.ensures) (rw c.left.ensures at c.fault_of.ensures)

pub returns-in-Err-clause-fault : goal.returns-in-Err-clause-fault
returns-in-Err-clause-fault c = true_fault c.args.text.now c.args.tokens.now c.file.new.tokens c.in-Err.halt c.fault_of.result (rw c.new-left.ensures at c.in-Err.ensures) (rw c.left.ensures at c.fault_of.ensures)

pub returns-in-Err-clause-refused : goal.returns-in-Err-clause-refused
returns-in-Err-clause-refused c = refused_fault c.args.text.now c.args.tokens.now c.file.new.tokens c.in-Err.halt c.fault_of.result (rw c.new-left.ensures at c.in-Err.ensures) (rw c.left.ensures at c.fault_of.ensures)

pub returns-clause-refused : goal.returns-clause-refused
returns-clause-refused c = λ at why is. is.no_file c.in-Ok.entries (file_sound 15 c.args.tokens.now c.in-Ok.entries (rw c.new-left.ensures at c.in-Ok.ensures))

pub returns-clause-read : goal.returns-clause-read
returns-clause-read c = file_sound 15 c.args.tokens.now c.in-Ok.entries (rw c.new-left.ensures at c.in-Ok.ensures)

pub returns-clause-only : goal.returns-clause-only
returns-clause-only c = λ entries is. entries_of (sym (rw c.new-left.ensures at c.in-Ok.ensures) ∙ file_complete 15 c.args.tokens.now entries is)

pub include_names-requires : goal.include_names-requires
include_names-requires c =
    rw c.as_slice.ensures (file_spans 16 c.args.text.now c.args.tokens.now c.in-Ok.entries c.requires.tokens (file_sound 15 c.args.tokens.now c.in-Ok.entries (rw c.new-left.ensures at c.in-Ok.ensures)))

pub invariant_of-result : goal.invariant_of-result
invariant_of-result c =
    let names = rw c.as_slice.ensures at c.in_ok-includes.ensures in
    rw c.in_ok-text.ensures (record {
      short = c.requires.short;
      file = record {
        tokens = c.args.tokens.now;
        are = c.requires.tokens;
        derived = file_sound 15 c.args.tokens.now c.in-Ok.entries (rw c.new-left.ensures at c.in-Ok.ensures);
      };
      names = names;
    })
