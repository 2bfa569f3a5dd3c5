use Rattle.std.proofs.Common.{map, string_bytes, Global, refl}
use Rattle.command_words.specs.Asked.{asked_by}
use Rattle.tars_command.proofs.RunLaws.{run_usage, run_done, run_refused, run_unread, run_short}
use Rattle.tars_command.proofs.command.run.Goals as goal

pub returns-in-Err-Usage-clause-due : goal.returns-in-Err-Usage-clause-due
returns-in-Err-Usage-clause-due g c =
    run_usage (g.F.Files.contents c.args.files.now) (map string_bytes c.args.words.now) ((rw c.in-Err-Usage.field-0-is at c.in-Err-Usage.ensures.usage) refl)

pub returns-in-Err-Memory-clause-due : goal.returns-in-Err-Memory-clause-due
returns-in-Err-Memory-clause-due g c = run_short (g.F.Files.contents c.args.files.now) (map string_bytes c.args.words.now)

pub returns-in-Ok-text_of-clause-due : goal.returns-in-Ok-text_of-clause-due
returns-in-Ok-text_of-clause-due g c =
    run_done (g.F.Files.contents c.args.files.now) (map string_bytes c.args.words.now) _ _ (asked_by c.in-Ok.request) c.in-Ok.ensures.asked _ c.in-Ok-text_of.text _ c.in-Ok-text_of.ensures.exact (rw c.deref.ensures.value at c.end_with.ensures.written)

pub returns-in-Err-Refused-clause-due : goal.returns-in-Err-Refused-clause-due
returns-in-Err-Refused-clause-due g c =
    run_refused (g.F.Files.contents c.args.files.now) (map string_bytes c.args.words.now) _ _ (asked_by c.in-Ok.request) c.in-Ok.ensures.asked Global _ _
    (rw c.in-Err-Refused.field-0-is at c.in-Err-Refused.ensures.exact) (rw c.as_slice.ensures at c.end_with-in-Err-Refused.ensures.written)

pub returns-in-Err-Read-clause-due : goal.returns-in-Err-Read-clause-due
returns-in-Err-Read-clause-due g c = run_unread (g.F.Files.contents c.args.files.now) (map string_bytes c.args.words.now) (asked_by c.in-Ok.request) c.in-Ok.ensures.asked

pub returns-in-Err-Memory-text_of-clause-due : goal.returns-in-Err-Memory-text_of-clause-due
returns-in-Err-Memory-text_of-clause-due g c = run_short (g.F.Files.contents c.args.files.now) (map string_bytes c.args.words.now)
