use Rattle.text_buffer.proofs.Shown.{appends_text}
use Rattle.text_buffer.proofs.TextBuffer.show.Goals as goal

pub returns-in-Ok : goal.returns-in-Ok
returns-in-Ok g c = appends_text _ _ (g.D.Display.output c.args.value) (c.in-Ok.ensures.writes)
