use Rattle.std.proofs.Common.{rules}
use Rattle.text_buffer.proofs.Digits.{two_digits}
use Rattle.text_buffer.proofs.TextBuffer.put_hex_byte.Goals as goal

pub returns : goal.returns
returns c = rw (← two_digits c.args.byte) (search rules)
