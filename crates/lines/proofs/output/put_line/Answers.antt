-- `lines::output::put_line` meets its contract.
-- Assumes nothing.
use Rattle.lines.proofs.OutputLine.{line_put}
use Rattle.lines.proofs.output.put_line.Goals as goal

-- number, space, answer and newline are the text
pub returns : goal.returns
returns c = line_put c.args.number c.args.mark c.args.answer.now c.requires c.put_decimal-at.ensures c.put_hex_or-at.ensures
