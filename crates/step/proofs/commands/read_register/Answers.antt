-- `step::commands::read_register` meets its contract.
-- Assumes nothing.
use Rattle.step.proofs.Acts.{shown}
use Rattle.step.proofs.commands.read_register.Goals as goal

-- a body is answered at once
pub returns-in-Ok : goal.returns-in-Ok
returns-in-Ok c =
    rw (← c.seen.ensures, ← c.read_register.ensures, c.in-Ok.is) (shown c.args.hold c.args.t _ c.put_register.ensures)
