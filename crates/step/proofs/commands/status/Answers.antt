-- `step::commands::status` meets its contract.
-- Assumes nothing.
use Rattle.step.proofs.Acts.{shown}
use Rattle.step.proofs.commands.status.Goals as goal

-- a body is answered at once
pub returns-in-Ok : goal.returns-in-Ok
returns-in-Ok c =
    rw (← c.status_verdict.ensures, c.in-Ok.is) (shown c.args.hold c.args.t _ (rw c.seen.ensures at c.put_statuses.ensures))
