-- `step::commands::read` meets its contract.
-- Assumes nothing.
use Rattle.tag.specs.Work.{perform}
use Rattle.step.proofs.Acts.{shown}
use Rattle.step.proofs.commands.read.Goals as goal

-- a body is answered at once
pub returns-in-Ok : goal.returns-in-Ok
unfolding perform
returns-in-Ok c =
    rw (← c.seen-view.ensures, ← c.read_verdict.ensures, c.in-Ok.is)
    (shown c.args.hold c.args.t _ (rw c.seen-view.ensures at c.put_listing.ensures) c.args.memory.now)
