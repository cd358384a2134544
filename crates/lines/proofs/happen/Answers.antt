-- `lines::happen` meets its contract.
-- Assumes nothing.
use Rattle.lines.proofs.Answered.{within}
use Rattle.lines.proofs.happen.Goals as goal

-- what the host call gives lies within the room
pub returns-clause-within : goal.returns-clause-within
returns-clause-within c = within c.event.ensures
