-- `step::commands::present` meets its contract.
-- Assumes nothing.
use Rattle.tag.specs.Work.{perform}
use Rattle.step.proofs.commands.present.Goals as goal

-- the answer is the verdict of the presentation, and its keys are the tag's
pub returns : goal.returns
unfolding perform
returns c =
    λ m. rw (c.with_keys.ensures, c.present-p.ensures) at (c.settle.ensures m)
