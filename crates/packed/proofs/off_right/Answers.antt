-- `packed::off_right` meets its contract.
-- Assumes nothing.
use Rattle.tag.specs.Rules.{off_rule}
use Rattle.packed.proofs.InBytes.{ready_in, closed_in, no_round_in, none_held_in}
use Rattle.packed.proofs.off_right.Goals as goal

-- each byte says what the rule asks of the part that it stands for
pub returns : goal.returns
unfolding off_rule
returns c = simp (ready_in, closed_in, no_round_in, none_held_in)
