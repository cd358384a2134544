-- `packed::together_right` meets its contract.
-- Assumes nothing.
use Rattle.tag.specs.Rules.{together_rule}
use Rattle.packed.proofs.InBytes.{quiet_in, no_round_in, none_held_in}
use Rattle.packed.proofs.together_right.Goals as goal

-- each byte says what the rule asks of the part that it stands for
pub returns : goal.returns
unfolding together_rule
returns c = simp (quiet_in, no_round_in, none_held_in)
