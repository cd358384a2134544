-- `step::rounds::end_round` meets its contract.
-- Assumes nothing.
use mathlib.Core.Bool.{false}
use Rattle.step.proofs.Acts.{quiet, round_gives}
use Rattle.step.proofs.rounds.end_round.Goals as goal

pub returns-in-Some : goal.returns-in-Some
returns-in-Some c m = round_gives c.args.t m c.in-Some.is (c.move_on.ensures m)

pub returns-in-None : goal.returns-in-None
returns-in-None c m = round_gives c.args.t m c.in-None.is (rw c.silent.ensures (quiet false c.args.t m))
