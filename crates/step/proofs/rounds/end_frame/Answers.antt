-- `step::rounds::end_frame` meets its contract.
-- Assumes nothing.
use Rattle.step.proofs.Acts.{held_gives}
use Rattle.step.proofs.rounds.end_frame.Goals as goal

pub returns-in-Some : goal.returns-in-Some
returns-in-Some c m = held_gives c.args.t m c.in-Some.is (rw (c.set_front.ensures, c.set_held-front.ensures) at (c.settle.ensures m))

pub returns-in-None : goal.returns-in-None
returns-in-None c m = held_gives c.args.t m c.in-None.is (c.end_round.ensures m)
