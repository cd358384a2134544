-- `step::rounds::move_on` meets its contract.
-- Assumes nothing.
use borrow.Author.Tests.{lt-ltb, le-ltb}
use mathlib.Core.Bool.{false}
use Rattle.std.specs.Prelude.{None}
use Rattle.record.specs.Update.{with_round, with_front}
use Rattle.step.proofs.Acts.{quiet}
use Rattle.tag.specs.Inventory.{next_slot}
use Rattle.step.proofs.rounds.move_on.Goals as goal

-- the next slot
pub returns-then-round-lt15 : goal.returns-then-round-lt15
unfolding next_slot
returns-then-round-lt15 c m = rw (lt-ltb _ _ c.if-round-lt15.true) (c.go_to.ensures m)

-- the last one: the round is closed
pub returns : goal.returns
unfolding next_slot
returns c m =
    let t = c.args.t in
    rw (le-ltb _ _ c.if-round-lt15.false, c.silent.ensures, c.set_front.ensures, c.set_round-front.ensures)
    (quiet false (with_front t (with_round t.front None)) m)
