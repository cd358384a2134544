-- `blocks::read_statuses` meets its contract.
-- Assumes nothing.
use Rattle.put.proofs.Written.{sum, store}
use Rattle.blocks.proofs.Listed.{none_told, all_told, outside_told, next_told}
use native.Mathlib.Omega.{arith}
use Rattle.blocks.proofs.read_statuses.Goals as goal

pub loop-n-init : goal.loop-n-init
loop-n-init c = none_told _ _ _ _ c.requires

-- the next block is outside
pub returns-then-block-run : goal.returns-then-block-run
returns-then-block-run c = outside_told _ _ _ _ _ c.loop-n.invariant c.if-block-run.true

-- its status has room
pub bounds-out-n : goal.bounds-out-n
bounds-out-n c = omega (arith, sum (next_told _ _ _ _ _ c.loop-n.invariant c.loop-n-test.true c.if-block-run.false))

-- and is written
pub loop-n-preserved : goal.loop-n-preserved
loop-n-preserved c =
    rw c.status.ensures (store _ (next_told _ _ _ _ _ c.loop-n.invariant c.loop-n-test.true c.if-block-run.false))

-- all are told
pub returns : goal.returns
returns c = all_told _ _ _ _ _ c.loop-n.invariant c.loop-n-test.false (omega (arith, c.loop-n.auto.n-end, c.loop-n-test.false))
