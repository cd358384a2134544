-- `blocks::read_statuses` meets its contract: what is written, and the statuses from the next block on, are all the statuses.
-- Assumes nothing.
use Prim.Native.Nat.{◌+◌, ◌-◌}
use Rattle.tag.specs.Blocks.{statuses}
use Rattle.put.proofs.Written.{Written}
use Rattle.blocks.proofs.read_statuses.Given as goal

abbrev pub invariant-loop-n : goal.invariant-loop-n
invariant-loop-n l =
    let r = l.run in
    Written (statuses l.v r.limit r.first r.count) (statuses l.v r.limit (r.first + l.n) (r.count - l.n)) l.initial.out l.out l.n
