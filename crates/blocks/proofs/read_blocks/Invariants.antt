-- `blocks::read_blocks` meets its contract: what is written, and the listing from the next block on, are the whole listing.
-- Assumes nothing.
use Prim.Native.Nat.{◌+◌, ◌-◌, ◌*◌}
use Rattle.put.proofs.Written.{Written}
use Rattle.tag.specs.Work.{listing}
use Rattle.blocks.proofs.read_blocks.Given as goal

abbrev pub invariant-loop-n : goal.invariant-loop-n
invariant-loop-n l =
    let r = l.run in
    Written (listing l.v l.mem r.limit r.first r.count l.status)
    (listing l.v l.mem r.limit (r.first + l.n) (r.count - l.n) l.status) l.initial.out l.out (l.size * l.n)

abbrev pub decreases-loop-n : goal.decreases-loop-n
decreases-loop-n l = l.run.count - l.n
