-- `put::copy_part` meets its contract: sixteen bytes a turn are copied.
-- Assumes nothing.
use native.Mathlib.Omega.{arith}
use mathlib.Core.Path.{◌≡◌}
use Prim.Native.Nat.{◌+◌, ◌*◌}
use Rattle.put.proofs.Lists.{copied, all_copied}
use Rattle.put.proofs.copy_part.Goals as goal

-- sixteen more
pub loop-j-preserved : goal.loop-j-preserved
loop-j-preserved c =
    let src = c.args.src.now in
    let was = c.args.out.now in
    let at = 16 * c.loop-j.j in
    let next : 16 * (c.loop-j.j + 1) ≡ at + 16 = omega arith in
    rw next (copied src was c.loop-j.out _ c.copy.new.out at 16 c.loop-j.invariant (omega arith) (omega arith) c.part_of.ensures c.copy.ensures)

-- all are copied
pub returns : goal.returns
returns c = all_copied _ _ _ (16 * c.loop-j.j) _ c.loop-j.invariant (omega arith) (omega arith)
