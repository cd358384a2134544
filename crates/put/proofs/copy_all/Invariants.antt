-- `put::copy_all` meets its contract: parts of 512 bytes are copied, and then the rest.
-- Assumes nothing.
use Rattle.std.proofs.Common.{◌≡◌, ◌*◌, ◌++◌, take, drop}
use Rattle.put.proofs.copy_all.Given as goal

abbrev pub invariant-loop-i : goal.invariant-loop-i
invariant-loop-i l = l.out ≡ take (512 * l.i) l.src ++ drop (512 * l.i) l.initial.out
