-- `put::copy_part` meets its contract: sixteen bytes a turn are copied.
-- Assumes nothing.
use Rattle.std.proofs.Common.{◌≡◌, ◌*◌, ◌++◌, take, drop}
use Rattle.put.proofs.copy_part.Given as goal

abbrev pub invariant-loop-j : goal.invariant-loop-j
invariant-loop-j l = l.out ≡ take (16 * l.j) l.src ++ drop (16 * l.j) l.initial.out
