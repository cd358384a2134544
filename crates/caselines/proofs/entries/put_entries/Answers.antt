-- `caselines::entries::put_entries` meets its contract: what is written, and the entries of the bytes that are left, are all the entries.
-- Assumes nothing.
use Rattle.put.proofs.Written.{sum}
use Rattle.text.proofs.Pieces.{stored}
use Rattle.caselines.proofs.Eights.{entry, entries_all}
use native.Mathlib.Omega.{arith}
use Rattle.caselines.proofs.entries.put_entries.Goals as goal

-- an entry more has room
pub bounds-out-i : goal.bounds-out-i
bounds-out-i c = omega (arith, sum (entry _ _ c.loop-i.invariant c.loop-i-test.true))

-- it is the number of its eight bytes
pub loop-i-preserved : goal.loop-i-preserved
loop-i-preserved c = stored c.eight_of.ensures (entry _ _ c.loop-i.invariant c.loop-i-test.true)

-- no entry is left
pub returns : goal.returns
returns c = entries_all _ _ c.loop-i.invariant (omega arith)
