-- `tray::Tally::one_more` meets its contract.
-- Assumes nothing.
use native.Mathlib.Omega.{arith}
use Rattle.tray.proofs.Groups.{count_fits, counted}
use Rattle.tray.proofs.Tally.one_more.Goals as goal

-- the slot's four bits do not hold 15: the sum fits 64 bits
pub overflow_add-result : goal.overflow_add-result
overflow_add-result c = omega (arith, count_fits c.requires c.answers_in.ensures c.if-answers_in-eq15.false (omega arith))

-- .. and is one more there
pub returns : goal.returns
returns c = counted c.requires c.answers_in.ensures c.if-answers_in-eq15.false
