-- `tray::Mask::slot_of` meets its contract.
-- Assumes nothing.
use native.Mathlib.Omega.{arith}
use borrow.Author.Tests.{eq-eqb, ne_eqb}
use Rattle.put.proofs.Bits.{one_shifted}
use Rattle.tag.specs.Inventory.{fits}
use Rattle.tray.proofs.Mask.slot_of.Goals as goal

-- the mask fits
pub returns-then-uid-self-clause-value : goal.returns-then-uid-self-clause-value
unfolding fits
returns-then-uid-self-clause-value c = rw (eq-eqb _ _ (rw (one_shifted c.args.self.bits (omega arith)) at c.if-uid-self.true))

-- it does not
pub returns-else-uid-self-clause-value : goal.returns-else-uid-self-clause-value
unfolding fits
returns-else-uid-self-clause-value c = rw (ne_eqb _ _ (rw (one_shifted c.args.self.bits (omega arith)) at c.if-uid-self.false))
