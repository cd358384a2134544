-- `tray::Slot::hears` meets its contract.
-- Assumes nothing.
use native.Mathlib.Omega.{arith}
use Rattle.tray.proofs.Hearing.{slot_shifted, longer_fits, speaks_longer}
use Rattle.tray.proofs.Slot.hears.Goals as goal

-- the sum fits 64 bits
pub overflow_add-result : goal.overflow_add-result
overflow_add-result c =
    let s = c.args.self in
    rw (slot_shifted s.mask.low s.mask.short s.below) (omega (arith, longer_fits s.mask.low s.mask.short s.below))

-- the longer mask fits, or does not
pub returns : goal.returns
returns c =
    let s = c.args.self in
    rw (slot_shifted s.mask.low s.mask.short s.below) (speaks_longer s.mask.low s.mask.short s.below c.args.uid)
