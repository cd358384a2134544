-- `tray::Slot::longer` meets its contract.
-- Assumes nothing.
use native.Mathlib.Omega.{arith}
use Rattle.tray.proofs.Hearing.{slot_shifted, longer_fits}
use Rattle.tray.proofs.Slots.{longer_below}
use Rattle.tray.proofs.Slot.longer.Goals as goal

-- the sum fits 64 bits
pub overflow_add-result : goal.overflow_add-result
overflow_add-result c =
    let s = c.args.self in
    rw (slot_shifted s.mask.low s.mask.short s.below) (omega (arith, longer_fits s.mask.low s.mask.short s.below))

-- .. and is the longer mask
pub returns-clause-value : goal.returns-clause-value
returns-clause-value c = let s = c.args.self in rw (slot_shifted s.mask.low s.mask.short s.below)

-- .. which has four bits more
pub invariant_of-result-clause-low : goal.invariant_of-result-clause-low
invariant_of-result-clause-low c =
    let s = c.args.self in
    rw (slot_shifted s.mask.low s.mask.short s.below) (longer_below s.mask.value s.mask.bits s.number s.mask.low s.below)
