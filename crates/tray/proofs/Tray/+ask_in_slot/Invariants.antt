-- `tray::Tray::ask` and `in_slot`, which call each other. What falls: twice the bits above the mask, and for a slot one less.
-- Assumes nothing.
use Prim.Native.Nat.{◌*◌, ◌-◌}
use Rattle.tray.proofs.Asking.{Asking}
use Rattle.tray.proofs.Tray.+ask_in_slot.Given as goal

abbrev pub decreases-ask : goal.decreases-ask
decreases-ask l = 2 * (64 - l.mask.bits)

abbrev pub decreases-in_slot : goal.decreases-in_slot
decreases-in_slot l = 2 * (64 - l.slot.mask.bits) - 1

abbrev pub invariant-ask-loop-number : goal.invariant-ask-loop-number
invariant-ask-loop-number l = Asking l.self.uids.now l.mask.value l.mask.bits l.tally.counts l.fn.out l.out l.found.count l.found.requests l.number
