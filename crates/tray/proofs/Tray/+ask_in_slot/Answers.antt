-- `tray::Tray::ask` and `in_slot`, which call each other, meet their contracts.
-- Assumes nothing.
use Rattle.std.proofs.Common.{rules}
use native.Mathlib.Omega.{arith}
use Rattle.tray.proofs.Asking.{asking, asked, asks_slot, few, again}
use Rattle.tray.proofs.Asking.{slot_none, one_room, one_found, slot_one, not_last, slot_asks, slot_again}
use Rattle.tray.proofs.Tray.+ask_in_slot.Goals as goal

-- ---- a request

-- before the first slot
pub ask-loop-number-init : goal.ask-loop-number-init
ask-loop-number-init t c = asking c.requires c.args.mask.short c.listen-tally.ensures

-- a slot
pub ask-in_slot-more-requires : goal.ask-in_slot-more-requires
ask-in_slot-more-requires t c = (omega (arith, c.decreases), asks_slot c.loop-number.invariant c.loop-number-test.true)

-- few requests were sent
pub ask-overflow_add-found-in-loop-number : goal.ask-overflow_add-found-in-loop-number
ask-overflow_add-found-in-loop-number t c = omega (arith, few c.loop-number.invariant c.loop-number-test.true c.in_slot-more.ensures)

-- after a slot
pub ask-loop-number-preserved : goal.ask-loop-number-preserved
ask-loop-number-preserved t c = again c.loop-number.invariant c.loop-number-test.true c.in_slot-more.ensures

-- after the last
pub ask-returns : goal.ask-returns
ask-returns t c = asked c.loop-number.invariant c.loop-number-test.false

-- ---- a slot

-- nobody answers
pub in_slot-returns-in-0 : goal.in_slot-returns-in-0
in_slot-returns-in-0 t c = slot_none c.requires c.answers_in-answers.ensures c.in-0.is

-- one answers: it is found, and its entry is there
pub in_slot-unwrap-requires : goal.in_slot-unwrap-requires
in_slot-unwrap-requires t c = rw (c.first_in.ensures, one_found c.requires c.answers_in-answers.ensures c.in-1.is) (search rules)

pub in_slot-bounds-out-0 : goal.in_slot-bounds-out-0
in_slot-bounds-out-0 t c = one_room c.requires c.answers_in-answers.ensures c.in-1.is

pub in_slot-returns-in-1 : goal.in_slot-returns-in-1
in_slot-returns-in-1 t c = slot_one c.requires c.answers_in-answers.ensures c.in-1.is c.first_in.ensures c.unwrap.ensures

-- a collision: fewer groups are above the longer mask
pub in_slot-longer-requires : goal.in_slot-longer-requires
in_slot-longer-requires t c = not_last c.requires c.answers_in-answers.ensures (omega arith) c.args.self.now.differ

pub in_slot-ask-requires : goal.in_slot-ask-requires
in_slot-ask-requires t c = (
  omega (arith, c.decreases, c.longer.ensures.bits),
  slot_asks c.requires c.answers_in-answers.ensures (omega arith) c.longer.ensures.value c.longer.ensures.bits,
)

-- .. and what the search found that went again
pub in_slot-returns-in_default : goal.in_slot-returns-in_default
in_slot-returns-in_default t c = slot_again c.requires c.answers_in-answers.ensures (omega arith) c.longer.ensures.value c.longer.ensures.bits c.ask.ensures
