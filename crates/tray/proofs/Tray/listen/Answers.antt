-- `tray::Tray::listen` meets its contract.
-- Assumes nothing.
use Rattle.std.proofs.Common.{rules}
use Rattle.tray.proofs.Hearing.{listening, silent_next, answers_next, listened}
use Rattle.tray.proofs.Tray.listen.Goals as goal
use Rattle.tray.proofs.Tray.listen.Goals.{in-Some, in_default}

-- before the first UID no answer is counted
pub loop-uid-init : goal.loop-uid-init
loop-uid-init c = listening _ _ _

-- one more has heard the request: it answers in its slot, or is silent
pub loop-uid-preserved : goal.loop-uid-preserved
loop-uid-preserved c =
    elim c.match-slot_of.branch [
      | in-Some w ↦ rw w.tally-is (answers_next c.loop-uid.invariant c.loop-uid-test.true c.slot_of.ensures.value w.in-Some.is w.one_more-tally.ensures)
      | in_default w ↦ rw w.tally-is (silent_next c.loop-uid.invariant c.loop-uid-test.true c.slot_of.ensures.value (search rules))
    ]

-- every UID has
pub returns : goal.returns
returns c = listened c.loop-uid.invariant c.loop-uid-test.false
