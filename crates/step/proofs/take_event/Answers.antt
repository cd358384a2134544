-- `step::take_event` meets its contract.
-- Assumes nothing.
use mathlib.Core.Bool.{false}
use Rattle.put.proofs.If.{if_true, if_false}
use Rattle.step.proofs.Acts.{quiet, field_on_lem, field_off_lem}
use Rattle.tag.specs.Step.{work_of, step}
use Rattle.step.proofs.take_event.Goals as goal
use Rattle.step.proofs.take_event.Goals.{in-EndOfFrame+else-t, in-Request+else-t-2}

-- the field comes on
pub returns-in-FieldOn : goal.returns-in-FieldOn
returns-in-FieldOn c =
    let a = c.args in
    rw (c.in-FieldOn.is, c.silent.ensures, c.field_on.ensures) (field_on_lem a.t a.memory.now _)

-- it goes off
pub returns-in-FieldOff : goal.returns-in-FieldOff
returns-in-FieldOff c =
    let a = c.args in
    rw (c.in-FieldOff.is, c.silent-in-FieldOff.ensures, c.power.ensures) (field_off_lem a.t a.memory.now _)

-- it is on: the end of the frame
pub returns-in-EndOfFrame : goal.returns-in-EndOfFrame
unfolding step work_of
returns-in-EndOfFrame c = rw (c.in-EndOfFrame.is, if_true _ _ c.if-t.true) (c.end_frame.ensures c.args.memory.now)

-- and the frame, once round and held answer are dropped
pub returns-in-Request : goal.returns-in-Request
unfolding step work_of
returns-in-Request c =
    rw (c.in-Request.is, if_true _ _ c.if-t-2.true) (rw c.drop_round.ensures at c.take_frame.ensures)

-- it is off: both are nothing
pub returns-in-EndOfFrame-2 : goal.returns-in-EndOfFrame-2
unfolding step work_of
returns-in-EndOfFrame-2 c =
    let nothing = quiet false c.args.t c.args.memory.now in
    elim c.in-EndOfFrame-2-1.branch [
      | in-EndOfFrame+else-t w ↦ rw (w.in-EndOfFrame.is, if_false _ _ w.if-t.false, c.silent-in-EndOfFrame-2.ensures) nothing
      | in-Request+else-t-2 w ↦ rw (w.in-Request.is, if_false _ _ w.if-t-2.false, c.silent-in-EndOfFrame-2.ensures) nothing
    ]
