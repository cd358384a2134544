-- `step::take_frame` meets its contract: each way of hearing a frame, as its function promised.
-- Assumes nothing.
use mathlib.Core.Path.{sym, ◌∙◌}
use mathlib.Core.Bool.{false}
use Rattle.record.specs.declared.State.TheVariants.{Ready}
use Rattle.record.specs.Update.{with_state, with_front}
use Rattle.frame.proofs.Requested.{requested}
use Rattle.step.proofs.Acts.{quiet}
use Rattle.step.proofs.Rows.{data_there}
use Rattle.tag.specs.Step.{frame_of}
use native.Mathlib.Omega.{arith}
use Rattle.step.proofs.take_frame.Goals as goal

-- the fields of a request lie before its CRC
pub overflow_sub-end : goal.overflow_sub-end
overflow_sub-end c = omega (arith, (requested c.args.t.front c.args.frame.now (sym c.hear.ensures ∙ c.in-Request.is)).long)

pub slice_bounds-execute-count : goal.slice_bounds-execute-count
slice_bounds-execute-count c = (requested c.args.t.front c.args.frame.now (sym c.hear.ensures ∙ c.in-Request.is)).most

pub slice_bounds-execute-start : goal.slice_bounds-execute-start
slice_bounds-execute-start c =
    let r = requested c.args.t.front c.args.frame.now (sym c.hear.ensures ∙ c.in-Request.is) in
    omega (arith, r.most, r.long)

-- and hold the bytes of a write
pub execute-requires-clause-data_there : goal.execute-requires-clause-data_there
execute-requires-clause-data_there c = data_there (requested c.args.t.front c.args.frame.now (sym c.hear.ensures ∙ c.in-Request.is))

pub returns-in-Silence : goal.returns-in-Silence
unfolding frame_of
returns-in-Silence c = rw (← c.hear.ensures, c.in-Silence.is, c.silent.ensures) (quiet false c.args.t c.args.memory.now)

pub returns-in-Deselected : goal.returns-in-Deselected
unfolding frame_of
returns-in-Deselected c =
    rw (← c.hear.ensures, c.in-Deselected.is, c.silent-in-Deselected.ensures, c.moved.ensures)
    (quiet false (with_front c.args.t (with_state c.args.t.front Ready)) c.args.memory.now)

pub returns-in-Inventory : goal.returns-in-Inventory
unfolding frame_of
returns-in-Inventory c = rw (← c.hear.ensures, c.in-Inventory.is) (c.take_inventory.ensures c.args.memory.now)

pub returns-in-Error : goal.returns-in-Error
unfolding frame_of
returns-in-Error c = rw (← c.hear.ensures, c.in-Error.is) (c.settle.ensures c.args.memory.now)

pub returns-in-Request : goal.returns-in-Request
unfolding frame_of
returns-in-Request c = rw (← c.hear.ensures, c.in-Request.is) c.execute.ensures
