-- `blocks::read_blocks` meets its contract.
-- Assumes nothing.
use native.Mathlib.Nat.{mul-zero}
use mathlib.Core.Path.{◌≡◌, sym, ◌∙◌}
use Rattle.std.specs.Prelude.{if◌then◌else◌}
use Rattle.put.proofs.Written.{more}
use Rattle.blocks.proofs.Listed.{none_read, all_read, outside_read, unreadable, next_read, next_room, next_place}
use Rattle.blocks.proofs.read_blocks.Goals as goal
use Rattle.blocks.proofs.read_blocks.Goals.{then-status, else-status}
use Rattle.blocks.proofs.read_blocks.Goals.{then-n-run, else-n-run+then-block-run, else-n-run+else-block-run+then-not-readable}

pub loop-n-init : goal.loop-n-init
loop-n-init c = rw mul-zero (none_read _ _ _ _ _ _ c.requires.limit_in_bounds_2)

-- the next block has room
pub put_block-requires-clause-else_in_bounds : goal.put_block-requires-clause-else_in_bounds
put_block-requires-clause-else_in_bounds c =
    next_room _ _ _ _ _ _ _ c.loop-n.invariant c.if-n-run.false c.if-block-run.false (sym c.readable.ensures ∙ c.if-not-readable.false)
    c.requires.limit_in_bounds

-- it is written, and its size is the one worked before the loop
pub loop-n-preserved : goal.loop-n-preserved
loop-n-preserved c =
    let size : c.if-status.size ≡ (if c.args.status then 5 else 4) =
    elim c.if-status.branch [
      | then-status w ↦ rw w.if-status.true w.size-is
      | else-status w ↦ rw w.if-status.false w.size-is
    ] in
    let readable = sym c.readable.ensures ∙ c.if-not-readable.false in
    rw (next_place _ _ _ _ _ _ _ c.loop-n.invariant c.if-n-run.false c.if-block-run.false readable c.requires.limit_in_bounds size c.put_block.ensures)
    (more (next_read _ _ _ _ _ _ _ c.loop-n.invariant c.if-n-run.false c.if-block-run.false readable) c.put_block.ensures)

-- each `break`: all are read, the next is outside, or the next is not readable
pub returns : goal.returns
returns c =
    let l = c.loop-n.invariant in
    elim c.if-n-run.branch [
      | then-n-run w ↦ rw w.blocks-is (all_read _ _ _ _ _ _ _ l w.if-n-run.true)
      | else-n-run+then-block-run w ↦ rw w.blocks-is (outside_read _ _ _ _ _ _ _ l w.if-block-run.true)
      | else-n-run+else-block-run+then-not-readable w ↦ rw w.blocks-is (unreadable _ _ _ _ _ _ _ l (sym w.readable.ensures ∙ w.if-not-readable.true))
    ]
