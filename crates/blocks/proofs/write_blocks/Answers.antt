-- `blocks::write_blocks` meets its contract: one copy is what the units do, one after the other.
-- Assumes nothing.
use lib.ListN.{length-take, length-drop}
use Rattle.blocks.proofs.Units.{units_put}
use native.Mathlib.Omega.{arith}
use Rattle.blocks.proofs.write_blocks.Goals as goal

pub slice_bounds-copy-end : goal.slice_bounds-copy-end
slice_bounds-copy-end c = simp length-take (omega arith)

pub copy-requires : goal.copy-requires
copy-requires c = simp (length-take, length-drop) (omega arith)

pub returns : goal.returns
returns c = units_put _ _ _ _ c.requires.more_in_bounds_2 c.requires.more_in_bounds c.copy.ensures
