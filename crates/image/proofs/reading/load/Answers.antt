-- `image::reading::load` meets its contract.
-- Assumes nothing.
use native.Mathlib.Omega.{arith}
use lib.ListN.{length-drop}
use Rattle.put.proofs.Lists.{tail, put_all}
use Rattle.image.proofs.reading.load.Goals as goal

-- the header is read, and all after it fills the memory
pub returns : goal.returns
returns c = (c.read_header.ensures, rw tail at (put_all c.copy_all.ensures (rw tail (simp length-drop (omega arith)))))
