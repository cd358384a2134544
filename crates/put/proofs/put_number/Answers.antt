-- `put::put_number` meets its contract: what is written, and the bytes of the rest of the number, are all its bytes.
-- Assumes nothing.
use native.Mathlib.Omega.{arith}
use mathlib.Core.Path.{◌≡◌, sym}
use lib.ListN.{length, take}
use lib.Seq.{length-take-le}
use Rattle.put.specs.Number.{bytes_of}
use Rattle.put.proofs.Numbers.{one_more, all_of, length_bytes}
use Rattle.put.proofs.put_number.Goals as goal

-- one byte more
pub loop-byte-preserved : goal.loop-byte-preserved
loop-byte-preserved c =
    let size : length (take c.args.width c.args.out.now) ≡ c.args.width = length-take-le _ _ c.requires in
    one_more _ _ _ _ _ c.loop-byte.invariant (omega arith) (omega arith)

-- all are written
pub returns : goal.returns
returns c =
    let size : length (take c.args.width c.args.out.now) ≡ c.args.width = length-take-le _ _ c.requires in
    let long : length (bytes_of c.args.width c.args.n) ≡ c.args.width = length_bytes c.args.width c.args.n in
    rw (all_of _ _ _ _ _ c.loop-byte.invariant (omega arith) (omega arith)) (record { count = sym long; is = rw long })
