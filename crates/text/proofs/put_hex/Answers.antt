-- `text::put_hex` meets its contract: the digits of as many bytes as were passed are written.
-- Assumes nothing.
use native.Mathlib.Omega.{arith}
use mathlib.Core.Path.{◌≡◌, sym}
use lib.ListN.{length, length-set}
use lib.Seq.{take_all}
use Rattle.text.proofs.Pieces.{put_front}
use Rattle.text.proofs.Texts.{hex_length, hex_more}
use Rattle.text.proofs.put_hex.Goals as goal

-- the second digit has room behind the first
pub bounds-out-i-in-loop-i : goal.bounds-out-i-in-loop-i
bounds-out-i-in-loop-i c = simp length-set (omega (arith, hex_length c.args.bytes.now))

-- one byte more
pub loop-i-preserved : goal.loop-i-preserved
loop-i-preserved c =
    rw (c.loop-i.invariant, c.hex_digit.ensures, c.hex_digit-in-loop-i.ensures)
    (hex_more c.loop-i.i c.args.bytes.now c.args.out.now c.loop-i-test.true (omega (arith, hex_length c.args.bytes.now)))

-- all of them
pub returns : goal.returns
returns c =
    let s = c.args.bytes.now in
    let end : c.loop-i.i ≡ length s = omega arith in
    put_front (sym (hex_length s)) (let e = rw (end, take_all (length s) s (omega arith)) at c.loop-i.invariant in e)
