-- `text::put_bytes` meets its contract: the bytes of as many pairs as were passed are written.
-- Assumes nothing.
use native.Mathlib.Omega.{arith}
use mathlib.Core.Path.{◌≡◌, sym}
use Prim.Native.Nat.{◌/◌, ◌<◌}
use Rattle.std.specs.Simd.{first_chunks}
use lib.ListN.{length}
use Rattle.text.proofs.Pieces.{put_front}
use Rattle.text.proofs.Texts.{bytes_count, pair_put, all_pairs}
use Rattle.text.proofs.put_bytes.Goals as goal

-- one pair more
pub loop-i-preserved : goal.loop-i-preserved
loop-i-preserved c =
    let s = c.args.digits.now in
    let within : c.loop-i.i < length s / 2 = omega (arith, c.as_chunks.ensures.front_len) in
    let pairs : c.as_chunks.result.0.now ≡ first_chunks 2 (length s / 2) s = c.as_chunks.ensures.front in
    rw (c.loop-i.invariant, c.value.ensures, c.value-in-loop-i.ensures, pairs) (pair_put c.loop-i.i s c.args.out.now within (omega (arith, bytes_count s)))

-- all of them
pub returns : goal.returns
returns c =
    let s = c.args.digits.now in
    let count : length c.as_chunks.result.0.now ≡ length s / 2 = c.as_chunks.ensures.front_len in
    let end : c.loop-i.i ≡ length s / 2 = omega arith in
    rw count (put_front (sym (bytes_count s)) (let e = rw (end, all_pairs s) at c.loop-i.invariant in e))
