-- `put::copy_all` meets its contract: parts of 512 bytes are copied, and then the rest.
-- Assumes nothing.
use native.Mathlib.Omega.{arith}
use mathlib.Core.Path.{◌≡◌, refl}
use Prim.Native.Nat.{◌+◌, ◌-◌, ◌*◌, ◌/◌}
use mathlib.Core.List.{[], ◌++◌}
use lib.ListN.{length, get_or, take, drop}
use Rattle.put.proofs.Lists.{tail, chunk_at, copied, all_copied}
use Rattle.put.proofs.copy_all.Goals as goal

-- a part more
pub loop-i-preserved : goal.loop-i-preserved
loop-i-preserved c =
    let src = c.args.src.now in
    let i = c.loop-i.i in
    let next : 512 * (i + 1) ≡ 512 * i + 512 = omega arith in
    let count : length c.as_chunks.result.0.now ≡ length src / 512 = c.as_chunks.ensures.front_len in
    let part : get_or c.as_chunks.result.0.now i [] ≡ take 512 (drop (512 * i) src) =
    rw c.as_chunks.ensures.front (chunk_at 512 (length src / 512) i src (omega arith)) in
    rw next (copied src c.args.out.now c.loop-i.out _ c.copy_part.new.out (512 * i) 512 c.loop-i.invariant (omega arith) c.requires part c.copy_part.ensures)

-- the rest
pub returns : goal.returns
returns c =
    let src = c.args.src.now in
    let was = c.args.out.now in
    let at = 512 * length c.as_chunks.result.0.now in
    let left = length src - at in
    let count : length c.as_chunks.result.0.now ≡ length src / 512 = c.as_chunks.ensures.front_len in
    let parts : c.loop-i.i ≡ length c.as_chunks.result.0.now = omega arith in
    let cut : length src / 512 * 512 ≡ at = omega arith in
    let rest : c.as_chunks.result.1.now ≡ take left (drop at src) = rw (tail src at) (rw cut at c.as_chunks.ensures.back) in
    let so_far : c.loop-i.out ≡ take at src ++ drop at was = rw parts at c.loop-i.invariant in
    let whole = copied src was c.loop-i.out _ c.copy.new.out at left so_far (omega arith) c.requires rest c.copy.ensures in
    all_copied src was _ (at + left) _ whole (omega arith) refl
