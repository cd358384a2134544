-- The blocks of a write, one after the other, are one run of bytes.
-- Assumes nothing.
use mathlib.Core.Path.{◌≡◌, refl}
use mathlib.Core.List.{List, [], ◌∷◌, ◌++◌, append_assoc}
use Prim.Native.Nat.{ℕ, zero, suc, ◌+◌, ◌-◌, ◌*◌, ◌≤◌}
use native.Mathlib.Nat.{add-zero}
use native.Mathlib.Omega.{arith}
use lib.ListN.{length, take, drop, set, length-take, length-drop}
use lib.Seq.{sets, sets-eq, take-add}
use Rattle.put.specs.Put.{Put}
use Rattle.put.proofs.Lists.{put_tail}
use Rattle.tag.specs.Work.{apply_to_memory}
use Rattle.tag.specs.Blocks.{block_units}

sets_append : (xs ys m : List ℕ) (i : ℕ) → sets m i (xs ++ ys) ≡ sets (sets m i xs) (i + length xs) ys
sets_append [] ys m i = rw add-zero
sets_append (x ∷ xs) ys m i =
    let e : i + suc (length xs) ≡ suc i + length xs = omega arith in
    rw (e, sets_append xs ys (set m i x) (suc i))

units_run : (n b : ℕ) (bytes m : List ℕ) → 4 * n ≤ length bytes → apply_to_memory (block_units b n bytes) m ≡ sets m (4 * b) (take (4 * n) bytes)
unfolding apply_to_memory block_units
units_run zero b bytes m h = refl
units_run (suc n) b bytes m h =
    let four : length (take 4 bytes) ≡ 4 = simp length-take (omega arith) in
    let all : 4 * suc n ≡ 4 + 4 * n = omega arith in
    let next : 4 * (b + 1) ≡ 4 * b + length (take 4 bytes) = omega arith in
    rw (units_run n (b + 1) (drop 4 bytes) (sets m (4 * b) (take 4 bytes)) (simp length-drop (omega arith)), all, take-add, sets_append, next)

-- all bytes of n blocks put at the start of what is lent as `&mut m[4 * b..]`: the whole when it is back
pub units_put : (m bytes : List ℕ) (n b : ℕ) {ys : List ℕ} {k : ℕ} → 4 * n ≤ length bytes → 4 * (b + n) ≤ length m
    → Put (take (4 * n) bytes) (take (length m - 4 * b) (drop (4 * b) m)) ys k
    → take (4 * b) m ++ (ys ++ drop (length m - 4 * b) (drop (4 * b) m)) ≡ apply_to_memory (block_units b n bytes) m
units_put m bytes n b {ys} h room p =
    let fits : 4 * b + length (take (4 * n) bytes) ≤ length m = simp length-take (omega arith) in
    rw (put_tail m ys (take (4 * n) bytes) (4 * b) p.is, units_run n b bytes m h, sets-eq (take (4 * n) bytes) m (4 * b) fits, append_assoc)
