-- "19 to 50 passwords 0 to 3", written one after the other.
-- Assumes nothing.
use Prim.Native.Nat.{ℕ, zero, suc, ◌+◌, ◌-◌, ◌*◌, ◌<◌}
use native.Mathlib.Omega.{arith}
use mathlib.Core.Path.{◌≡◌, refl}
use mathlib.Core.List.{List, ◌++◌}
use lib.ListN.{length, get_or, take, drop}
use Rattle.put.specs.Put.{Put}
use Rattle.put.specs.Number.{bytes_of}
use Rattle.put.proofs.Lists.{put_then}
use Rattle.tag.specs.Image.{password_bytes}

-- the bytes of the first n of four
abbrev pub first : List ℕ → ℕ → List ℕ
first ps n = take (8 * n) (password_bytes ps)

-- they are written, and nothing else
abbrev pub Written : List ℕ → ℕ → List ℕ → List ℕ → Type 0
Written ps n xs ys = Put (first ps n) xs ys (length (first ps n))

one_more : (ps : List ℕ) (n : ℕ) → n < 4 → (8 * n ≡ length (first ps n)) × (first ps n ++ bytes_of 8 (get_or ps n 0) ≡ first ps (n + 1))
unfolding bytes_of
one_more ps zero h = (refl, refl)
one_more ps (suc zero) h = (refl, refl)
one_more ps (suc (suc zero)) h = (refl, refl)
one_more ps (suc (suc (suc zero))) h = (refl, refl)
one_more ps (suc (suc (suc (suc n)))) h = absurd (omega arith)

-- and then the next
pub next_written : (ps : List ℕ) {xs ys zs : List ℕ} {k : ℕ} (n : ℕ) → n < 4 → Written ps n xs ys
    → Put (bytes_of 8 (get_or ps n 0)) (take (length ys - 8 * n) (drop (8 * n) ys)) zs k
    → Written ps (n + 1) xs (take (8 * n) ys ++ (zs ++ drop (length ys - 8 * n) (drop (8 * n) ys)))
next_written ps n h p q = let more = one_more ps n h in rw more.1 at (put_then more.0 p q)
