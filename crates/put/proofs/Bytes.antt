-- Lists of numbers that are each below a bound: bytes are those below 256. What keeps a list so, and what is read from it.
-- Assumes nothing.
use mathlib.Core.List.{List, [], ◌∷◌, ◌++◌}
use Prim.Native.Nat.{ℕ, zero, suc, ◌+◌, ◌/◌, ◌^◌, ◌<◌}
use native.Mathlib.Nat.{mod-lt, pow-suc}
use native.Mathlib.Omega.{arith}
use lib.ListN.{take, drop, get_or, set, replicate}
use lib.Seq.{sets}
use Rattle.put.specs.Number.{number_at, bytes_of}

pub data Below (k : ℕ) : List ℕ → Type 0 where
  none : Below k []
  more : {x : ℕ} {s : List ℕ} → x < k → Below k s → Below k (x ∷ s)

abbrev pub Bytes : List ℕ → Type 0
Bytes s = Below 256 s

module _ {k : ℕ} where
  pub below_append : {s t : List ℕ} → Below k s → Below k t → Below k (s ++ t)
  below_append none q = q
  below_append (more h p) q = more h (below_append p q)

  pub below_take : {s : List ℕ} (n : ℕ) → Below k s → Below k (take n s)
  below_take zero p = none
  below_take (suc n) none = none
  below_take (suc n) (more h p) = more h (below_take n p)

  pub below_drop : {s : List ℕ} (n : ℕ) → Below k s → Below k (drop n s)
  below_drop zero p = p
  below_drop (suc n) none = none
  below_drop (suc n) (more h p) = below_drop n p

  pub below_set : {s : List ℕ} (i : ℕ) {x : ℕ} → x < k → Below k s → Below k (set s i x)
  below_set i l none = none
  below_set zero l (more h p) = more l p
  below_set (suc i) l (more h p) = more h (below_set i l p)

  pub below_sets : {s v : List ℕ} (i : ℕ) → Below k v → Below k s → Below k (sets s i v)
  below_sets i none p = p
  below_sets i (more h q) p = below_sets (suc i) q (below_set i h p)

  pub below_replicate : (n : ℕ) {x : ℕ} → x < k → Below k (replicate n x)
  below_replicate zero h = none
  below_replicate (suc n) h = more h (below_replicate n h)

  -- what is read past the end is 0
  pub below_at : {s : List ℕ} (i : ℕ) → 0 < k → Below k s → get_or s i 0 < k
  below_at i l none = l
  below_at zero l (more h p) = h
  below_at (suc i) l (more h p) = below_at i l p

-- ---- bytes and numbers of several bytes

pub byte_at : {s : List ℕ} (i : ℕ) → Bytes s → get_or s i 0 < 256
byte_at i p = below_at i (omega arith) p

pub number_below : {s : List ℕ} (k at : ℕ) → Bytes s → number_at k s at < 256 ^ k
unfolding number_at
number_below zero at p = omega arith
number_below (suc k) at p = rw pow-suc (omega (arith, byte_at at p, number_below k (at + 1) p))

pub bytes_of_lem : (k n : ℕ) → Bytes (bytes_of k n)
unfolding bytes_of
bytes_of_lem zero n = none
bytes_of_lem (suc k) n = more (mod-lt n (omega arith)) (bytes_of_lem k (n / 256))
