-- Numbers of several bytes, written and read again, and read and written again; and places of a list, one by one.
-- Assumes nothing.
use mathlib.Core.Path.{◌≡◌, refl, ◌∙◌}
use mathlib.Core.List.{List, [], ◌∷◌}
use Prim.Native.Nat.{ℕ, zero, suc, ◌+◌, ◌*◌, ◌/◌, ◌%◌, ◌^◌, ◌≤◌, ◌<◌}
use native.Mathlib.Nat.{pow-suc, zero-add}
use native.Mathlib.Numerals.{add-one}
use native.Mathlib.Omega.{arith}
use lib.ListN.{length, take, drop, get_or}
use lib.Seq.{drop-cons, take_all}
use Rattle.put.specs.Number.{number_at, bytes_of}

-- ---- places of a list

-- what stands at the k places from one on, 0 past the end: of a list that is not known by its parts, each place computes
unfoldable pub places_at : ℕ → List ℕ → ℕ → List ℕ
places_at zero s at = []
places_at (suc k) s at = get_or s at 0 ∷ places_at k s (at + 1)

pub places : (k : ℕ) (s : List ℕ) (at : ℕ) → at + k ≤ length s → places_at k s at ≡ take k (drop at s)
unfolding places_at
places zero s at h = refl
places (suc k) s at h =
    let l : at < length s = omega arith in
    let n : at + 1 + k ≤ length s = omega arith in
    rw (drop-cons s at 0 l, places k s (at + 1) n, add-one)

-- a list of k
pub all_places : (k : ℕ) (s : List ℕ) → length s ≡ k → places_at k s 0 ≡ s
all_places k s e = places k s 0 (omega arith) ∙ take_all k s (omega arith)

-- ---- round trips

-- what a byte put in front does to the place
pub number_after : (k x : ℕ) (s : List ℕ) (at : ℕ) → number_at k (x ∷ s) (suc at) ≡ number_at k s at
unfolding number_at
number_after zero x s at = refl
number_after (suc k) x s at = rw (add-one, number_after k x s (suc at), add-one)

pub number_of_bytes : (k n : ℕ) → n < 256 ^ k → number_at k (bytes_of k n) 0 ≡ n
unfolding number_at bytes_of
number_of_bytes zero n h = omega arith
number_of_bytes (suc k) n h =
    let l : n < 256 ^ k * 256 = rw pow-suc at h in
    let e : number_at k (n % 256 ∷ bytes_of k (n / 256)) 1 ≡ n / 256 =
    number_after k (n % 256) (bytes_of k (n / 256)) 0 ∙ number_of_bytes k (n / 256) (omega arith) in
    rw (zero-add, e) (omega arith)

pub bytes_of_number : (k : ℕ) (s : List ℕ) (at : ℕ) → ((i : ℕ) → get_or s i 0 < 256) → bytes_of k (number_at k s at) ≡ places_at k s at
unfolding number_at bytes_of places_at
bytes_of_number zero s at h = refl
bytes_of_number (suc k) s at h =
    let x = get_or s at 0 in
    let n = number_at k s (at + 1) in
    let q : (x + 256 * n) / 256 ≡ n = omega (arith, h at) in
    let r : (x + 256 * n) % 256 ≡ x = omega (arith, h at) in
    rw (q, r, bytes_of_number k s (at + 1) h)

pub bytes_taken : (k : ℕ) (s : List ℕ) (at : ℕ) → at + k ≤ length s → ((i : ℕ) → get_or s i 0 < 256) → bytes_of k (number_at k s at) ≡ take k (drop at s)
bytes_taken k s at l h = bytes_of_number k s at h ∙ places k s at l
