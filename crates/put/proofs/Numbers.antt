-- Numbers of several bytes: read by parts, and written out one byte after the other.
-- Assumes nothing.
use mathlib.Core.Path.{◌≡◌, refl, ap, ◌∙◌}
use mathlib.Core.List.{List, [], ◌∷◌, ◌++◌, append-nil, append_assoc}
use Prim.Native.Nat.{ℕ, zero, suc, ◌+◌, ◌*◌, ◌-◌, ◌/◌, ◌%◌, ◌^◌, ◌<◌}
use native.Mathlib.Nat.{add-zero, zero-add, one-mul, pow-suc, mul_assoc, mul_comm}
use native.Mathlib.Omega.{arith}
use lib.ListN.{length, get_or, set, take, drop}
use Rattle.std.proofs.lemmas.List.{get_or-take, get_or-drop}
use lib.Seq.{take_all, take-suc-set}
use native.Mathlib.Numerals.{add-one}
use Rattle.std.specs.Array.{IsFromFnResultFrom}
use Rattle.std.specs.Fn.{Mut, Called}
use Rattle.std.specs.Int.{w64, from_le_bytes}
use Rattle.put.specs.Number.{number_at, bytes_of}

-- j bytes, and the k after them
pub in_parts : (j k : ℕ) (s : List ℕ) (at : ℕ) → number_at (j + k) s at ≡ number_at j s at + 256 ^ j * number_at k s (at + j)
unfolding number_at
in_parts zero k s at = simp (zero-add, add-zero, one-mul)
in_parts (suc j) k s at =
    let e : suc j + k ≡ suc (j + k) = omega arith in
    let f : at + suc j ≡ at + 1 + j = omega arith in
    let g : 256 ^ suc j * number_at k s (at + 1 + j) ≡ 256 * (256 ^ j * number_at k s (at + 1 + j)) = rw (pow-suc, mul_comm (256 ^ j) 256, mul_assoc) in
    rw (e, f, g, in_parts j k s (at + 1)) (omega arith)

-- the same bytes are the same number, from whatever places
pub number_same : (k : ℕ) (s t : List ℕ) (from to : ℕ) → ((i : ℕ) → i < k → get_or s (from + i) 0 ≡ get_or t (to + i) 0)
    → number_at k s from ≡ number_at k t to
unfolding number_at
number_same zero s t from to h = refl
number_same (suc k) s t from to h =
    let first : get_or s from 0 ≡ get_or t to 0 = simp add-zero at (h 0 (omega arith)) in
    let rest : number_at k s (from + 1) ≡ number_at k t (to + 1) = number_same k s t (from + 1) (to + 1) (λ i l.
    let here : from + 1 + i ≡ from + suc i = omega arith in
    let there : to + 1 + i ≡ to + suc i = omega arith in
    rw (here, there) (h (suc i) (omega arith))) in
    omega arith

-- k bytes, cut out of a list
pub taken : (k : ℕ) (s t : List ℕ) (at : ℕ) → t ≡ take k (drop at s) → number_at k t 0 ≡ number_at k s at
taken k s t at e = number_same k t s 0 at (λ i h. rw (e, zero-add, get_or-take k (drop at s) i 0 h, get_or-drop))

-- what calls at numbers in turn gave, which leave the closure as it was
pub pure_calls : {F : Type 0} (g : Mut F (ℕ × Unit {0}) ℕ) (f : F) (h : ℕ → ℕ) (pure : (q : F) (x y : ℕ) → Called g f (x, tt) y q → (q ≡ f) × (y ≡ h x))
    (ys : List ℕ) (n i : ℕ) (q : F) → q ≡ f → IsFromFnResultFrom g q ys i n → (k : ℕ) → k < n → get_or ys (i + k) 0 ≡ h (i + k)
pure_calls g f h pure ys zero i q e c k l = absurd (omega arith)
pure_calls g f h pure ys (suc n) i q e (r, y, is, call, rest) zero l = rw (add-zero i) (is.1 0 ∙ (pure r i y (rw e at call)).1)
pure_calls g f h pure ys (suc n) i q e (r, y, is, call, rest) (suc k) l =
    let next : i + suc k ≡ i + 1 + k = omega arith in
    rw next (pure_calls g f h pure ys n (i + 1) r (pure r i y (rw e at call)).0 rest k (omega arith))

-- eight bytes, as the library reads them
pub eight : (s : List ℕ) → from_le_bytes w64 s ≡ number_at 8 s 0
unfolding number_at
eight s = omega arith

pub length_bytes : (k n : ℕ) → length (bytes_of k n) ≡ k
unfolding bytes_of
length_bytes zero n = refl
length_bytes (suc k) n = ap suc (length_bytes k (n / 256))

-- n's width bytes, of which at are written to the start of out: one more, and the end
module _ (out : List ℕ) (at width rest n : ℕ) (w : take at out ++ bytes_of (width - at) rest ≡ bytes_of width n) where
  pub one_more : at < length out → at < width → take (at + 1) (set out at (rest % 256)) ++ bytes_of (width - (at + 1)) (rest / 256) ≡ bytes_of width n
  unfolding bytes_of
  one_more h k = let e : width - at ≡ suc (width - (at + 1)) = omega arith in
      let f : take (at + 1) (set out at (rest % 256)) ≡ take at out ++ (rest % 256 ∷ []) = rw (add-one, take-suc-set out at (rest % 256) h) in
      rw (f, append_assoc) (rw e at w)

  pub all_of : length out ≡ at → width ≡ at → out ≡ bytes_of width n
  unfolding bytes_of
  all_of h k = let e : width - at ≡ 0 = omega arith in let f : take at out ≡ out = take_all at out (omega arith) in rw (e, f, append-nil) at w
