-- Lists that differ at most in some places: the same store to both, a store to one, and a part of both.
-- Assumes nothing.
use Prim.Native.Nat.{ℕ, zero, suc, ◌+◌, ◌≤◌, ◌<◌}
use mathlib.Core.Path.{◌≡◌, refl, ◌∙◌}
use mathlib.Core.Bool.{Bool, false}
use mathlib.Core.List.{List, [], ◌∷◌}
use native.Mathlib.Omega.{arith}
use lib.ListN.{length, get_or, take, drop, set, length-take, length-drop, length-set}
use lib.Seq.{get_or-set_other, get_or-take, get_or-drop, ext_get_or, sets}
use Rattle.tag.specs.Secrecy.{SameBut}

set_at : (xs ys : List ℕ) (i x j : ℕ) → length xs ≡ length ys → get_or xs j 0 ≡ get_or ys j 0 → get_or (set xs i x) j 0 ≡ get_or (set ys i x) j 0
set_at [] [] i x j s e = refl
set_at [] (b ∷ ys) i x j s e = absurd (omega arith)
set_at (a ∷ xs) [] i x j s e = absurd (omega arith)
set_at (a ∷ xs) (b ∷ ys) zero x zero s e = refl
set_at (a ∷ xs) (b ∷ ys) zero x (suc j) s e = e
set_at (a ∷ xs) (b ∷ ys) (suc i) x zero s e = e
set_at (a ∷ xs) (b ∷ ys) (suc i) x (suc j) s e = set_at xs ys i x j (omega arith) e

-- the same is stored at the same place of both
pub set_same : {apart : ℕ → Bool} {xs ys : List ℕ} (i x : ℕ) → SameBut apart xs ys → SameBut apart (set xs i x) (set ys i x)
set_same {apart} {xs} {ys} i x h = record { size = simp length-set h.size; at = λ j e. set_at xs ys i x j h.size (h.at j e) }

pub sets_same : {apart : ℕ → Bool} {xs ys : List ℕ} (i : ℕ) (vs : List ℕ) → SameBut apart xs ys → SameBut apart (sets xs i vs) (sets ys i vs)
sets_same i [] h = h
sets_same i (v ∷ vs) h = sets_same (suc i) vs (set_same i v h)

-- a place where nothing is stored
pub sets_other : (xs : List ℕ) (i : ℕ) (vs : List ℕ) (j : ℕ) → (i ≤ j → j < i + length vs → ⊥) → get_or (sets xs i vs) j 0 ≡ get_or xs j 0
sets_other xs i [] j h = refl
sets_other xs i (v ∷ vs) j h =
    sets_other (set xs i v) (suc i) vs j (λ p q. h (omega arith) (omega arith)) ∙ get_or-set_other xs i j v 0 (λ e. h (omega arith) (omega arith))

-- a part of both in which they do not differ
pub part_same : (apart : ℕ → Bool) {xs ys : List ℕ} (at size : ℕ) → SameBut apart xs ys → ((i : ℕ) → at ≤ i → i < at + size → apart i ≡ false) → take size (drop at xs) ≡ take size (drop at ys)
part_same apart at size h p =
    ext_get_or 0 _ _ (simp (length-take, length-drop, h.size)) (λ i l.
    let i<size : i < size = omega (arith, simp length-take at l) in
    simp (get_or-take, get_or-drop, i<size) (h.at (at + i) (p (at + i) (omega arith) (omega arith))))
