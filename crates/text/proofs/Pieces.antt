-- A text that is written piece by piece.
-- Assumes nothing.
use mathlib.Core.Path.{◌≡◌, refl, ◌∙◌}
use mathlib.Core.List.{List, [], ◌∷◌, ◌++◌}
use Prim.Native.Nat.{ℕ, ◌+◌, ◌≤◌, ◌<◌}
use native.Mathlib.Omega.{arith}
use lib.ListN.{length, set, take, drop, length-append, length-drop}
use lib.Seq.{take_at, drop_at}
use Rattle.put.specs.Put.{Put}
use Rattle.put.proofs.Written.{Written, Next, store, whole}

module _ {L rest out₀ out : List ℕ} {at : ℕ} where
  -- one byte comes next, and is stored
  pub one_next : {d : ℕ} → Written L (d ∷ rest) out₀ out at → Next L (d ∷ []) rest out₀ out at
  one_next w = record { written = w }

  pub stored : {x y : ℕ} → x ≡ y → Next L (y ∷ []) rest out₀ out at → Written L rest out₀ (set out at x) (at + 1)
  stored e n = rw e (store _ n)

-- the first piece was put at the start
pub begun : {v out₀ out : List ℕ} {at : ℕ} (rest : List ℕ) → Put v out₀ out at → length (v ++ rest) ≤ length out₀ → Written (v ++ rest) rest out₀ out at
begun {v} {out₀} {out} {at} rest p h =
    let f : length v + length rest ≤ length out₀ = simp length-append at h in
    rw (p.is, p.count)
    (record {
      split = rw (take_at v (drop (length v) out₀) (length v) refl);
      after = drop_at v (drop (length v) out₀) (length v) refl;
      same = simp (length-append, length-drop) (omega arith);
      within = simp length-append (omega arith);
      fits = h;
    })

-- one byte put at the start, and one after what was put there
pub put_one : (out : List ℕ) (x : ℕ) → 0 < length out → Put (x ∷ []) out (set out 0 x) 1
put_one [] x h = absurd (omega arith)
put_one (y ∷ ys) x h = record { count = refl; is = refl }

pub put_last : {v out₀ out : List ℕ} {at : ℕ} (x : ℕ) → Put v out₀ out at → length (v ++ (x ∷ [])) ≤ length out₀
    → Put (v ++ (x ∷ [])) out₀ (set out at x) (at + 1)
put_last x p h = whole (store x (one_next (begun (x ∷ []) p h)))

-- what stands at the start, before what stood there, was put
pub put_front : {L was out : List ℕ} {n : ℕ} → n ≡ length L → out ≡ L ++ drop n was → Put L was out n
put_front h e = record { count = h; is = e ∙ rw h }

-- what was put at the start is what stands there
pub put_there : {v out₀ out : List ℕ} {at : ℕ} → Put v out₀ out at → take at out ≡ v
put_there {v} {out₀} p = rw (p.is, p.count) (take_at v (drop (length v) out₀) (length v) refl)

pub put_within : {v out₀ out : List ℕ} {at : ℕ} → Put v out₀ out at → at ≤ length out
put_within p = rw (p.is, p.count) (simp length-append (omega arith))
