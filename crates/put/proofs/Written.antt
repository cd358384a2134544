-- A list L that is written to the start of a slice, piece by piece: what a loop that does so keeps. The lists are parameters of records,
-- so that antt finds them from the record: a proof that cites these laws writes none of them.
-- Assumes nothing.
use mathlib.Core.Path.{◌≡◌, refl, sym, ap, ◌∙◌}
use mathlib.Core.List.{List, [], ◌∷◌, ◌++◌, append-nil, append_assoc}
use Prim.Native.Nat.{ℕ, ◌+◌, ◌-◌, ◌≤◌, ◌<◌}
use native.Mathlib.Omega.{arith}
use native.Mathlib.Numerals.{add-one}
use lib.ListN.{length, take, drop, set, length-append, length-drop, length-set, take-append-drop}
use Rattle.put.specs.Put.{Put}
use lib.Seq.{length-take-le, take_at, drop_at, drop-drop, take-suc-set, drop-set-lt}
use Rattle.put.proofs.Lists.{put_tail, tail_room}

-- the first `at` bytes of L stand in out, which is out₀ after them; rest is what is left of L
pub record Written (L rest out₀ out : List ℕ) (at : ℕ) : Type 0 where
  pub split : take at out ++ rest ≡ L
  pub after : drop at out ≡ drop at out₀
  pub same : length out ≡ length out₀
  pub within : at ≤ length out
  pub fits : length L ≤ length out₀

-- the same, where v comes next
pub record Next (L v rest out₀ out : List ℕ) (at : ℕ) : Type 0 where
  pub written : Written L (v ++ rest) out₀ out at

pub none : {L out : List ℕ} → length L ≤ length out → Written L L out out 0
none h = record { split = refl; after = refl; same = refl; within = omega arith; fits = h }

module _ {L v rest out₀ out : List ℕ} {at : ℕ} (x : Next L v rest out₀ out at) where
  pub sum : at + length v ≤ length out
  sum =
      let w = x.written in
      omega (arith, w.fits, w.same, simp length-append at (ap length w.split), length-take-le at out w.within)

  pub room : length v ≤ length (take (length out - at) (drop at out))
  room = tail_room out at (length v) sum

  -- v goes to the start of what is lent as `&mut out[at..]`
  pub more : {ys : List ℕ} {k : ℕ} → Put v (take (length out - at) (drop at out)) ys k
      → Written L rest out₀ (take at out ++ (ys ++ drop (length out - at) (drop at out))) (at + k)
  more {ys} e =
      let w = x.written in
      let p = take at out ++ v in
      let t : length (take at out) ≡ at = length-take-le at out w.within in
      let lp : length p ≡ at + length v = simp length-append (omega (arith, t)) in
      let q : take at out ++ (ys ++ drop (length out - at) (drop at out)) ≡ p ++ drop (at + length v) out = put_tail out ys v at e.is ∙ sym
      (append_assoc (take at out) v (drop (at + length v) out)) in
      let lq : length (p ++ drop (at + length v) out) ≡ length out = simp (length-append, length-drop) (omega (arith, sum, t)) in
      rw (e.count, q)
      (record {
        split = rw (take_at p (drop (at + length v) out) (at + length v) lp, append_assoc) w.split;
        after = drop_at p (drop (at + length v) out) (at + length v) lp ∙ sym (drop-drop (length v) at out) ∙ ap (λ (l : List ℕ). drop (length v) l)
            w.after ∙ drop-drop (length v) at out₀;
        same = lq ∙ w.same;
        within = omega (arith, lq, sum);
        fits = w.fits;
      })

pub whole : {L out₀ out : List ℕ} {at : ℕ} → Written L [] out₀ out at → Put L out₀ out at
whole {L} {out₀} {out} {at} w =
    let e : take at out ≡ L = sym (append-nil (take at out)) ∙ w.split in
    let n : at ≡ length L = sym (length-take-le at out w.within) ∙ ap length e in
    record { count = n; is = sym (take-append-drop at out) ∙ rw (e, w.after, ← n) }

-- one byte is stored at `at`
pub store : {L rest out₀ out : List ℕ} {at : ℕ} (x : ℕ) → Next L (x ∷ []) rest out₀ out at → Written L rest out₀ (set out at x) (at + 1)
store {L} {rest} {out₀} {out} {at} x n =
    let h : at < length out = omega (arith, sum n) in
    let w = n.written in
    record {
      split = rw (add-one, take-suc-set out at x h, append_assoc) w.split;
      after = drop-set-lt (at + 1) out at x (omega arith) ∙ sym (drop-drop 1 at out) ∙ ap (λ (l : List ℕ). drop 1 l) w.after ∙ drop-drop 1 at out₀;
      same = length-set out at x ∙ w.same;
      within = simp length-set (omega (arith, sum n));
      fits = w.fits;
    }
