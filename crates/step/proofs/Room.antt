-- Answers as they are written into the room.
-- Assumes nothing.
use mathlib.Core.Path.{◌≡◌, refl, sym, ap, ◌∙◌}
use mathlib.Core.List.{List, [], ◌∷◌, ◌++◌}
use Prim.Native.Nat.{ℕ, zero, suc, ◌+◌, ◌-◌, ◌≤◌, ◌<◌}
use native.Mathlib.Numerals.{add-one, one-add}
use native.Mathlib.Omega.{arith}
use lib.ListN.{length, take, drop, set, get_or, length-append, take-append-drop, length-take, length-drop}
use lib.Seq.{length-take-le, sets-eq, take-append_seam, drop_at}
use Rattle.put.proofs.Lists.{put_tail}
use Rattle.put.specs.Put.{Put}
use Rattle.crc.specs.Crc.{crc_bytes}
use Rattle.crc.proofs.Bytes.{two_bytes}
use Rattle.step.specs.Gives.{sealed_unless_silent}

-- two stores after the first n bytes
two_after : (xs : List ℕ) (n a b : ℕ) → n + 2 ≤ length xs → Put (take n xs ++ (a ∷ b ∷ [])) xs (set (set xs n a) (n + 1) b) (n + 2)
two_after xs n a b h =
    let t : length (take n xs) ≡ n = length-take-le n xs (omega arith) in
    let l : n + 2 ≡ length (take n xs ++ (a ∷ b ∷ [])) = simp length-append (omega arith) in
    record { count = l; is = rw (← l, add-one) (sets-eq (a ∷ b ∷ []) xs n h) }

pub seal_put : (xs : List ℕ) (n : ℕ) {cs : List ℕ} → 0 < n → n + 2 ≤ length xs → cs ≡ crc_bytes (take n xs)
    → Put (sealed_unless_silent (take n xs)) xs (set (set xs n (get_or cs 0 0)) (n + 1) (get_or cs 1 0)) (n + 2)
seal_put [] n l h e = absurd (omega arith)
seal_put (x ∷ xs) zero l h e = absurd (omega arith)
seal_put (x ∷ xs) (suc n) l h e = rw (e, two_bytes (take (suc n) (x ∷ xs))) (two_after (x ∷ xs) (suc n) _ _ h)

-- the flags byte is stored before n bytes that stand from the second byte on
pub success_put : (xs : List ℕ) (n : ℕ) → n + 3 ≤ length xs → Put (0 ∷ take n (drop 1 xs)) xs (set xs 0 0) (n + 1)
success_put [] n h = absurd (omega arith)
success_put (x ∷ xs) n h =
    let l : length (take n xs) ≡ n = length-take-le n xs (omega arith) in
    record { count = rw l (add-one n); is = ap (λ (s : List ℕ). 0 ∷ s) (rw l (sym (take-append-drop n xs))) }

pub error_put : (xs : List ℕ) (e : ℕ) → 4 ≤ length xs → Put (1 ∷ e ∷ []) xs (set (set xs 0 1) 1 e) 2
error_put [] e h = absurd (omega arith)
error_put (x ∷ []) e h = absurd (omega arith)
error_put (x ∷ y ∷ xs) e h = record { count = refl; is = refl }

pub register_put : (xs : List ℕ) (v : ℕ) {ys : List ℕ} {k : ℕ} → 4 ≤ length xs → Put (0 ∷ take 1 (drop 1 (set xs 1 v))) (set xs 1 v) ys k
    → Put (0 ∷ v ∷ []) xs ys k
register_put [] v h p = absurd (omega arith)
register_put (x ∷ []) v h p = absurd (omega arith)
register_put (x ∷ y ∷ xs) v h p = record { count = p.count; is = p.is }

-- a body L that was put from the second byte on, with the flags byte before it
flagged : (L : List ℕ) {zs : List ℕ} {n k : ℕ} (x : ℕ) (xs room : List ℕ) → room ≡ x ∷ (L ++ drop (length L) xs) → n ≡ length L
    → Put (0 ∷ take n (drop 1 room)) room zs k → Put (0 ∷ L) (x ∷ xs) zs k
flagged L {zs} {n} {k} x xs room e f s =
    let r : Put (0 ∷ take n (L ++ drop (length L) xs)) (x ∷ (L ++ drop (length L) xs)) zs k = rw e at s in
    let t : Put (0 ∷ L) (x ∷ (L ++ drop (length L) xs)) zs k = rw (f, take-append_seam L (drop (length L) xs)) at r in
    record { count = t.count; is = t.is ∙ ap (λ (l : List ℕ). 0 ∷ L ++ l) (drop_at L (drop (length L) xs) (length L) refl) }

-- as the room is lent from the second byte on
pub body_put : {L ys zs : List ℕ} {n k : ℕ} (xs : List ℕ) → 0 < length xs → Put L (take (length xs - 1) (drop 1 xs)) ys n
    → Put (0 ∷ take n (drop 1 (take 1 xs ++ (ys ++ drop (length xs - 1) (drop 1 xs))))) (take 1 xs ++ (ys ++ drop (length xs - 1) (drop 1 xs))) zs k
    → Put (0 ∷ L) xs zs k
body_put [] h p s = absurd (omega arith)
body_put {L} {ys} (x ∷ xs) h p s = flagged L x xs _ (put_tail (x ∷ xs) ys L 1 p.is ∙ rw one-add) p.count s

-- of the room that `step` has
pub room_put : {L ys zs : List ℕ} {n k : ℕ} (xs : List ℕ) → length xs ≡ 10243 → Put L (take 10242 (drop 1 xs)) ys n
    → Put (0 ∷ take n (drop 1 (take 1 xs ++ (ys ++ drop 10242 (drop 1 xs))))) (take 1 xs ++ (ys ++ drop 10242 (drop 1 xs))) zs k
    → Put (0 ∷ L) xs zs k
room_put xs h p s =
    let e : 10242 ≡ length xs - 1 = omega (arith, h) in
    body_put xs (omega (arith, h)) (rw e at p) (rw e at s)

-- and of a room lent so there is space for the flags byte and the CRC
pub body_fits : {L ys : List ℕ} {n : ℕ} (k : ℕ) (xs : List ℕ) → length L ≤ k → k + 3 ≤ length xs → Put L (take (length xs - 1) (drop 1 xs)) ys n
    → n + 3 ≤ length (take 1 xs ++ (ys ++ drop (length xs - 1) (drop 1 xs)))
body_fits {L} {ys} k xs h l p =
    let q = put_tail xs ys L 1 p.is in
    rw (q, p.count) (simp (length-append, length-take, length-drop) (omega arith))
