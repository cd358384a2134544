-- Laws on lists that the proofs of this crate cite.
-- Assumes nothing.
use mathlib.Core.Path.{◌≡◌, refl, ◌∙◌}
use mathlib.Core.List.{List, [], ◌∷◌, ◌++◌, append-nil, append_assoc}
use Prim.Native.Nat.{ℕ, zero, suc, ◌+◌, ◌-◌, ◌*◌, ◌≤◌, ◌<◌}
use native.Mathlib.Nat.{le_refl, mul-zero}
use native.Mathlib.Numerals.{add-one, one-add}
use native.Mathlib.Omega.{arith}
use Rattle.std.specs.Simd.{first_chunks}
use Rattle.std.proofs.lemmas.List.{take_more}
use lib.ListN.{get_or, length, take, drop, set, length-append, length-set, length-drop, drop_of_length-le}
use Rattle.put.specs.Put.{Put}
use lib.Seq.{drop-cons, set_at, take_all, take_at, drop_at, take-add, drop-drop, length-take-le, take-append_seam, drop-append-add}

-- `&s[a..]` is all that lies from a on
pub tail : (xs : List ℕ) (a : ℕ) → take (length xs - a) (drop a xs) ≡ drop a xs
tail xs a = take_all (length xs - a) (drop a xs) (simp length-drop (le_refl _))

-- and has room for n where the whole has
pub tail_room : (xs : List ℕ) (a n : ℕ) → a + n ≤ length xs → n ≤ length (take (length xs - a) (drop a xs))
tail_room xs a n h = rw tail (simp length-drop (omega arith))

-- v put at the start of what was lent as `&mut s[a..]`: the whole when it is back
pub put_tail : (xs ys v : List ℕ) (a : ℕ) → ys ≡ v ++ drop (length v) (take (length xs - a) (drop a xs))
    → take a xs ++ (ys ++ drop (length xs - a) (drop a xs)) ≡ take a xs ++ (v ++ drop (a + length v) xs)
put_tail xs ys v a e =
    let h : length (drop a xs) ≤ length xs - a = simp length-drop (le_refl _) in
    rw (drop_of_length-le (drop a xs) h, e, tail xs a, append-nil, drop-drop)

-- the same after x was stored at 0, and 1.. was lent
pub put_rest : (xs ys v : List ℕ) (x : ℕ) → 0 < length xs → ys ≡ v ++ drop (length v) (take (length (set xs 0 x) - 1) (drop 1 (set xs 0 x)))
    → take 1 (set xs 0 x) ++ (ys ++ drop (length (set xs 0 x) - 1) (drop 1 (set xs 0 x))) ≡ x ∷ v ++ drop (1 + length v) xs
put_rest [] ys v x h e = absurd (omega arith)
put_rest (y ∷ xs) ys v x h e = put_tail (x ∷ xs) ys v 1 e ∙ rw one-add

pub rest_room : (xs : List ℕ) (x n : ℕ) → n < length xs → n ≤ length (take (length (set xs 0 x) - 1) (drop 1 (set xs 0 x)))
rest_room xs x n h = tail_room (set xs 0 x) 1 n (simp length-set (omega arith))

-- x was stored at 0, and L put from 1 on
pub put_after : {L xs ys : List ℕ} {n : ℕ} (x : ℕ) → 0 < length xs → Put L (take (length (set xs 0 x) - 1) (drop 1 (set xs 0 x))) ys n
    → Put (x ∷ L) xs (take 1 (set xs 0 x) ++ (ys ++ drop (length (set xs 0 x) - 1) (drop 1 (set xs 0 x)))) (1 + n)
put_after {L} {xs} {ys} {n} x h p =
    record { count = rw (p.count, one-add); is = put_rest xs ys L x h p.is ∙ rw one-add }

-- L was put, and M after it, into what was lent as `&mut s[a..]`
pub put_then : {L M xs ys zs : List ℕ} {n k a : ℕ} → a ≡ length L → Put L xs ys n → Put M (take (length ys - a) (drop a ys)) zs k
    → Put (L ++ M) xs (take a ys ++ (zs ++ drop (length ys - a) (drop a ys))) (length (L ++ M))
put_then {L} {M} {xs} {ys} {zs} {n} {k} {a} e p q =
    record {
      count = refl;
      is = put_tail ys zs M a q.is ∙ rw (p.is, e, take-append_seam, drop-append-add, drop-drop, length-append, append_assoc);
    }

-- what was put fills the whole room
pub put_all : {L xs ys : List ℕ} {n : ℕ} → Put L xs ys n → length xs ≡ length L → ys ≡ L
put_all {L} {xs} p e =
    let h : length xs ≤ length L = omega arith in
    p.is ∙ rw (drop_of_length-le xs h, append-nil)

-- one byte more, stored behind what was put at the start
pub byte_more : (done was : List ℕ) (at x : ℕ) → length done ≡ at → at < length was
    → set (done ++ drop at was) at x ≡ (done ++ (x ∷ [])) ++ drop (at + 1) was
byte_more done was at x e h =
    let next : drop at was ≡ get_or was at 0 ∷ drop (at + 1) was = rw (add-one, drop-cons was at 0 h) in
    rw (next, set_at done (get_or was at 0) (drop (at + 1) was) x at e, append_assoc)

-- a copy that has come to `at`: the next byte
pub byte_copied : (src was : List ℕ) (at : ℕ) → at < length src → at < length was
    → set (take at src ++ drop at was) at (get_or src at 0) ≡ take (at + 1) src ++ drop (at + 1) was
byte_copied src was at h k =
    rw (take_more src at 0 h) (byte_more (take at src) was at (get_or src at 0) (length-take-le at src (omega arith)) k)

-- .. and the n that follow in src, which are a: they go to the start of what is lent as `&mut out[at..]`
pub copied : (src was out a ys : List ℕ) (at n : ℕ) {k : ℕ} → out ≡ take at src ++ drop at was → at + n ≤ length src → length src ≤ length was
    → a ≡ take n (drop at src) → Put a (take (length out - at) (drop at out)) ys k
    → take at out ++ (ys ++ drop (length out - at) (drop at out)) ≡ take (at + n) src ++ drop (at + n) was
copied src was out a ys at n e h l f p =
    let before : length (take at src) ≡ at = length-take-le at src (omega arith) in
    let size : length a ≡ n = rw f (length-take-le n (drop at src) (simp length-drop (omega arith))) in
    let front : take at out ≡ take at src = rw e (take_at (take at src) (drop at was) at before) in
    let back : drop at out ≡ drop at was = rw e (drop_at (take at src) (drop at was) at before) in
    put_tail out ys a at p.is ∙ rw (size, front, ← drop-drop n at out, back, drop-drop n at was, f, take-add at n src, append_assoc)

-- and at the end of src
pub all_copied : (src was out : List ℕ) (at n : ℕ) → out ≡ take at src ++ drop at was → at ≡ length src → n ≡ length src → Put src was out n
all_copied src was out at n e h k = record { count = k; is = rw (e, h, take_all (length src) src (le_refl _)) }

-- a piece of n, as the library cuts a list into k of them
pub chunk_at : (n k i : ℕ) (s : List ℕ) → i < k → get_or (first_chunks n k s) i [] ≡ take n (drop (n * i) s)
chunk_at n zero i s h = absurd (omega arith)
chunk_at n (suc k) zero s h = rw mul-zero
chunk_at n (suc k) (suc i) s h =
    let e : n * suc i ≡ n + n * i = omega arith in
    rw (e, ← drop-drop (n * i) n s) (chunk_at n k i (drop n s) (omega arith))
