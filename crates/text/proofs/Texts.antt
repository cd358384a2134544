-- Texts: the definitions in the library's words, what one byte or digit more adds, and the whole. The proofs of the functions cite these laws.
-- Assumes nothing.
use mathlib.Core.Path.{◌≡◌, refl, sym, ap, ◌∙◌}
use mathlib.Core.Logic.{◌⊎◌, inl, inr, ⊎_elim}
use mathlib.Core.Bool.{Bool, true, false, and-false, and-eq-true_iff}
use mathlib.Core.List.{List, [], ◌∷◌, ◌++◌, append_assoc}
use Prim.Native.Nat.{ℕ, zero, suc, ◌+◌, ◌*◌, ◌/◌, ◌%◌, ◌^◌, ◌≤◌, ◌<◌}
use native.Mathlib.Nat.{pow-succ', add-zero}
use native.Mathlib.Omega.{arith}
use lib.ListN.{length, get_or, take, drop, set, length-append, length-drop}
use lib.Seq.{length-take-le}
use Rattle.std.proofs.lemmas.List.{take_more, get_or-take, get_or-drop}
use Rattle.std.specs.Simd.{first_chunks}
use lib.Dec.{leb, ltb, eqb}
use lib.Pointwise.{pointwise}
use borrow.Author.Tests.{ne_eqb, leb-true, lt-ltb, le-ltb, ltb-true, ltb-false}
use Rattle.put.specs.Put.{Put}
use Rattle.put.proofs.Lists.{byte_more, chunk_at}
use Rattle.text.proofs.Pieces.{put_one, put_last}
use Rattle.std.specs.List.{list_all}
use Rattle.text.specs.Text.{hex_digit, hex_of, hex_or, is_figure, is_letter, is_digit, all_digits, value_of, bytes_in, decimal, decimal_of}

pub less_or_not : (a b : ℕ) → (a < b) ⊎ (b ≤ a)
less_or_not a b = go (ltb a b) refl
  where
    go : (t : Bool) → ltb a b ≡ t → (a < b) ⊎ (b ≤ a)
    go true e = inl (ltb-true a b e)
    go false e = inr (ltb-false a b e)

-- ---- digits

-- the library's test of all elements
pub all_as_list : (s : List ℕ) → all_digits s ≡ list_all (λ d. is_digit d) s
unfolding all_digits
all_as_list [] = refl
all_as_list (d ∷ s) = rw (all_as_list s)

pub figure_range : (d : ℕ) → is_figure d ≡ true → (0x30 ≤ d) × (d ≤ 0x39)
figure_range d h =
    let e = (and-eq-true_iff (leb 0x30 d) (leb d 0x39)).0 h in
    (leb-true 0x30 d e.0, leb-true d 0x39 e.1)

pub letter_range : (d : ℕ) → is_letter d ≡ true → (0x41 ≤ d) × (d ≤ 0x46)
letter_range d h =
    let e = (and-eq-true_iff (leb 0x41 d) (leb d 0x46)).0 h in
    (leb-true 0x41 d e.0, leb-true d 0x46 e.1)

pub value_most : (d : ℕ) → value_of d ≤ 15
unfolding value_of
value_most d = go (is_figure d) (is_letter d) refl refl
  where
    go : (t u : Bool) → is_figure d ≡ t → is_letter d ≡ u → value_of d ≤ 15
    go true u e f = rw e (omega (arith, (figure_range d e).1))
    go false true e f = rw (e, f) (omega (arith, (letter_range d f).1))
    go false false e f = rw (e, f) (omega arith)

-- ---- pairs of digits

pub bytes_length : (s : List ℕ) → 2 * length (bytes_in s) ≤ length s
unfolding bytes_in
bytes_length [] = omega arith
bytes_length (h ∷ []) = omega arith
bytes_length (h ∷ l ∷ s) = omega (arith, bytes_length s)

-- half as many bytes as digits
pub bytes_count : (s : List ℕ) → length (bytes_in s) ≡ length s / 2
unfolding bytes_in
bytes_count [] = refl
bytes_count (h ∷ []) = refl
bytes_count (h ∷ l ∷ s) = omega (arith, bytes_count s)

-- one pair more
pub pair_more : (i : ℕ) (s : List ℕ) → 2 * i + 1 < length s
    → bytes_in (take (2 * (i + 1)) s) ≡ bytes_in (take (2 * i) s) ++ ((16 * value_of (get_or s (2 * i) 0) + value_of (get_or s (2 * i + 1) 0)) ∷ [])
unfolding bytes_in
pair_more i [] h = absurd (omega arith)
pair_more i (x ∷ []) h = absurd (omega arith)
pair_more zero (x ∷ y ∷ s) h = refl
pair_more (suc i) (x ∷ y ∷ s) h =
    let more : 2 * (suc i + 1) ≡ suc (suc (2 * (i + 1))) = omega arith in
    let low : 2 * suc i + 1 ≡ suc (suc (2 * i + 1)) = omega arith in
    let high : 2 * suc i ≡ suc (suc (2 * i)) = omega arith in
    rw (more, low, high, pair_more i s (omega arith))

-- all of them: an odd digit at the end counts for nothing
pub all_pairs : (s : List ℕ) → bytes_in (take (2 * (length s / 2)) s) ≡ bytes_in s
unfolding bytes_in
all_pairs [] = refl
all_pairs (x ∷ []) = refl
all_pairs (x ∷ y ∷ s) = let e : 2 * (length (x ∷ y ∷ s) / 2) ≡ suc (suc (2 * (length s / 2))) = omega arith in rw (e, all_pairs s)

-- the byte of a pair, as the library cuts the pairs out, stored behind those before it
pub pair_put : (i : ℕ) (s was : List ℕ) → i < length s / 2 → i < length was → let pair = get_or (first_chunks 2 (length s / 2) s) i [] in
    set (bytes_in (take (2 * i) s) ++ drop i was) i (16 * value_of (get_or pair 0 0) + value_of (get_or pair 1 0))
    ≡ bytes_in (take (2 * (i + 1)) s) ++ drop (i + 1) was
pair_put i s was h room =
    let pair = get_or (first_chunks 2 (length s / 2) s) i [] in
    let cut : pair ≡ take 2 (drop (2 * i) s) = chunk_at 2 (length s / 2) i s h in
    let high : get_or pair 0 0 ≡ get_or s (2 * i) 0 = rw (cut, get_or-take 2 (drop (2 * i) s) 0 0 (omega arith), get_or-drop, add-zero) in
    let low : get_or pair 1 0 ≡ get_or s (2 * i + 1) 0 = rw (cut, get_or-take 2 (drop (2 * i) s) 1 0 (omega arith), get_or-drop) in
    let size : length (bytes_in (take (2 * i) s)) ≡ i = bytes_count (take (2 * i) s) ∙ rw (length-take-le (2 * i) s (omega arith)) (omega arith) in
    rw (high, low, byte_more (bytes_in (take (2 * i) s)) was i _ size room, pair_more i s (omega arith))

-- ---- bytes in hex

pub hex_length : (s : List ℕ) → length (hex_of s) ≡ 2 * length s
unfolding hex_of
hex_length [] = refl
hex_length (b ∷ s) = omega (arith, hex_length s)

-- bytes of which there are at most n, or a mark
pub hex_or_most : (mark : ℕ) (s : List ℕ) (n : ℕ) → 1 ≤ n → length s ≤ n → length (hex_or mark s) ≤ 2 * n
unfolding hex_or
hex_or_most mark [] n one h = omega arith
hex_or_most mark (b ∷ s) n one h = rw (ne_eqb (length (b ∷ s)) 0 (λ e. omega arith)) (omega (arith, hex_length (b ∷ s)))

-- of two lists of bytes
hex_append : (s t : List ℕ) → hex_of (s ++ t) ≡ hex_of s ++ hex_of t
unfolding hex_of
hex_append [] t = refl
hex_append (b ∷ s) t = rw (hex_append s t)

-- one byte more, whose two digits are stored one after the other
pub hex_more : (i : ℕ) (s was : List ℕ) → i < length s → 2 * length s ≤ length was
    → set (set (hex_of (take i s) ++ drop (2 * i) was) (2 * i) (hex_digit (get_or s i 0 / 16))) (2 * i + 1) (hex_digit (get_or s i 0 % 16))
    ≡ hex_of (take (i + 1) s) ++ drop (2 * (i + 1)) was
unfolding hex_of
hex_more i s was h room =
    let done = hex_of (take i s) in
    let high = hex_digit (get_or s i 0 / 16) in
    let low = hex_digit (get_or s i 0 % 16) in
    let size : length done ≡ 2 * i = hex_length (take i s) ∙ rw (length-take-le i s (omega arith)) in
    let next : 2 * (i + 1) ≡ 2 * i + 1 + 1 = omega arith in
    let more : hex_of (take (i + 1) s) ≡ (done ++ (high ∷ [])) ++ (low ∷ []) = rw (take_more s i 0 h, hex_append, append_assoc) in
    let first = byte_more done was (2 * i) high size (omega arith) in
    let second = byte_more (done ++ (high ∷ [])) was (2 * i + 1) low (simp length-append (omega arith)) (omega arith) in
    rw (first, second, more, next)

-- ---- decimal digits

pub one_digit : (k n : ℕ) → n < 10 → decimal k n ≡ (0x30 + n) ∷ []
unfolding decimal
one_digit zero n h = refl
one_digit (suc k) n h = rw (lt-ltb n 10 h)

pub more_digits : (k n : ℕ) → 10 ≤ n → decimal (suc k) n ≡ decimal k (n / 10) ++ ((0x30 + n % 10) ∷ [])
unfolding decimal
more_digits k n h = rw (le-ltb n 10 h)

pub decimal_length : (k n : ℕ) → length (decimal k n) ≤ k + 1
unfolding decimal
decimal_length zero n = omega arith
decimal_length (suc k) n =
    ⊎_elim
    (λ l. rw (one_digit (suc k) n l) (omega arith))
    (λ g. rw (more_digits k n g) (simp length-append (omega (arith, decimal_length k (n / 10)))))
    (less_or_not n 10)

tenth : (n b : ℕ) → n < 10 * b → n / 10 < b
tenth n b h = omega arith

-- what a power of ten bounds has no further digit
enough : (k n : ℕ) → n < 10 ^ (k + 1) → decimal (suc k) n ≡ decimal k n
enough zero n h = one_digit 1 n h ∙ sym (one_digit 0 n h)
enough (suc k) n h =
    ⊎_elim
    (λ l. one_digit (suc (suc k)) n l ∙ sym (one_digit (suc k) n l))
    (λ g.
    let e : suc k + 1 ≡ suc (k + 1) = omega arith in
    let fewer = enough k (n / 10) (tenth n (10 ^ (k + 1)) (rw (e, pow-succ') at h)) in
    more_digits (suc k) n g ∙ ap (λ (ds : List ℕ). ds ++ ((0x30 + n % 10) ∷ [])) fewer ∙ sym (more_digits k n g))
    (less_or_not n 10)

-- a number of 64 bits, written where it has room: its one digit, or its last one after those of a tenth
module _ (n : ℕ) (out : List ℕ) (room : length (decimal_of n) ≤ length out) where
  pub one_room : n < 10 → 0 < length out
  one_room h = omega (arith, ap length (one_digit 19 n h))

  pub one_put : n < 10 → Put (decimal_of n) out (set out 0 (0x30 + n)) 1
  one_put h = rw (one_digit 19 n h) (put_one out (0x30 + n) (one_room h))

  module _ (g : 10 ≤ n) (h : n < 2 ^ 64) where
    digits : decimal_of n ≡ decimal_of (n / 10) ++ ((0x30 + n % 10) ∷ [])
    digits =
        more_digits 18 n g ∙ ap (λ (ds : List ℕ). ds ++ ((0x30 + n % 10) ∷ [])) (sym (enough 18 (n / 10) (tenth n (10 ^ 19) (omega arith))))

    fewer : length (decimal_of (n / 10)) < length out
    fewer = omega (arith, simp length-append at (ap length digits))

    pub tenth_room : length (decimal_of (n / 10)) ≤ length out
    tenth_room = omega (arith, fewer)

    pub last_room : {ys : List ℕ} {k : ℕ} → Put (decimal_of (n / 10)) out ys k → k < length ys
    last_room p = omega (arith, fewer, p.count, simp (length-append, length-drop) at (ap length p.is))

    pub last_put : {ys : List ℕ} {k : ℕ} → Put (decimal_of (n / 10)) out ys k → Put (decimal_of n) out (set ys k (0x30 + n % 10)) (k + 1)
    last_put p = rw digits (put_last (0x30 + n % 10) p (rw digits at room))
