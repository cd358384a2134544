-- What the loops over the tray cite.
-- Assumes nothing.
use mathlib.Core.Path.{◌≡◌, refl, ◌∙◌}
use mathlib.Core.Bool.{Bool, false, ◌||◌}
use mathlib.Core.List.{List, [], ◌∷◌}
use Prim.Native.Nat.{ℕ, min, ◌+◌, ◌*◌, ◌-◌, ◌/◌, ◌%◌, ◌^◌, ◌≤◌, ◌<◌}
use native.Mathlib.Nat.{lt_of_lt_of_le, zero-div}
use native.Mathlib.Numerals.{add-one}
use native.Mathlib.Omega.{arith}
use lib.Bits.{bit_and, and_mask}
use lib.Dec.{eqb}
use lib.Pow.{pow_mono, shl_exact, ones_split, ones_lt, high}
use lib.ListN.{length, take, drop, get_or, drop_of_length-le}
use lib.Seq.{drop-cons}
use borrow.Author.Tests.{eqb-true, eqb-false}
use Rattle.std.specs.Prelude.{Option, None, Some, if◌then◌else◌}
use Rattle.std.specs.List.{list_any}
use Rattle.std.specs.Option.{option_eq}
use Rattle.put.proofs.Lists.{tail}
use Rattle.tag.specs.Inventory.{next_four, fits}
use Rattle.tray.specs.Tray.{speaks_in, those, answering, longer, is_in, any_equal}
use Rattle.tray.specs.Steps.{slot_in, Counted, Listened}
use Rattle.tray.proofs.Slots.{speaks_fits, longer_below}

-- ---- a longer mask fits 64 bits

-- a number of w ones, less its lowest
ones_left : (j k w : ℕ) → w ≡ j + k → (2 ^ w - 1) / 2 ^ k ≡ 2 ^ j - 1
ones_left j k w e = rw (e, ones_split j k) (high (2 ^ j - 1) k (ones_lt k))

module _ {mask bits slot : ℕ} (m : mask < 2 ^ bits) (b : bits ≤ 60) (s : slot < 16) where
  pub slot_shifted : slot * 2 ^ bits % 2 ^ 64 ≡ slot * 2 ^ bits
  slot_shifted = shl_exact 4 bits 64 s (omega arith)

  pub longer_fits : longer mask bits slot < 2 ^ 64
  longer_fits = let l : bits + 4 ≤ 64 = omega arith in lt_of_lt_of_le (longer_below mask bits slot m s) (pow_mono l)

  -- a UID speaks in a slot if the longer mask fits it
  pub speaks_longer : (u : ℕ) → eqb (bit_and u ((2 ^ 64 - 1) / 2 ^ (60 - bits))) (longer mask bits slot) ≡ speaks_in mask bits slot u
  unfolding fits
  speaks_longer u = rw (speaks_fits mask bits slot m u, ones_left (bits + 4) (60 - bits) 64 (omega arith), and_mask u (bits + 4))

-- ---- are two equal: the rest is lent as `&s[i + 1..]`

is_in_any : (u : ℕ) (us : List ℕ) → list_any (λ v. eqb u v) us ≡ is_in u us
unfolding is_in
is_in_any u [] = refl
is_in_any u (v ∷ us) = rw (is_in_any u us)

module _ (s : List ℕ) (i : ℕ) where
  pub equal_next : {b : Bool} → i < length s → b ≡ list_any (λ v. eqb (get_or s i 0) v) (take (length s - (i + 1)) (drop (i + 1) s))
      → any_equal (drop i s) ≡ (b || any_equal (drop (i + 1) s))
  unfolding any_equal
  equal_next h e = rw (drop-cons s i 0 h, e, tail s (i + 1), is_in_any (get_or s i 0) (drop (i + 1) s), add-one)

  pub equal_none : length s ≤ i → any_equal (drop i s) ≡ false
  unfolding any_equal
  equal_none h = rw (drop_of_length-le s h)

  -- ---- those that pass a test
  pub those_next : (test : ℕ → Bool) → i < length s
      → those test (drop i s) ≡ (if test (get_or s i 0) then get_or s i 0 ∷ those test (drop (i + 1) s) else those test (drop (i + 1) s))
  unfolding those
  those_next test h = rw (drop-cons s i 0 h, add-one)

-- a UID speaks in a slot if that is the one in which it answers
pub speaks_slot : (mask bits slot u : ℕ) → speaks_in mask bits slot u ≡ option_eq eqb (slot_in mask bits u) (Some slot)
unfolding speaks_in
speaks_slot mask bits slot u = grind (arith)

-- ---- a request is heard: the answers counted before a place, and those from it on

pub record Listening (uids : List ℕ) (mask bits tally i : ℕ) : Type 0 where
  pub answers : (slot : ℕ)
      → min 15 (next_four tally (4 * slot) + length (answering (drop i uids) mask bits slot)) ≡ min 15 (length (answering uids mask bits slot))

pub listening : (uids : List ℕ) (mask bits : ℕ) → Listening uids mask bits 0 0
listening uids mask bits = record { answers = λ slot. rw (zero-div (2 ^ (4 * slot))) (omega arith) }

module _ {uids : List ℕ} {mask bits tally i : ℕ} (a : Listening uids mask bits tally i) where
  module _ (h : i < length uids) {r : Option ℕ} (e : r ≡ slot_in mask bits (get_or uids i 0)) where
    speaks_next : (slot : ℕ) → speaks_in mask bits slot (get_or uids i 0) ≡ option_eq eqb r (Some slot)
    speaks_next slot = speaks_slot mask bits slot (get_or uids i 0) ∙ rw e

    -- the next does not answer
    pub silent_next : r ≡ None → Listening uids mask bits tally (i + 1)
    silent_next n = record { answers = λ slot. rw (those_next uids i (speaks_in mask bits slot) h, speaks_next slot, n) at (a.answers slot) }

    -- it answers in a slot
    pub answers_next : {slot after : ℕ} → r ≡ Some slot → Counted tally slot after → Listening uids mask bits after (i + 1)
    answers_next {slot} {after} n c = record {
      answers = λ other. let t = rw (those_next uids i (speaks_in mask bits other) h, speaks_next other, n) at (a.answers other) in
          grind (arith, t, c.here, c.others other, eqb-true slot other, eqb-false slot other);
    }

  pub listened : length uids ≤ i → Listened uids mask bits tally
  unfolding those
  listened h = record { answers = λ slot. omega (arith, rw (drop_of_length-le uids h) at (a.answers slot)) }
