-- 02, "Where a header is wrong": exactly the images that 01 refuses are refused, and the byte that is named is "the lowest offending byte".
-- Assumes nothing.
use Prim.Native.Nat.{ℕ, zero, suc, ◌+◌, ◌≤◌, ◌<◌}
use native.Mathlib.Omega.{arith}
use mathlib.Core.Path.{◌≡◌, refl, sym, ◌∙◌}
use mathlib.Core.Bool.{Bool, true, false, not, ◌&&◌}
use mathlib.Core.List.{List}
use lib.ListN.{get_or}
use lib.Dec.{ltb, eqb}
use borrow.Author.Tests.{eqb-true, eqb-false, eq-eqb, ne_eqb, ltb-true, ltb-false, le-leb, lt-leb}
use Rattle.std.specs.Prelude.{if◌then◌else◌}
use Rattle.rights.specs.Registers.{register_rule, end_rule, pair_rule, possible}
use Rattle.rights.proofs.Cases.{if_one, and_false, both}
use Rattle.record.specs.declared.Tag.{Tag}
use Rattle.tag.specs.Rules.{blocks_of, last_end}
use Rattle.tag.specs.Image.{areas_in, mark_rule, lock_rule, zeros, reserved_rule, header_rule}
use Rattle.tag.specs.Fault.{Fault, fault, reserved_fault, first_fault, header_fault, is_reserved, offends, letter_of}
use Rattle.tag.specs.Host.{fits_image, is_image, load_given}
use Rattle.tag.proofs.Refused.{load_number, load_place}

-- ---- "the lowest offending byte's place"

-- what is said of a byte that is named: the letter is that of its place, it offends, and none before it does
pub record Named (blocks : ℕ) (i : List ℕ) (number place : ℕ) : Type 0 where
  pub letter : number ≡ letter_of place
  pub offending : offends blocks i place ≡ true
  pub lowest : (n : ℕ) → n < place → offends blocks i n ≡ false

module _ (blocks : ℕ) (i : List ℕ) where
  -- a fault names a byte, and where there is none no byte offends
  record Judged (f : Fault) : Type 0 where
    named : (f.number ≡ 0 → ⊥) → Named blocks i f.number f.place
    clean : f.number ≡ 0 → (n : ℕ) → offends blocks i n ≡ false

  abbrev Before : ℕ → Type 0
  Before k = (n : ℕ) → n < k → offends blocks i n ≡ false

  found : (number place : ℕ) → 0 < number → number ≡ letter_of place → offends blocks i place ≡ true → Before place → Judged (fault number place)
  found number place some l o b = record { named = λ h. record { letter = l; offending = o; lowest = b }; clean = λ h. absurd (omega arith) }

  next : (k : ℕ) → Before k → offends blocks i k ≡ false → Before (k + 1)
  next k b h n l = go (eqb n k) refl
    where
      go : (c : Bool) → eqb n k ≡ c → offends blocks i n ≡ false
      go true e = rw (eqb-true n k e) h
      go false e = b n (omega (arith, eqb-false n k e))

  skip : (k j : ℕ) → Before k → ((n : ℕ) → k ≤ n → n < j → offends blocks i n ≡ false) → Before j
  skip k j b h n l = go (ltb n k) refl
    where
      go : (c : Bool) → ltb n k ≡ c → offends blocks i n ≡ false
      go true e = b n (ltb-true n k e)
      go false e = h n (ltb-false n k e) l

  -- a byte without a rule
  no_rule : (n : ℕ) → letter_of n ≡ 0 → offends blocks i n ≡ false
  unfolding offends
  no_rule n h = rw h

  -- those that are not 0 nor 11 to 18 have a rule only if they are reserved
  module _ (n : ℕ) (some : 0 < n) (other : 11 ≤ n → 18 < n) where
    apart : (k : ℕ) → 11 ≤ k → k ≤ 18 → eqb n k ≡ false
    apart k l m = ne_eqb n k (λ e. let h = other (omega arith) in omega arith)

    letter_else : letter_of n ≡ (if is_reserved n then 0x5E else 0)
    unfolding letter_of
    letter_else =
        rw (
          ne_eqb n 0 (λ e. omega arith),
          apart 11 (omega arith) (omega arith),
          apart 12 (omega arith) (omega arith),
          apart 13 (omega arith) (omega arith),
          apart 14 (omega arith) (omega arith),
          apart 15 (omega arith) (omega arith),
          apart 16 (omega arith) (omega arith),
          apart 17 (omega arith) (omega arith),
          apart 18 (omega arith) (omega arith),
        )

    free : n < 51 → offends blocks i n ≡ false
    free l = no_rule n (rw (letter_else, lt-leb _ _ l))

    past : 64 ≤ n → offends blocks i n ≡ false
    past l = no_rule n (rw (letter_else, lt-leb n 63 (omega arith), and_false))

    zero_letter : 51 ≤ n → n < 64 → 0x5E ≡ letter_of n
    zero_letter l m = rw (letter_else, le-leb 51 n l, le-leb n 63 (omega arith))

  -- a reserved byte
  zero_rule : (n : ℕ) → 0x5E ≡ letter_of n → offends blocks i n ≡ not (eqb (get_or i n 0) 0)
  unfolding offends
  zero_rule n h = rw (← h)

  reserved : (k at : ℕ) → 51 ≤ at → at + k ≡ 64 → Before at → Judged (reserved_fault k i at)
  unfolding reserved_fault
  reserved zero at l e b =
      let end : at ≡ 64 = omega arith in
      record { named = λ h. absurd (h refl); clean = λ h n. skip at (suc n) b (λ k m o. past k (omega arith) (λ p. omega arith) (omega arith)) n (omega arith) }
  reserved (suc k) at l e b =
      let letter = zero_letter at (omega arith) (λ h. omega arith) l (omega arith) in
      if_one Judged (not (eqb (get_or i at 0) 0))
      (λ q. found 0x5E at (omega arith) letter (zero_rule at letter ∙ q) b)
      (λ q. reserved k (at + 1) (omega arith) (omega arith) (next at b (zero_rule at letter ∙ q)))

  judged : Judged (header_fault blocks i)
  unfolding header_fault first_fault offends letter_of
  judged =
      let e = last_end blocks in
      let a = areas_in i in
      if_one Judged (not (mark_rule i)) (λ q. found 0x5A 0 (omega arith) refl q (λ n l. absurd (omega arith))) (λ q.
      let b = skip 1 11 (next 0 (λ n l. absurd (omega arith)) q) (λ n l m. free n (omega arith) (λ h. omega arith) (omega arith)) in
      if_one Judged (not (lock_rule i)) (λ q. found 0x5B 11 (omega arith) refl q b) (λ q.
      let c = next 11 b q in
      if_one Judged (not (register_rule a.rfa1ss)) (λ q. found 0x5C 12 (omega arith) refl q c) (λ q.
      let d = next 12 c q in
      if_one Judged (not (end_rule e a.enda1)) (λ q. found 0x5D 13 (omega arith) refl q d) (λ q.
      let f = next 13 d q in
      if_one Judged (not (register_rule a.rfa2ss)) (λ q. found 0x5C 14 (omega arith) refl q f) (λ q.
      let g = next 14 f q in
      if_one Judged (not (end_rule e a.enda2 && pair_rule e a.enda1 a.enda2)) (λ q. found 0x5D 15 (omega arith) refl q g) (λ q.
      let h = next 15 g q in
      if_one Judged (not (register_rule a.rfa3ss)) (λ q. found 0x5C 16 (omega arith) refl q h) (λ q.
      let j = next 16 h q in
      if_one Judged (not (end_rule e a.enda3 && pair_rule e a.enda2 a.enda3)) (λ q. found 0x5D 17 (omega arith) refl q j) (λ q.
      let k = next 17 j q in
      if_one Judged (not (register_rule a.rfa4ss)) (λ q. found 0x5C 18 (omega arith) refl q k) (λ q.
      reserved 13 51 (omega arith) refl (skip 19 51 (next 18 k q) (λ n l m. free n (omega arith) (λ h. omega arith) m)))))))))))

-- ---- "Exactly the same images are refused."

reserved_faultless : (k : ℕ) (i : List ℕ) (at : ℕ) → eqb (reserved_fault k i at).number 0 ≡ zeros k i at
unfolding reserved_fault zeros
reserved_faultless zero i at = refl
reserved_faultless (suc k) i at = go (eqb (get_or i at 0) 0) (reserved_fault k i (at + 1)) (reserved_faultless k i (at + 1))
  where
    go : (a : Bool) {z : Bool} (f : Fault) → eqb f.number 0 ≡ z → eqb (if not a then fault 0x5E at else f).number 0 ≡ (a && z)
    go true f h = h
    go false f h = refl

-- a header has no fault exactly if it keeps 01's rules
pub faultless : (blocks : ℕ) (i : List ℕ) → eqb (header_fault blocks i).number 0 ≡ header_rule blocks i
unfolding header_fault first_fault header_rule possible reserved_rule
faultless blocks i =
    let e = last_end blocks in
    let a = areas_in i in
    go (mark_rule i) (lock_rule i) (register_rule a.rfa1ss) (end_rule e a.enda1)
    (register_rule a.rfa2ss) (end_rule e a.enda2 && pair_rule e a.enda1 a.enda2)
    (register_rule a.rfa3ss) (end_rule e a.enda3 && pair_rule e a.enda2 a.enda3)
    (register_rule a.rfa4ss) (reserved_fault 13 i 51) (reserved_faultless 13 i 51)
  where
    go : (m l r s t u v w x : Bool) (f : Fault) {z : Bool} → eqb f.number 0 ≡ z
        → eqb (if not m then fault 0x5A 0 else if not l then fault 0x5B 11 else
        if not r then fault 0x5C 12 else if not s then fault 0x5D 13 else
        if not t then fault 0x5C 14 else if not u then fault 0x5D 15 else
        if not v then fault 0x5C 16 else if not w then fault 0x5D 17 else if not x then fault 0x5C 18 else f).number 0
        ≡ ((m && l) && ((((r && s) && (t && u)) && ((v && w) && x)) && z))
    go false l r s t u v w x f h = refl
    go true false r s t u v w x f h = refl
    go true true false s t u v w x f h = refl
    go true true true false t u v w x f h = refl
    go true true true true false u v w x f h = refl
    go true true true true true false v w x f h = refl
    go true true true true true true false w x f h = refl
    go true true true true true true true false x f h = refl
    go true true true true true true true true false f h = refl
    go true true true true true true true true true f h = h

-- a header that breaks 01's rules has a fault, and it names a byte
module _ (blocks : ℕ) (i : List ℕ) (wrong : header_rule blocks i ≡ false) where
  pub some_fault : (header_fault blocks i).number ≡ 0 → ⊥
  some_fault = eqb-false _ 0 (faultless blocks i ∙ wrong)

  pub fault_named : Named blocks i (header_fault blocks i).number (header_fault blocks i).place
  fault_named = (judged blocks i).named some_fault

-- ---- loading

module _ (t : Tag) (i m : List ℕ) where
  -- "Exactly the same images are refused.": loading is done where 01 has it done
  pub same_images : eqb (load_given t i m).number 0 ≡ (is_image i && (fits_image m i && header_rule (blocks_of m) i))
  same_images = rw (load_number t i m) (go (is_image i) (fits_image m i) (header_rule (blocks_of m) i) refl)
    where
      go : (a b c : Bool) → header_rule (blocks_of m) i ≡ c
          → eqb (if not a then 4 else if not b then 1 else if not c then (header_fault (blocks_of m) i).number else 0) 0 ≡ (a && (b && c))
      go false b c h = refl
      go true false c h = refl
      go true true false h = ne_eqb _ 0 (some_fault (blocks_of m) i h)
      go true true true h = refl

  -- where number 4 or 1 is not due, the number and the place of a refusal name the lowest offending byte
  pub load_named : is_image i ≡ true → fits_image m i ≡ true → ((load_given t i m).number ≡ 0 → ⊥)
      → Named (blocks_of m) i (load_given t i m).number (load_given t i m).place
  load_named a b h = go (header_rule (blocks_of m) i) refl
    where
      go : (c : Bool) → header_rule (blocks_of m) i ≡ c → Named (blocks_of m) i (load_given t i m).number (load_given t i m).place
      go false e = rw (load_number t i m, load_place t i m, a, b, e) (fault_named (blocks_of m) i e)
      go true e = absurd (h (eqb-true _ 0 (rw (same_images, a, b, e))))

  -- and in an image that is loaded no byte offends
  pub load_clean : (load_given t i m).number ≡ 0 → (n : ℕ) → offends (blocks_of m) i n ≡ false
  load_clean h =
      let rest = (both (is_image i) (fits_image m i && header_rule (blocks_of m) i) (sym same_images ∙ eq-eqb _ 0 h)).1 in
      (judged (blocks_of m) i).clean (eqb-true _ 0 (faultless (blocks_of m) i ∙ (both (fits_image m i) (header_rule (blocks_of m) i) rest).1))
