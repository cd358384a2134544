-- The image's byte of locks: five bits make it up, and stand in their places in it.
-- Assumes nothing.
use Prim.Native.Nat.{ℕ, zero, suc, ◌+◌, ◌*◌, ◌/◌, ◌%◌, ◌^◌, ◌<◌}
use native.Mathlib.Nat.{div-div-eq-div-mul}
use native.Mathlib.Omega.{arith}
use mathlib.Core.Path.{◌≡◌, refl, sym, ap, ◌∙◌}
use mathlib.Core.Bool.{Bool, true, false}
use lib.Dec.{leb, eqb}
use borrow.Author.Tests.{leb-true, le-leb}
use Rattle.rights.specs.Registers.{one_if}
use Rattle.rights.proofs.Ranges.{at_most_one}
use Rattle.tag.specs.Frame.{bit}

-- ---- from the byte to its bits

-- a bit, as a number
bit_number : (k n : ℕ) → one_if (bit k n) ≡ n / 2 ^ k % 2
bit_number k n = go (n / 2 ^ k % 2) (omega arith)
  where
    go : (r : ℕ) → r < 2 → one_if (eqb r 1) ≡ r
    go zero h = refl
    go (suc zero) h = refl
    go (suc (suc r)) h = absurd (omega arith)

pub bits_byte : (n : ℕ) → leb n 0x1F ≡ true → one_if (bit 0 n) + 2 * one_if (bit 1 n) + 4 * one_if (bit 2 n) + 8 * one_if (bit 3 n) + 16 * one_if (bit 4 n) ≡ n
bits_byte n h =
    let e : n / 2 ^ 2 ≡ n / 2 / 2 = sym (div-div-eq-div-mul n 2 2) in
    let f : n / 2 ^ 3 ≡ n / 2 / 2 / 2 = sym (div-div-eq-div-mul n 4 2) ∙ ap (λ (q : ℕ). q / 2) e in
    let g : n / 2 ^ 4 ≡ n / 2 / 2 / 2 / 2 = sym (div-div-eq-div-mul n 8 2) ∙ ap (λ (q : ℕ). q / 2) f in
    rw (bit_number 0 n, bit_number 1 n, bit_number 2 n, bit_number 3 n, bit_number 4 n, e, f, g) (omega (arith, leb-true n 0x1F h))

-- ---- from bits to their byte

is_bit : (k n : ℕ) (b : Bool) → n / 2 ^ k % 2 ≡ one_if b → bit k n ≡ b
is_bit k n true e = rw e
is_bit k n false e = rw e

-- n has no bits but these
pub record Bits (n : ℕ) (a b c d e : Bool) : Type 0 where
  pub most : leb n 0x1F ≡ true
  pub bit0 : bit 0 n ≡ a
  pub bit1 : bit 1 n ≡ b
  pub bit2 : bit 2 n ≡ c
  pub bit3 : bit 3 n ≡ d
  pub bit4 : bit 4 n ≡ e

pub byte_bits : (a b c d e : Bool) → Bits (one_if a + 2 * one_if b + 4 * one_if c + 8 * one_if d + 16 * one_if e) a b c d e
byte_bits a b c d e =
    let n = one_if a + 2 * one_if b + 4 * one_if c + 8 * one_if d + 16 * one_if e in
    let p = at_most_one a in
    let q = at_most_one b in
    let r = at_most_one c in
    let s = at_most_one d in
    let t = at_most_one e in
    record {
      most = le-leb n 0x1F (omega arith);
      bit0 = is_bit 0 n a (omega arith);
      bit1 = is_bit 1 n b (omega arith);
      bit2 = is_bit 2 n c (omega arith);
      bit3 = is_bit 3 n d (omega arith);
      bit4 = is_bit 4 n e (omega arith);
    }
