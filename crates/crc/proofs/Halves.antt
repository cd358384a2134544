-- The CRC, worked half a byte at a time from the sixteen numbers, is the CRC worked bit by bit.
-- Assumes nothing.
use mathlib.Core.Path.{◌≡◌, refl, sym, ap, ◌∙◌}
use Prim.Native.Nat.{ℕ, zero, suc, ◌+◌, ◌/◌, ◌%◌, ◌^◌, ◌<◌}
use native.Mathlib.Nat.{zero-add, div-one, div-eq_of_lt, mod-one, mod-lt, mod-mod}
use native.Mathlib.Numerals.{add-one, one-add}
use native.Mathlib.Omega.{arith}
use lib.Bits.{bit_xor, xor_zero_r, xor_shr, xor_mod}
use lib.Dec.{eqb}
use lib.ListN.{get_or, get_or-map}
use lib.Pow.{pow_pos, shr-shr, field, mod-mod-pow}
use Rattle.std.specs.Prelude.{◌-◌, List, [], ◌∷◌, fold, if◌then◌else◌}
use Rattle.put.proofs.Xor.{xor_assoc}
use Rattle.crc.specs.Crc.{crc_bit, crc_bits, crc_byte, crc_from, crc_of}
use Rattle.crc.specs.Halves.{up_from, sixteen_numbers, half_by, byte_by}

-- ---- the rule of the sixteen numbers, at each of them

up_from_at : (n k i : ℕ) → i < n → get_or (up_from n k) i 0 ≡ k + i
unfolding up_from
up_from_at zero k i h = absurd (omega arith)
up_from_at (suc n) k zero h = omega arith
up_from_at (suc n) k (suc i) h = up_from_at n (suc k) i (omega arith) ∙ omega arith

pub number_at_lem : (k : ℕ) → k < 16 → get_or sixteen_numbers k 0 ≡ crc_bits 4 k
unfolding sixteen_numbers crc_bits crc_bit
number_at_lem k h = get_or-map (crc_bits 4) (up_from 16 0) k 0 ∙ ap (crc_bits 4) (up_from_at 16 0 k h ∙ zero-add k)

-- ---- k bits at a time

-- what the bit that is shifted out puts into the rest
abbrev fed : ℕ → ℕ
fed zero = 0
fed (suc x) = 0x8408

bit_is : (c : ℕ) → crc_bit c ≡ bit_xor (c / 2) (fed (c % 2))
unfolding crc_bit
bit_is c = go (c % 2) (omega arith)
  where
    go : (x : ℕ) → x < 2 → (if eqb x 1 then bit_xor (c / 2) 0x8408 else c / 2) ≡ bit_xor (c / 2) (fed x)
    go zero h = sym (xor_zero_r (c / 2))
    go (suc zero) h = refl
    go (suc (suc x)) h = absurd (omega arith)

-- the low k bits are shifted out: what they leave by themselves goes into the bits above them, which move down
pub bits_apart : (k c : ℕ) → crc_bits k c ≡ bit_xor (c / 2 ^ k) (crc_bits k (c % 2 ^ k))
unfolding crc_bits
bits_apart zero c = rw (div-one c, mod-one c) (sym (xor_zero_r c))
bits_apart (suc k) c =
    let low = c % 2 ^ suc k in
    let f = fed (c % 2) in
    let h : low / 2 ≡ c / 2 % 2 ^ k = rw add-one at (field c k 1) in
    let o : low % 2 ≡ c % 2 = rw add-one at (mod-mod-pow c k 1) in
    let up : bit_xor (c / 2) f / 2 ^ k ≡ bit_xor (c / 2 ^ suc k) (f / 2 ^ k) = xor_shr (c / 2) f k ∙ rw (shr-shr c 1 k, one-add k) in
    let none : bit_xor (c / 2 % 2 ^ k) f / 2 ^ k ≡ f / 2 ^ k = xor_shr (c / 2 % 2 ^ k) f k ∙ rw (div-eq_of_lt (mod-lt (c / 2) (pow_pos k))) in
    let same : bit_xor (c / 2 % 2 ^ k) f % 2 ^ k ≡ bit_xor (c / 2) f % 2 ^ k =
    rw (xor_mod (c / 2 % 2 ^ k) f k, xor_mod (c / 2) f k, mod-mod (c / 2) (2 ^ k)) in
    rw (bit_is c, bit_is low, o, h, bits_apart k (bit_xor (c / 2) f), bits_apart k (bit_xor (c / 2 % 2 ^ k) f), up, none, same)
    (xor_assoc (c / 2 ^ suc k) (f / 2 ^ k) (crc_bits k (bit_xor (c / 2) f % 2 ^ k)))

-- ---- half a byte, and a byte

pub half_is : (c : ℕ) → half_by sixteen_numbers c ≡ crc_bits 4 c
unfolding half_by
half_is c = rw (number_at_lem (c % 16) (omega arith)) (sym (bits_apart 4 c))

pub byte_is : (c b : ℕ) → byte_by sixteen_numbers c b ≡ crc_byte c b
unfolding byte_by crc_byte crc_bits
byte_is c b = rw (half_is (bit_xor c b)) (half_is (crc_bits 4 (bit_xor c b)))

-- ---- all bytes

-- from any register, as the library folds over a list
from_is : (c : ℕ) (s : List ℕ) → fold (byte_by sixteen_numbers) c s ≡ crc_from c s
unfolding crc_from
from_is c [] = refl
from_is c (b ∷ s) = rw (byte_is c b) (from_is (crc_byte c b) s)

-- the CRC of all
pub by_halves : (s : List ℕ) → crc_of s ≡ 0xFFFF - fold (byte_by sixteen_numbers) 0xFFFF s
unfolding crc_of
by_halves s = rw (from_is 0xFFFF s)
