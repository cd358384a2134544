-- "CRC per ISO/IEC 15693: reflected polynomial 8408h, start FFFFh, complemented, low byte first."
-- The polynomial is x^16 + x^12 + x^5 + 1, lowest bit first.
-- Assumes nothing.
use Rattle.std.specs.Prelude.{ℕ, zero, suc, ◌-◌, ◌/◌, ◌%◌, List, [], ◌∷◌, eqb, if◌then◌else◌}
use Rattle.std.specs.Int.Bits.{bit_xor}

-- one bit: a shift right and, where the bit shifted out is 1, the polynomial
unfoldable pub crc_bit : ℕ → ℕ
crc_bit c = if eqb (c % 2) 1 then bit_xor (c / 2) 0x8408 else c / 2

-- k bits
unfoldable pub crc_bits : ℕ → ℕ → ℕ
crc_bits zero c = c
crc_bits (suc k) c = crc_bits k (crc_bit c)

-- one byte goes into the low eight bits, and eight bits are shifted out
unfoldable pub crc_byte : ℕ → ℕ → ℕ
crc_byte c b = crc_bits 8 (bit_xor c b)

-- the register after the bytes, from a register c
unfoldable pub crc_from : ℕ → List ℕ → ℕ
crc_from c [] = c
crc_from c (b ∷ bs) = crc_from (crc_byte c b) bs

-- start FFFFh, complemented
unfoldable pub crc_of : List ℕ → ℕ
crc_of s = 0xFFFF - crc_from 0xFFFF s

-- the two bytes that follow the bytes s in a frame, the low one first
unfoldable pub crc_bytes : List ℕ → List ℕ
crc_bytes s = crc_of s % 256 ∷ crc_of s / 256 ∷ []
