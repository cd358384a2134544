-- 02, W-204: "Work the CRC half a byte at a time from sixteen numbers, whose rule a reader can see beside them." What the numbers are, and what is
-- worked from them. That it is the CRC of `Crc` is proved: `half_is`, `byte_is`.
-- Assumes nothing.
use Rattle.std.specs.Prelude.{ℕ, zero, suc, ◌/◌, ◌%◌, List, [], ◌∷◌, map, get_or}
use Rattle.std.specs.Int.Bits.{bit_xor}
use Rattle.crc.specs.Crc.{crc_bits}

-- n numbers, each one more than the one before, from k on
unfoldable pub up_from : ℕ → ℕ → List ℕ
up_from zero k = []
up_from (suc n) k = k ∷ up_from n (suc k)

-- the rule: number k is what four bits leave of a register that holds k
unfoldable pub sixteen_numbers : List ℕ
sixteen_numbers = map (crc_bits 4) (up_from 16 0)

-- half a byte: four bits are shifted out, and their number goes into the rest
unfoldable pub half_by : List ℕ → ℕ → ℕ
half_by numbers c = bit_xor (c / 16) (get_or numbers (c % 16) 0)

-- a byte goes into the low eight bits, and two halves are shifted out
unfoldable pub byte_by : List ℕ → ℕ → ℕ → ℕ
byte_by numbers c b = half_by numbers (half_by numbers (bit_xor c b))
