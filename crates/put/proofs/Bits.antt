-- Shifts of a number of 64 bits by any count.
-- Assumes nothing.
use mathlib.Core.Path.{◌≡◌, ◌∙◌}
use Prim.Native.Nat.{ℕ, ◌/◌, ◌%◌, ◌^◌, ◌*◌, ◌≤◌, ◌<◌}
use native.Mathlib.Nat.{lt_of_lt_of_le, mod-eq_of_lt, div-eq_of_lt, one-mul}
use native.Mathlib.Omega.{arith}
use lib.Dec.{lit<}
use lib.Pow.{pow_pos, pow_mono, shl_exact}

-- past all bits
module _ {n count : ℕ} (h : n < 2 ^ 64) (k : 64 ≤ count) where
  below : n < 2 ^ count
  below = lt_of_lt_of_le h (pow_mono k)

  pub all_low : n % 2 ^ count ≡ n
  all_low = mod-eq_of_lt below

  pub none_high : n / 2 ^ count ≡ 0
  none_high = div-eq_of_lt below

-- one bit, shifted within the number
pub one_shifted : (count : ℕ) → count < 64 → 1 * 2 ^ count % 2 ^ 64 ≡ 2 ^ count
one_shifted count h = shl_exact 1 count 64 (lit< tt) (omega arith) ∙ one-mul (2 ^ count)

pub shifted_pos : (count : ℕ) → count < 64 → 0 < 1 * 2 ^ count % 2 ^ 64
shifted_pos count h = rw (one_shifted count h) (pow_pos count)
