-- "51 to 63 zero", read as two numbers of eight bytes.
-- Assumes nothing.
use Prim.Native.Nat.{ℕ, zero, suc, ◌+◌, ◌*◌}
use native.Mathlib.Omega.{arith}
use mathlib.Core.Path.{◌≡◌, refl}
use mathlib.Core.Bool.{◌&&◌}
use mathlib.Core.List.{List}
use lib.Dec.{eqb}
use Rattle.std.proofs.lemmas.Bool.Decides.{nat_tests}
use Rattle.put.specs.Number.{number_at}
use Rattle.tag.specs.Image.{zeros, reserved_rule}

-- a number is zero where its bytes are
zero_sum : (x n : ℕ) → eqb (x + 256 * n) 0 ≡ (eqb x 0 && eqb n 0)
zero_sum x n = grind (arith, nat_tests)

zero_number : (k : ℕ) (s : List ℕ) (at : ℕ) → eqb (number_at k s at) 0 ≡ zeros k s at
unfolding number_at zeros
zero_number zero s at = refl
zero_number (suc k) s at = rw (zero_sum, zero_number k s (at + 1))

pub two_numbers : (s : List ℕ) → (eqb (number_at 8 s 51) 0 && eqb (number_at 8 s 56) 0) ≡ reserved_rule s
unfolding zeros reserved_rule
two_numbers s = rw (zero_number 8 s 51, zero_number 8 s 56) (grind (arith, nat_tests))
