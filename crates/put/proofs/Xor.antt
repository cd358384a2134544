-- Laws of `bit_xor`: its half, its lowest bit, and that of three numbers the first two or the last two may be taken first.
-- Assumes nothing.
use mathlib.Core.Path.{◌≡◌, refl, sym, ◌∙◌}
use Prim.Native.Nat.{ℕ, ◌+◌, ◌/◌, ◌%◌}
use native.Mathlib.Omega.{arith}
use lib.Arith.{bin_ind}
use lib.Bits.{bit_xor, xor_add_and, xor_shr}

pub xor_half : (a b : ℕ) → bit_xor a b / 2 ≡ bit_xor (a / 2) (b / 2)
xor_half a b = xor_shr a b 1

pub xor_odd : (a b : ℕ) → bit_xor a b % 2 ≡ (a + b) % 2
xor_odd a b = omega (arith, xor_add_and a b)

-- by halves: the halves of both sides are equal, and their lowest bits
pub xor_assoc : (a b c : ℕ) → bit_xor (bit_xor a b) c ≡ bit_xor a (bit_xor b c)
xor_assoc = bin_ind (λ (n : ℕ). (b c : ℕ) → bit_xor (bit_xor n b) c ≡ bit_xor n (bit_xor b c)) (λ b c. refl) (λ n ih b c.
    let h : bit_xor (bit_xor n b) c / 2 ≡ bit_xor n (bit_xor b c) / 2 =
    rw (xor_half (bit_xor n b) c, xor_half n b, xor_half n (bit_xor b c), xor_half b c) (ih (b / 2) (c / 2)) in
    let l : bit_xor (bit_xor n b) c % 2 ≡ (n + b + c) % 2 = omega (arith, xor_odd (bit_xor n b) c, xor_odd n b) in
    let r : bit_xor n (bit_xor b c) % 2 ≡ (n + b + c) % 2 = omega (arith, xor_odd n (bit_xor b c), xor_odd b c) in
    same h (l ∙ sym r))
  where
    same : {x y : ℕ} → x / 2 ≡ y / 2 → x % 2 ≡ y % 2 → x ≡ y
    same h l = omega arith
