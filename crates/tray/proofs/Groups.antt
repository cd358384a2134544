-- A number's four bits from a place on, and one more there.
-- Assumes nothing.
use mathlib.Core.Path.{◌≡◌, refl}
use mathlib.Core.Bool.{Bool, true, false}
use Prim.Native.Nat.{ℕ, ◌+◌, ◌*◌, ◌-◌, ◌/◌, ◌%◌, ◌^◌, ◌≤◌, ◌<◌}
use native.Mathlib.Nat.{add-div_right, add-mul-div_right, div-lt_iff_lt-mul}
use native.Mathlib.Omega.{arith}
use lib.Dec.{ltb}
use lib.Pow.{pow_pos, pow-add, shr-shr, shr_lt}
use borrow.Author.Tests.{ltb-true, ltb-false}
use Rattle.put.proofs.Bits.{one_shifted}
use Rattle.tag.specs.Inventory.{next_four}
use Rattle.tray.specs.Steps.{Counted}

-- four bits below stay: what is added is a multiple of their end
below_stay : (n at other : ℕ) → other + 4 ≤ at → next_four (n + 2 ^ at) other ≡ next_four n other
below_stay n at other l =
    let d = at - (other + 4) in
    let e : at ≡ d + 4 + other = omega arith in
    rw (e, pow-add 2 (d + 4) other, pow-add 2 d 4, add-mul-div_right n (2 ^ d * 2 ^ 4) (pow_pos other)) (omega arith)

module _ (n at : ℕ) (h : next_four n at < 15) where
  one_there : next_four (n + 2 ^ at) at ≡ next_four n at + 1
  one_there = rw (add-div_right n (pow_pos at)) (omega arith)

  -- nothing is carried out of them
  not_carried : (n + 2 ^ at) / 2 ^ (at + 4) ≡ n / 2 ^ (at + 4)
  not_carried = rw (← shr-shr n at 4, ← shr-shr (n + 2 ^ at) at 4, add-div_right n (pow_pos at)) (omega arith)

  -- .. so that four bits above stay, and the sum has no more bits
  above_stay : (other : ℕ) → at + 4 ≤ other → next_four (n + 2 ^ at) other ≡ next_four n other
  above_stay other l =
      let d = other - (at + 4) in
      let e : other ≡ at + 4 + d = omega arith in
      rw (e, ← shr-shr n (at + 4) d, ← shr-shr (n + 2 ^ at) (at + 4) d, not_carried)

  sum_fits : (bits : ℕ) → at + 4 ≤ bits → n < 2 ^ bits → n + 2 ^ at < 2 ^ bits
  sum_fits bits l m =
      let d = bits - (at + 4) in
      let e : bits ≡ d + (at + 4) = omega arith in
      let f : n / 2 ^ (at + 4) < 2 ^ d = shr_lt d (at + 4) (rw e at m) in
      rw (e, pow-add 2 d (at + 4)) ((div-lt_iff_lt-mul (pow_pos (at + 4))).0 (rw not_carried f))

-- ---- one answer more in a slot whose four bits do not hold 15

module _ {tally slot answers : ℕ} (l : slot < 16) (r : answers ≡ next_four tally (4 * slot)) (n : answers ≡ 15 → ⊥) where
  pub count_fits : tally < 2 ^ 64 → tally + 1 * 2 ^ (4 * slot) % 2 ^ 64 < 2 ^ 64
  count_fits h = rw (one_shifted (4 * slot) (omega arith)) (sum_fits tally (4 * slot) (omega arith) 64 (omega arith) h)

  pub counted : Counted tally slot (tally + 1 * 2 ^ (4 * slot) % 2 ^ 64)
  counted =
      rw (one_shifted (4 * slot) (omega arith))
      (record { here = omega (arith, one_there tally (4 * slot) (omega arith)); others = λ s d. other s d (ltb s slot) refl })
    where
      other : (s : ℕ) → (s ≡ slot → ⊥) → (b : Bool) → ltb s slot ≡ b → next_four (tally + 2 ^ (4 * slot)) (4 * s) ≡ next_four tally (4 * s)
      other s d true e = below_stay tally (4 * slot) (4 * s) (omega (arith, ltb-true s slot e))
      other s d false e = above_stay tally (4 * slot) (omega arith) (4 * s) (omega (arith, ltb-false s slot e))
