-- The first reserved byte that is not zero, from a place of the header on.
-- Assumes nothing.
use Prim.Native.Nat.{ℕ, suc, ◌+◌, ◌-◌, ◌<◌, ◌≤◌}
use native.Mathlib.Omega.{arith}
use mathlib.Core.Path.{◌≡◌}
use mathlib.Core.List.{List}
use lib.ListN.{get_or}
use borrow.Author.Tests.{eq-eqb, ne_eqb}
use Rattle.tag.specs.Fault.{fault, reserved_fault}

module _ (i : List ℕ) (at : ℕ) where
  left : at < 64 → 64 - at ≡ suc (64 - (at + 1))
  left within = omega arith

  pub at_fault : at < 64 → (get_or i at 0 ≡ 0 → ⊥) → reserved_fault (64 - at) i at ≡ fault 0x5E at
  unfolding reserved_fault
  at_fault within h = rw (left within, ne_eqb (get_or i at 0) 0 h)

  pub after_zero : at < 64 → get_or i at 0 ≡ 0 → reserved_fault (64 - at) i at ≡ reserved_fault (64 - (at + 1)) i (at + 1)
  unfolding reserved_fault
  after_zero within h = rw (left within, eq-eqb (get_or i at 0) 0 h)

  pub none_left : 64 ≤ at → reserved_fault (64 - at) i at ≡ fault 0 0
  unfolding reserved_fault
  none_left past = let none : 64 - at ≡ 0 = omega arith in rw none
