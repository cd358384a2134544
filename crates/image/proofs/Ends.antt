-- The last end of a tag, from the number of its blocks.
-- Assumes nothing.
use Prim.Native.Nat.{ℕ, ◌+◌, ◌*◌}
use mathlib.Core.Path.{◌≡◌}
use native.Mathlib.Omega.{arith}
use Rattle.tag.specs.Rules.{last_end}

pub last_end_lem : (e : ℕ) → last_end (8 * (e + 1)) ≡ e
last_end_lem e = omega arith
