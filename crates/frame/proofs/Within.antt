-- The fields of a frame that passes checks 2, 5 and 6 lie within it.
-- Assumes nothing.
use mathlib.Core.Path.{◌≡◌}
use mathlib.Core.Bool.{false}
use mathlib.Core.List.{List}
use Prim.Native.Nat.{ℕ, ◌≤◌}
use native.Mathlib.Omega.{arith}
use lib.ListN.{length}
use Rattle.std.proofs.lemmas.Grind.{common_steps}
use Rattle.record.specs.declared.Front.{Front}
use Rattle.tag.specs.Frame.{end_of, after_code, fields_at, other_uid, check2, check5, check6}

pub long_enough : (f : List ℕ) → check2 f ≡ false → 4 ≤ length f
unfolding check2
long_enough f two = grind (arith, common_steps)

pub within : (t : Front) (f : List ℕ) → 4 ≤ length f → check5 f ≡ false → check6 t f ≡ false → fields_at f ≤ end_of f
unfolding fields_at after_code other_uid check5 check6
within t f long five six = grind (arith, common_steps)
