-- `image::rules::reserved_fault` meets its contract: what is left to look at has the fault of the whole.
-- Assumes nothing.
use mathlib.Core.Path.{◌≡◌}
use Prim.Native.Nat.{◌-◌}
use Rattle.tag.specs.Fault.{reserved_fault}
use Rattle.image.proofs.rules.reserved_fault.Given as goal

abbrev pub invariant-loop-at : goal.invariant-loop-at
invariant-loop-at l = reserved_fault (64 - l.at) l.image l.at ≡ reserved_fault 13 l.image 51
