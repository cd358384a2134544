-- What is lent after a line lies within the buffers, and what the line asks for fits it.
-- Assumes nothing.
use mathlib.Core.Path.{◌≡◌}
use mathlib.Core.List.{List}
use Prim.Native.Nat.{ℕ, ◌≤◌}
use native.Mathlib.Omega.{arith}
use lib.ListN.{length, take}
use lib.Seq.{length-take-le}
use Rattle.std.specs.Prelude.{Option, IfSome}
use Rattle.caselines.specs.Limits.{memory_most, room_most}
use Rattle.caselines.specs.Form.{Asked, form_of, Fits}
use Rattle.caselines.specs.declared.lent.Lent.{Lent}
use Rattle.caselines.specs.Lent.{lent_by, Within}
use Rattle.caselines.proofs.Fitting.{form_fits}

-- what is lent after a line
lent_fits : (f : Option Asked) (l : Lent) → IfSome f (Fits l.memory) → IfSome f (Fits (lent_by f l).memory)
lent_fits f l h = grind arith

lent_within : (f : Option Asked) (l : Lent) → IfSome f (Fits l.memory) → Within l → Within (lent_by f l)
lent_within f l h w = grind (arith, w.memory, w.room)

-- a line's form, and what is lent after it
module _ {f : Option Asked} {lent next : Lent} (l : List ℕ) (w : Within lent) (e : f ≡ form_of lent.memory l) (g : next ≡ lent_by f lent) where
  pub next_within : Within next
  next_within = rw g (lent_within f lent (rw e (form_fits lent.memory l)) w)

  -- beside the memory that is lent then
  pub next_fits : (xs : List ℕ) → length xs ≡ memory_most → IfSome f (Fits (length (take next.memory xs)))
  next_fits xs h =
      rw (length-take-le next.memory xs (omega (arith, h, next_within.memory)), g) (lent_fits f lent (rw e (form_fits lent.memory l)))

  pub room_most_lem : (xs : List ℕ) → length xs ≡ room_most → length (take next.room xs) ≤ room_most
  room_most_lem xs h = grind (arith, length-take-le next.room xs, next_within.room)
