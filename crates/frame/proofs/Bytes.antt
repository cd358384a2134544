-- Bytes of a part of a frame.
-- Assumes nothing.
use mathlib.Core.Path.{◌≡◌, refl}
use mathlib.Core.List.{List}
use Prim.Native.Nat.{ℕ, zero, suc, ◌+◌}
use native.Mathlib.Nat.{add_assoc, add-zero}
use lib.ListN.{drop}
use lib.Seq.{get_or-drop}
use Rattle.put.specs.Number.{number_at}

-- a number that is read from a place of a list on, and the same from the start of what lies there
number_from_lem : (k : ℕ) (s : List ℕ) (a i : ℕ) → number_at k (drop a s) i ≡ number_at k s (a + i)
unfolding number_at
number_from_lem zero s a i = refl
number_from_lem (suc k) s a i = rw (get_or-drop, number_from_lem k s a (i + 1), add_assoc)

pub number_here : (k : ℕ) (s : List ℕ) (a : ℕ) → number_at k (drop a s) 0 ≡ number_at k s a
number_here k s a = rw (number_from_lem, add-zero)
