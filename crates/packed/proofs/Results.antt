-- Place, number and length come back from a result.
-- Assumes nothing.
use Prim.Native.Nat.{ℕ, ◌<◌}
use native.Mathlib.Omega.{arith}
use mathlib.Core.Path.{◌≡◌}
use Rattle.packed.specs.Result.{result_of, refusal_in, place_in, length_in}

module _ (place number l : ℕ) (short : number < 0x10000) (within : l < 0x100000000) where
  pub refusal_back : refusal_in (result_of place number l) ≡ number
  refusal_back = omega arith

  pub place_back : place_in (result_of place number l) ≡ place
  place_back = omega arith

  pub length_back : length_in (result_of place number l) ≡ l
  length_back = omega arith
