-- What a host takes from the result of loading is what the call gave: number and place, and length 0.
-- Assumes nothing.
use Prim.Native.Nat.{ℕ, ◌<◌}
use native.Mathlib.Omega.{arith}
use mathlib.Core.Path.{◌≡◌}
use mathlib.Core.List.{List}
use Rattle.std.specs.Result.{result_err}
use Rattle.tag.specs.Host.{LoadGiven, load_given}
use Rattle.tag.proofs.OnlyOne.{one_load}
use Rattle.packed.specs.Bytes.{record_in}
use Rattle.packed.specs.Result.{refusal_in, place_in, length_in}
use Rattle.packed.proofs.Results.{refusal_back, place_back, length_back}
use Rattle.cabi.specs.Calls.{load_left}
use Rattle.cabi.proofs.Left.{number_most}

module _ (i r m : List ℕ) where
  abbrev given : LoadGiven
  given = load_given (record_in r) i m

  short : given.number < 0x10000
  short =
      let o = one_load (record_in r) i m in
      omega (arith, number_most (result_err o.outcome.result), o.meets.number)

  pub load_refusal : refusal_in (load_left i r m).result ≡ (load_given (record_in r) i m).number
  unfolding load_left
  load_refusal = refusal_back given.place given.number 0 short (omega arith)

  pub load_place : place_in (load_left i r m).result ≡ (load_given (record_in r) i m).place
  unfolding load_left
  load_place = place_back given.place given.number 0 short (omega arith)

  pub load_length : length_in (load_left i r m).result ≡ 0
  unfolding load_left
  load_length = length_back given.place given.number 0 short (omega arith)
