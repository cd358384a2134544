-- Runs of blocks: whether one of them is barred, as the library's test of a list of numbers.
-- Assumes nothing.
use mathlib.Core.Path.{◌≡◌, refl}
use Prim.Native.Nat.{ℕ, zero, suc, ◌+◌}
use native.Mathlib.Omega.{arith}
use Rattle.std.specs.List.{list_any, range_with_len}
use Rattle.rights.specs.declared.View.{View}
use Rattle.rights.specs.Blocks.{barred_at, any_barred}

-- from the i-th block of a run on
pub any_as_list : (v : View) (b i n : ℕ) → any_barred v (b + i) n ≡ list_any (λ k. barred_at v (b + k)) (range_with_len i n)
unfolding any_barred
any_as_list v b i zero = refl
any_as_list v b i (suc n) = let e : b + i + 1 ≡ b + (i + 1) = omega arith in rw (e, any_as_list v b (i + 1) n)
