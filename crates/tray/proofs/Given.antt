-- The call's outcomes, by its tests.
-- Assumes nothing.
use mathlib.Core.Path.{◌≡◌, refl, sym, ◌∙◌}
use mathlib.Core.Bool.{true, false}
use mathlib.Core.List.{List, [], ◌∷◌}
use Prim.Native.Nat.{ℕ, suc, ◌^◌, ◌≤◌, ◌<◌}
use native.Mathlib.Omega.{arith}
use lib.Pow.{pow_pos}
use lib.ListN.{length, get_or}
use borrow.Author.Tests.{lt-ltb, le-ltb}
use Rattle.std.proofs.Common.{Fits, w64}
use Rattle.tray.specs.Tray.{search_given, given, any_equal, Each, none, more}
use Rattle.tray.specs.Steps.{Asks, Asked}
use Rattle.tray.proofs.Sent.{walk_counts}
use Rattle.tray.proofs.Theorems.{as_many}

-- each number of a slice has 64 bits
pub each_fits : (s : List ℕ) → ((i : ℕ) → Fits w64 (get_or s i 0)) → Each (λ u. u < 2 ^ 64) s
each_fits [] h = none
each_fits (u ∷ us) h = let l : Fits w64 u = h 0 in more (omega arith) (each_fits us (λ i. h (suc i)))

module _ (uids room : List ℕ) where
  pub too_many : 256 < length uids → given 6 0 room ≡ search_given uids room
  unfolding search_given
  too_many h = rw (lt-ltb 256 (length uids) h)

  module _ (h : length uids ≤ 256) where
    pub two_equal : true ≡ any_equal uids → given 7 0 room ≡ search_given uids room
    unfolding search_given
    two_equal e = rw (le-ltb 256 (length uids) h, ← e)

    module _ (d : false ≡ any_equal uids) where
      pub too_small : length room < length uids → given 18 0 room ≡ search_given uids room
      unfolding search_given
      too_small l = rw (le-ltb 256 (length uids) h, ← d, lt-ltb (length room) (length uids) l)

      module _ (l : length uids ≤ length room) (ok : Each (λ u. u < 2 ^ 64) uids) where
        pub search_asks : Asks uids 0 0 room
        search_asks = record { span = refl; low = pow_pos 0; few = h; room = omega (arith, as_many uids ok (sym d)) }

        pub searched : {after : List ℕ} {n k : ℕ} → Asked uids 0 0 room after n k → given 0 k after ≡ search_given uids room
        unfolding search_given
        searched a =
            rw (le-ltb 256 (length uids) h, ← d, le-ltb (length room) (length uids) l, a.sends ∙ walk_counts 16 uids 0 0, a.put.is, as_many uids ok (sym d))
