-- W-201, over the definition: each UID once, in order, and the number of requests.
-- Assumes nothing.
use mathlib.Core.Path.{◌≡◌, refl, sym, ◌∙◌}
use mathlib.Core.Bool.{true, false}
use mathlib.Core.List.{List, [], ◌∷◌, ◌++◌}
use Prim.Native.Nat.{ℕ, ◌^◌, ◌≤◌, ◌<◌}
use native.Mathlib.Omega.{arith}
use lib.Dec.{eqb}
use lib.ListN.{length, drop, take}
use lib.Seq.{take_at, drop_at}
use borrow.Author.Tests.{eqb-true, le-ltb}
use Rattle.std.specs.Prelude.{if◌then◌else◌}
use Rattle.tray.specs.Tray.{search_finds, search_given, is_in, any_equal, times_in, Each, Lists}
use Rattle.tray.proofs.Weigh.{weigh_length, weigh_times, all_weigh}
use Rattle.tray.proofs.Order.{found_ascends}

-- a UID that is not in a list stands there 0 times, one that is in a list whose UIDs all differ once
pub times_none : (u : ℕ) (us : List ℕ) → is_in u us ≡ false → times_in u us ≡ 0
unfolding is_in times_in
times_none u [] e = refl
times_none u (v ∷ us) e = grind (arith, times_none u us)

pub times_one : (u : ℕ) (us : List ℕ) → any_equal us ≡ false → is_in u us ≡ true → times_in u us ≡ 1
unfolding is_in times_in any_equal
times_one u [] d e = absurd (let z : ◌≡◌ {A = ℕ} 0 1 = cc in omega arith)
times_one u (v ∷ us) d e = grind (arith, eqb-true u v, times_one u us, times_none u us)

module _ (uids : List ℕ) (ok : Each (λ u. u < 2 ^ 64) uids) (differ : any_equal uids ≡ false) where
  -- as many as there are
  pub as_many : length (search_finds uids) ≡ length uids
  as_many = sym (weigh_length (search_finds uids)) ∙ all_weigh (λ u. 1) uids ok differ ∙ weigh_length uids

  -- each number stands in the list as often as on the tray
  pub as_often : (u : ℕ) → times_in u (search_finds uids) ≡ times_in u uids
  as_often u = sym (weigh_times u (search_finds uids)) ∙ all_weigh (λ v. if eqb u v then 1 else 0) uids ok differ ∙ weigh_times u uids

  -- "list each UID once"
  pub each_once : (u : ℕ) → is_in u uids ≡ true → times_in u (search_finds uids) ≡ 1
  each_once u e = as_often u ∙ times_one u uids differ e

  -- and nothing else
  pub no_other : (u : ℕ) → is_in u uids ≡ false → times_in u (search_finds uids) ≡ 0
  no_other u e = as_often u ∙ times_none u uids e

  -- the call: what was found fills the first entries of the room, and the rest stays
  pub search_lists : (room : List ℕ) → length uids ≤ 256 → length uids ≤ length room → Lists uids room (search_given uids room)
  unfolding search_given
  search_lists room few large =
      let t : take (length uids) (search_finds uids ++ drop (length uids) room) ≡ search_finds uids = take_at (search_finds uids) _ (length uids) as_many in
      let d : drop (length uids) (search_finds uids ++ drop (length uids) room) ≡ drop (length uids) room = drop_at (search_finds uids) _ (length uids) as_many in
      rw (le-ltb 256 (length uids) few, differ, le-ltb (length room) (length uids) large) (record {
        number = refl;
        requests = refl;
        ascends = rw t (found_ascends uids);
        once = λ u e. rw t (each_once u e);
        nothing = λ u e. rw t (no_other u e);
        rest = d;
      })
