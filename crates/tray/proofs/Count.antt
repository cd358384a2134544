-- How many requests a search sends.
-- Assumes nothing.
use mathlib.Core.Path.{◌≡◌, ◌∙◌}
use mathlib.Core.Bool.{Bool}
use mathlib.Core.List.{List, [], ◌∷◌}
use Prim.Native.Nat.{ℕ, zero, suc, ◌+◌, ◌*◌, ◌/◌, ◌^◌, ◌≤◌, ◌<◌}
use native.Mathlib.Nat.{mul-add, mul-le-mul_left, mul-le-mul}
use native.Mathlib.Omega.{arith}
use lib.ListN.{length}
use lib.Pow.{pow_pos}
use Rattle.tag.specs.Inventory.{fits}
use Rattle.tray.specs.Tray.{speaks_in, those, total, longer, search_sends}
use Rattle.tray.specs.Steps.{costs, requests}
use Rattle.tray.proofs.Slots.{answer_longer, longer_below}
use Rattle.tray.proofs.Sent.{walk_counts}
use Rattle.tray.proofs.Weigh.{weigh, weigh_length, shared_out, everyone}

-- halves of the parts are at most half of the whole
pub total_halves : (f n : ℕ → ℕ) (d k s : ℕ) → ((x : ℕ) → s ≤ x → x < s + k → f x ≤ d * (n x / 2)) → total f k s ≤ d * (total n k s / 2)
unfolding total
total_halves f n d zero s e = omega arith
total_halves f n d (suc k) s e =
    let t = total n k (s + 1) in
    let a : f s ≤ d * (n s / 2) = e s (omega arith) (omega arith) in
    let b : total f k (s + 1) ≤ d * (t / 2) = total_halves f n d k (s + 1) (λ x p q. e x (omega arith) (omega arith)) in
    let h : n s / 2 + t / 2 ≤ (n s + t) / 2 = omega arith in
    let m : d * (n s / 2 + t / 2) ≤ d * ((n s + t) / 2) = mul-le-mul_left d h in
    omega (arith, mul-add d (n s / 2) (t / 2), m)

costs_at_most : (us : List ℕ) (again : ℕ → ℕ → ℕ) (mask bits d : ℕ) → (2 ≤ length us → again mask bits ≤ d * (length us / 2))
    → costs us again mask bits ≤ d * (length us / 2)
unfolding costs
costs_at_most [] again mask bits d e = omega arith
costs_at_most (u ∷ []) again mask bits d e = omega arith
costs_at_most (u ∷ v ∷ us) again mask bits d e = e (omega arith)

module _ (uids : List ℕ) where
  -- of n tags that a mask fits: with k groups above the slot
  node : (k mask bits : ℕ) → mask < 2 ^ bits
      → ((x : ℕ) → x < 16 → 2 ≤ length (those (fits (longer mask bits x) (bits + 4)) uids)
      → requests k uids (longer mask bits x) (bits + 4) ≤ k * (length (those (fits (longer mask bits x) (bits + 4)) uids) / 2))
      → requests (suc k) uids mask bits ≤ 1 + k * (length (those (fits mask bits) uids) / 2)
  unfolding requests
  node k mask bits m again =
      let t = total_halves _ (λ x. weigh (λ u. 1) (those (speaks_in mask bits x) uids)) k 16 0 slot in
      let s : total (λ x. weigh (λ u. 1) (those (speaks_in mask bits x) uids)) 16 0 ≡ length (those (fits mask bits) uids) = shared_out (λ u. 1) mask bits uids
      ∙ weigh_length _ in
      let r = rw s at t in
      omega arith
    where
      slot : (x : ℕ) → 0 ≤ x → x < 0 + 16
          → costs (those (speaks_in mask bits x) uids) (requests k uids) (longer mask bits x) (bits + 4)
          ≤ k * (weigh (λ u. 1) (those (speaks_in mask bits x) uids) / 2)
      slot x a b =
          let q = answer_longer mask bits x m uids in
          rw weigh_length (costs_at_most (those (speaks_in mask bits x) uids) (requests k uids) (longer mask bits x) (bits + 4) k
          (λ l. rw q (again x (omega arith) (rw q at l))))

  no_request : (mask bits n : ℕ) → requests 0 uids mask bits ≤ n
  unfolding requests
  no_request mask bits n = omega arith

  pub at_most : (k mask bits : ℕ) → mask < 2 ^ bits → requests (suc k) uids mask bits ≤ 1 + k * (length (those (fits mask bits) uids) / 2)
  at_most zero mask bits m = node 0 mask bits m (λ x l h. no_request (longer mask bits x) (bits + 4) _)
  at_most (suc k) mask bits m =
      node (suc k) mask bits m (λ x l h. let r = at_most k (longer mask bits x) (bits + 4) (longer_below mask bits x m l) in omega arith)

-- "for n tags it is at most 1 + 15 × (n halved, rounded down)"
pub requests_at_most : (uids : List ℕ) → search_sends uids ≤ 1 + 15 * (length uids / 2)
requests_at_most uids = rw (← walk_counts 16 uids 0 0) (rw everyone at (at_most uids 15 0 0 (pow_pos 0)))

-- and so for a request on the way
pub length_those : (test : ℕ → Bool) (us : List ℕ) → length (those test us) ≤ length us
unfolding those
length_those test [] = omega arith
length_those test (u ∷ us) = grind (arith, length_those test us)

pub requests_few : (uids : List ℕ) (k mask bits : ℕ) → mask < 2 ^ bits → k ≤ 16 → requests k uids mask bits ≤ 1 + 15 * (length uids / 2)
unfolding requests
requests_few uids zero mask bits m l = omega arith
requests_few uids (suc k) mask bits m l =
    let n = length (those (fits mask bits) uids) in
    let h : n ≤ length uids = length_those (fits mask bits) uids in
    let d : n / 2 ≤ length uids / 2 = omega arith in
    let c : k ≤ 15 = omega arith in
    let p : k * (n / 2) ≤ 15 * (length uids / 2) = mul-le-mul c d in
    let r : requests (suc k) uids mask bits ≤ 1 + k * (n / 2) = at_most uids k mask bits m in
    omega arith
