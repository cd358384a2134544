-- The number of requests, told without the search: one, and one for each mask that two or more tags share.
-- Assumes nothing.
use mathlib.Core.Path.{◌≡◌, refl, sym, ap, ◌∙◌}
use mathlib.Core.Bool.{Bool, true, false}
use mathlib.Core.List.{List, [], ◌∷◌}
use Prim.Native.Nat.{ℕ, zero, suc, ◌+◌, ◌*◌, ◌-◌, ◌/◌, ◌%◌, ◌^◌, ◌≤◌, ◌<◌}
use native.Mathlib.Nat.{pow-suc, add-zero, zero-add, add_comm, mod-lt}
use native.Mathlib.Numerals.{add-one}
use native.Mathlib.Omega.{arith}
use lib.Dec.{leb, eqb}
use lib.ListN.{length}
use lib.Pow.{pow_pos, pow-add, mod-mod-pow, low}
use borrow.Author.Tests.{eqb-true, eq-eqb, le-leb, lt-leb, leb-true}
use Rattle.std.specs.Prelude.{if◌then◌else◌}
use Rattle.tag.specs.Inventory.{low_bits, fits}
use Rattle.tray.specs.Tray.{speaks_in, those, total, longer, search_sends, shared_masks}
use Rattle.tray.specs.Steps.{costs, requests}
use Rattle.tray.proofs.Sent.{walk_counts}
use Rattle.tray.proofs.Count.{total_halves}
use Rattle.tray.proofs.Slots.{in_bits, answer_longer, longer_below, total_same, total_none, total_add, total_one}

-- ---- sums

total_last : (f : ℕ → ℕ) (k s : ℕ) → total f (suc k) s ≡ total f k s + f (s + k)
unfolding total
total_last f zero s = rw (add-zero s) (omega arith)
total_last f (suc k) s = grind (arith, total_last f k (s + 1))

total_append : (f : ℕ → ℕ) (j k s : ℕ) → total f (j + k) s ≡ total f j s + total f k (s + j)
unfolding total
total_append f zero k s = rw (zero-add k, add-zero s) (omega arith)
total_append f (suc j) k s = let e : suc j + k ≡ suc (j + k) = omega arith in rw e (grind (arith, total_append f j k (s + 1)))

total_shift : (f : ℕ → ℕ) (c k s : ℕ) → total (λ x. f (c + x)) k s ≡ total f k (c + s)
unfolding total
total_shift f c zero s = refl
total_shift f c (suc k) s = grind (arith, total_shift f c k (s + 1))

total_swap : (h : ℕ → ℕ → ℕ) (k a n b : ℕ) → total (λ s. total (λ i. h s i) k a) n b ≡ total (λ i. total (λ s. h s i) n b) k a
unfolding total
total_swap h k a zero b = sym (total_none k a)
total_swap h k a (suc n) b = ap (λ (x : ℕ). total (λ i. h b i) k a + x) (total_swap h k a n (b + 1))
    ∙ sym (total_add (λ i. h b i) (λ i. total (λ s. h s i) n (b + 1)) k a)

-- numbers by their lowest group and the rest
no_groups : (g : ℕ → ℕ) → total (λ s. total (λ x. g (16 * x + s)) 0 0) 16 0 ≡ total g (0 * 16) 0
unfolding total
no_groups g = refl

total_groups : (g : ℕ → ℕ) (n : ℕ) → total (λ s. total (λ x. g (16 * x + s)) n 0) 16 0 ≡ total g (n * 16) 0
total_groups g zero = no_groups g
total_groups g (suc n) =
    let e : suc n * 16 ≡ n * 16 + 16 = omega arith in
    let c : 16 * n + 0 ≡ 0 + n * 16 = omega arith in
    total_same _ _ 16 0 (λ s a b. total_last (λ x. g (16 * x + s)) n 0 ∙ rw (zero-add n))
    ∙ total_add (λ s. total (λ x. g (16 * x + s)) n 0) (λ s. g (16 * n + s)) 16 0
    ∙ rw (total_groups g n, total_shift g (16 * n) 16 0, c, e, total_append g (n * 16) 16 0)

-- ---- tags that share a mask

fewer : (f g : ℕ → Bool) → ((u : ℕ) → f u ≡ true → g u ≡ true) → (us : List ℕ) → length (those f us) ≤ length (those g us)
unfolding those
fewer f g e [] = omega arith
fewer f g e (u ∷ us) = grind (arith, e u, fewer f g e us)

no_costs : (us : List ℕ) (m b : ℕ) → costs us (λ mask bits. 0) m b ≡ 0
unfolding costs
no_costs [] m b = refl
no_costs (u ∷ []) m b = refl
no_costs (u ∷ v ∷ us) m b = refl

module _ (uids : List ℕ) where
  abbrev shares : ℕ → ℕ → ℕ
  shares mask bits = if leb 2 (length (those (fits mask bits) uids)) then 1 else 0

  -- a longer mask fits fewer
  none_longer : (mask bits x more : ℕ) → mask < 2 ^ bits → length (those (fits mask bits) uids) < 2 → shares (x * 2 ^ bits + mask) (bits + more) ≡ 0
  unfolding fits
  none_longer mask bits x more m h =
      let w : length (those (fits (x * 2 ^ bits + mask) (bits + more)) uids) ≤ length (those (fits mask bits) uids) = fewer _ _ cut uids in
      rw (lt-leb 2 (length (those (fits (x * 2 ^ bits + mask) (bits + more)) uids)) (omega arith))
    where
      cut : (u : ℕ) → fits (x * 2 ^ bits + mask) (bits + more) u ≡ true → fits mask bits u ≡ true
      cut u e =
          let c : bits + more ≡ more + bits = omega arith in
          let q : u % 2 ^ (bits + more) ≡ x * 2 ^ bits + mask = eqb-true _ _ e in
          let d : u % 2 ^ (more + bits) ≡ x * 2 ^ bits + mask = rw c at q in
          eq-eqb _ _ (sym (mod-mod-pow u more bits) ∙ rw d (low x bits m))

  -- the masks that are so many groups longer, and share; and those that are 1 to k groups longer
  abbrev longer_by : ℕ → ℕ → ℕ → ℕ
  longer_by mask bits i = total (λ x. shares (x * 2 ^ bits + mask) (bits + 4 * i)) (16 ^ i) 0

  abbrev longer_to : ℕ → ℕ → ℕ → ℕ
  longer_to k mask bits = total (λ i. longer_by mask bits i) k 1

  none_below : (k mask bits : ℕ) → mask < 2 ^ bits → length (those (fits mask bits) uids) < 2 → longer_to k mask bits ≡ 0
  none_below k mask bits m h = total_same _ _ k 1 (λ i a b. total_same _ _ (16 ^ i) 0 (λ x p q. none_longer mask bits x (4 * i) m h) ∙ total_none (16 ^ i) 0)
      ∙ total_none k 1

  -- one slot: the mask with its four bits, and what is longer
  one_slot_lem : (us : List ℕ) (again : ℕ → ℕ → ℕ) (mask bits rest : ℕ) → us ≡ those (fits mask bits) uids → (length us < 2 → rest ≡ 0)
      → (2 ≤ length us → again mask bits ≡ 1 + rest) → costs us again mask bits ≡ shares mask bits + rest
  unfolding costs
  one_slot_lem [] again mask bits rest e z a = rw (← e) (omega (arith, z (omega arith)))
  one_slot_lem (u ∷ []) again mask bits rest e z a = rw (← e) (omega (arith, z (omega arith)))
  one_slot_lem (u ∷ v ∷ us) again mask bits rest e z a = rw (← e, le-leb 2 (suc (suc (length us))) (omega arith)) (a (omega arith))

  -- the lowest group of a longer mask is the slot
  regroup : (mask bits i : ℕ) → total (λ s. longer_by (longer mask bits s) (bits + 4) i) 16 0 ≡ longer_by mask bits (i + 1)
  regroup mask bits i =
      let c : bits + 4 + 4 * i ≡ bits + 4 * (i + 1) = omega arith in
      let q : 16 ^ (i + 1) ≡ 16 ^ i * 16 = rw (add-one i) (pow-suc 16 i) in
      total_same _ _ 16 0 (λ s a b. total_same _ _ (16 ^ i) 0 (λ x p r. rw (place x s, c)))
      ∙ total_groups (λ y. shares (y * 2 ^ bits + mask) (bits + 4 * (i + 1))) (16 ^ i) ∙ rw q
    where
      place : (x s : ℕ) → x * 2 ^ (bits + 4) + (s * 2 ^ bits + mask) ≡ (16 * x + s) * 2 ^ bits + mask
      place x s = rw pow-add (omega arith)

  longer_first : (k mask bits : ℕ) → longer_by mask bits 1 + total (λ i. longer_by mask bits i) k 2 ≡ longer_to (suc k) mask bits
  unfolding total
  longer_first k mask bits = refl

  longer_none : (mask bits : ℕ) → 0 ≡ longer_to 0 mask bits
  unfolding total
  longer_none mask bits = refl

  counted : (k mask bits : ℕ) → mask < 2 ^ bits → requests (suc k) uids mask bits ≡ 1 + longer_to k mask bits
  unfolding requests
  counted zero mask bits m =
      ap (λ (n : ℕ). 1 + n)
      (total_same _ _ 16 0 (λ x a b. no_costs (those (speaks_in mask bits x) uids) (longer mask bits x) (bits + 4)) ∙ total_none 16 0 ∙ longer_none mask bits)
  counted (suc k) mask bits m =
      ap (λ (n : ℕ). 1 + n)
      (total_same _ _ 16 0 (λ s a b. slot s (omega arith) (counted k (longer mask bits s) (bits + 4) (longer_below mask bits s m (omega arith))))
      ∙ total_add (λ s. shares (longer mask bits s) (bits + 4)) (λ s. longer_to k (longer mask bits s) (bits + 4)) 16 0
      ∙ ap (λ (n : ℕ). longer_by mask bits 1 + n) rest ∙ longer_first k mask bits)
    where
      slot : (s : ℕ) → s < 16 → requests (suc k) uids (longer mask bits s) (bits + 4) ≡ 1 + longer_to k (longer mask bits s) (bits + 4)
          → costs (those (speaks_in mask bits s) uids) (requests (suc k) uids) (longer mask bits s) (bits + 4)
          ≡ shares (longer mask bits s) (bits + 4) + longer_to k (longer mask bits s) (bits + 4)
      slot s l r =
          let q = answer_longer mask bits s m uids in
          one_slot_lem (those (speaks_in mask bits s) uids) (requests (suc k) uids) (longer mask bits s) (bits + 4) (longer_to k (longer mask bits s) (bits + 4)) q
          (λ h. none_below k (longer mask bits s) (bits + 4) (longer_below mask bits s m l) (rw q at h)) (λ h. r)

      rest : total (λ s. longer_to k (longer mask bits s) (bits + 4)) 16 0 ≡ total (λ i. longer_by mask bits i) k 2
      rest = total_swap (λ s i. longer_by (longer mask bits s) (bits + 4) i) k 1 16 0
          ∙ total_same _ _ k 1 (λ i a b. regroup mask bits i ∙ ap (λ (j : ℕ). longer_by mask bits j) (add_comm i 1))
          ∙ total_shift (λ i. longer_by mask bits i) 1 k 1

-- of the empty mask, any mask is the longer one
from_empty : (uids : List ℕ) (i : ℕ) → longer_by uids 0 0 i ≡ shared_masks uids (4 * i)
unfolding shared_masks
from_empty uids i = rw (← in_bits 4 i) (total_same _ _ (16 ^ i) 0 (λ x a b. same x))
  where
    alone : (x : ℕ) → x * 1 + 0 ≡ x
    alone x = omega arith

    same : (x : ℕ) → shares uids (x * 1 + 0) (0 + 4 * i) ≡ shares uids x (4 * i)
    same x = rw (alone x, zero-add (4 * i))

-- one request for the empty mask, and one for each mask of 4, 8, .. 60 bits that two or more tags share
pub requests_are : (uids : List ℕ) → search_sends uids ≡ 1 + total (λ group. shared_masks uids (4 * group)) 15 1
requests_are uids = sym (walk_counts 16 uids 0 0) ∙ counted uids 15 0 0 (pow_pos 0) ∙ ap (λ (n : ℕ). 1 + n) (total_same _ _ 15 1 (λ i a b. from_empty uids i))

-- ---- the most requests: two tags alike in 60 bits

two_share : (u v mask bits : ℕ) → low_bits u bits ≡ low_bits v bits → shares (u ∷ v ∷ []) mask bits ≡ (if eqb (low_bits u bits) mask then 1 else 0)
unfolding those fits
two_share u v mask bits e = grind arith

one_shared : (u v bits : ℕ) → low_bits u bits ≡ low_bits v bits → shared_masks (u ∷ v ∷ []) bits ≡ 1
unfolding shared_masks
one_shared u v bits e =
    let l : low_bits u bits < 2 ^ bits = mod-lt u (pow_pos bits) in
    total_same _ _ (2 ^ bits) 0 (λ mask a b. two_share u v mask bits e) ∙ total_one 1 (low_bits u bits) (2 ^ bits) 0 (omega arith) (omega arith)

lower_alike : (u v bits : ℕ) → bits ≤ 60 → low_bits u 60 ≡ low_bits v 60 → low_bits u bits ≡ low_bits v bits
lower_alike u v bits h e =
    let j = 60 - bits in
    let c : 60 ≡ j + bits = omega arith in
    let d : u % 2 ^ (j + bits) ≡ v % 2 ^ (j + bits) = rw (← c) e in
    sym (mod-mod-pow u j bits) ∙ ap (λ (x : ℕ). x % 2 ^ bits) d ∙ mod-mod-pow v j bits

ones : (k s : ℕ) → total (λ x. 1) k s ≡ k
unfolding total
ones zero s = refl
ones (suc k) s = omega (arith, ones k (s + 1))

-- "at most 1 + 15 × (n halved, rounded down)" is reached
pub most_reached : (u v : ℕ) → low_bits u 60 ≡ low_bits v 60 → search_sends (u ∷ v ∷ []) ≡ 1 + 15 * (length (u ∷ v ∷ []) / 2)
most_reached u v e =
    requests_are (u ∷ v ∷ []) ∙ ap (λ (n : ℕ). 1 + n)
    (total_same _ (λ x. 1) 15 1 (λ i a b. one_shared u v (4 * i) (lower_alike u v (4 * i) (omega arith) e)) ∙ ones 15 1)

-- ---- a closer bound for many tags: there are only 16 masks of four bits

total_most : (f : ℕ → ℕ) (most k s : ℕ) → ((x : ℕ) → f x ≤ most) → total f k s ≤ k * most
unfolding total
total_most f most zero s h = omega arith
total_most f most (suc k) s h = omega (arith, h s, total_most f most k (s + 1) h)

-- a mask that two or more share is one mask, and one for half of them at most
share_most : (n : ℕ) → ((if leb 2 n then 1 else 0) ≤ 1) × ((if leb 2 n then 1 else 0) ≤ 1 * (n / 2))
share_most n = (grind arith, grind (arith, leb-true 2 n))

-- each UID has one mask of so many bits
one_mask : (bits : ℕ) (us : List ℕ) → total (λ mask. length (those (fits mask bits) us)) (2 ^ bits) 0 ≡ length us
unfolding those fits
one_mask bits [] = total_none (2 ^ bits) 0
one_mask bits (u ∷ us) =
    let l : low_bits u bits < 2 ^ bits = mod-lt u (pow_pos bits) in
    total_same _ _ (2 ^ bits) 0 (λ mask a b. one_more mask (eqb (low_bits u bits) mask) refl)
    ∙ total_add (λ mask. if eqb (low_bits u bits) mask then 1 else 0) (λ mask. length (those (fits mask bits) us)) (2 ^ bits) 0
    ∙ omega (arith, total_one 1 (low_bits u bits) (2 ^ bits) 0 (omega arith) (omega arith), one_mask bits us)
  where
    one_more : (mask : ℕ) (b : Bool) → eqb (low_bits u bits) mask ≡ b
        → length (those (fits mask bits) (u ∷ us)) ≡ (if eqb (low_bits u bits) mask then 1 else 0) + length (those (fits mask bits) us)
    one_more mask true e = rw e (omega arith)
    one_more mask false e = rw e (omega arith)

half_share : (uids : List ℕ) (bits : ℕ) → shared_masks uids bits ≤ length uids / 2
unfolding shared_masks
half_share uids bits =
    let h = total_halves (λ mask. shares uids mask bits) (λ mask. length (those (fits mask bits) uids)) 1 (2 ^ bits) 0
    (λ mask a b. (share_most (length (those (fits mask bits) uids))).1) in
    let r = rw (one_mask bits uids) at h in
    omega arith

few_share : (uids : List ℕ) → shared_masks uids 4 ≤ 16
unfolding shared_masks
few_share uids = let h = total_most (λ mask. shares uids mask 4) 1 16 0 (λ mask. (share_most (length (those (fits mask 4) uids))).0) in omega arith

-- so 256 tags cause at most 1,809 requests
pub requests_of_many : (uids : List ℕ) → search_sends uids ≤ 17 + 14 * (length uids / 2)
unfolding total
requests_of_many uids =
    let r : search_sends uids ≡ 1 + (shared_masks uids 4 + total (λ group. shared_masks uids (4 * group)) 14 2) = requests_are uids in
    let m = total_most (λ group. shared_masks uids (4 * group)) (length uids / 2) 14 2 (λ group. half_share uids (4 * group)) in
    omega (arith, few_share uids)
