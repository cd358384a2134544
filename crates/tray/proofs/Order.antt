-- The order in which a search lists what it finds.
-- Assumes nothing.
use mathlib.Core.Path.{◌≡◌, refl, sym, ap, ◌∙◌}
use mathlib.Core.Bool.{true}
use mathlib.Core.List.{List, [], ◌∷◌, ◌++◌}
use Prim.Native.Nat.{ℕ, zero, suc, ◌+◌, ◌*◌, ◌-◌, ◌/◌, ◌%◌, ◌^◌, ◌≤◌, ◌<◌}
use native.Mathlib.Omega.{arith}
use lib.Pow.{pow_pos, field, mod-mod-pow}
use Rattle.tag.specs.Inventory.{low_bits, next_four}
use Rattle.tray.specs.Tray.{speaks_in, joined, longer, heard, found, search_finds, Before, Each, none, more, Ascending, nobody, first}
use Rattle.tray.proofs.Sent.{each_both}
use Rattle.tray.proofs.Slots.{speaks_both, from_longer, longer_below}
use Rattle.tray.proofs.Weigh.{each_map, each_those}

-- what the parts of a list say of it: it ascends, and the UIDs have the mask, and next to it a group in a range
record Part (mask bits low : ℕ) (us : List ℕ) : Type 0 where
  pub order : Ascending us
  pub masked : Each (λ u. (u % 2 ^ bits ≡ mask) × (low ≤ u / 2 ^ bits % 16)) us

record Slot (mask bits slot : ℕ) (us : List ℕ) : Type 0 where
  pub order : Ascending us
  pub masked : Each (λ u. (u % 2 ^ bits ≡ mask) × (u / 2 ^ bits % 16 ≡ slot)) us

module _ (mask bits group : ℕ) (g : bits ≡ 4 * group) where
  before : {u v slot : ℕ} → (u % 2 ^ bits ≡ mask) × (u / 2 ^ bits % 16 ≡ slot) → (v % 2 ^ bits ≡ mask) × (slot + 1 ≤ v / 2 ^ bits % 16) → Before u v
  before {u} {v} p q = record { group = group; same = rw (← g) (p.0 ∙ sym q.0); less = rw (← g) (omega arith) }

  after : {slot : ℕ} {us vs : List ℕ} → Slot mask bits slot us → Part mask bits (slot + 1) vs → Ascending (us ++ vs)
  after {slot} {us} {vs} s p = go s.order s.masked
    where
      go : {ws : List ℕ} → Ascending ws → Each (λ u. (u % 2 ^ bits ≡ mask) × (u / 2 ^ bits % 16 ≡ slot)) ws → Ascending (ws ++ vs)
      go nobody none = p.order
      go (first b a) (more h t) = first (each_both b (each_map (λ v q. before h q) p.masked)) (go a t)

  joins : (f : ℕ → List ℕ) (k s : ℕ) → ((x : ℕ) → s ≤ x → x < s + k → Slot mask bits x (f x)) → Part mask bits s (joined f k s)
  unfolding joined
  joins f zero s e = record { order = nobody; masked = none }
  joins f (suc k) s e =
      let a : Slot mask bits s (f s) = e s (omega arith) (omega arith) in
      let b : Part mask bits (s + 1) (joined f k (s + 1)) = joins f k (s + 1) (λ x p q. e x (omega arith) (omega arith)) in
      record {
        order = after a b;
        masked = each_both (each_map (λ u p. (p.0, omega arith)) a.masked) (each_map (λ u p. (p.0, omega arith)) b.masked);
      }

-- a slot: nobody, one that speaks in it, or what the search finds that goes again
slot_part : (mask bits slot : ℕ) {us : List ℕ} (again : ℕ → ℕ → List ℕ) → mask < 2 ^ bits
    → Each (λ u. (0 ≤ u) × (speaks_in mask bits slot u ≡ true)) us
    → Part (longer mask bits slot) (bits + 4) 0 (again (longer mask bits slot) (bits + 4))
    → Slot mask bits slot (heard us again (longer mask bits slot) (bits + 4))
unfolding heard
slot_part mask bits slot again m none p = record { order = nobody; masked = none }
slot_part mask bits slot again m (more {u} h none) p = record { order = first none nobody; masked = more (speaks_both mask bits slot m u h.1) none }
slot_part mask bits slot again m (more h (more k t)) p =
    record { order = p.order; masked = each_map (λ u q. from_longer mask bits slot m u q.0) p.masked }

each_any : (us : List ℕ) → Each (λ u. 0 ≤ u) us
each_any [] = none
each_any (u ∷ us) = more {u = u} (omega arith) (each_any us)

ordered : (uids : List ℕ) (left mask bits group : ℕ) → bits ≡ 4 * group → mask < 2 ^ bits → Part mask bits 0 (found left uids mask bits)
unfolding found
ordered uids zero mask bits group g m = record { order = nobody; masked = none }
ordered uids (suc left) mask bits group g m =
    joins mask bits group g _ 16 0
    (λ x a b. slot_part mask bits x (found left uids) m (each_those (speaks_in mask bits x) (each_any uids))
    (ordered uids left (longer mask bits x) (bits + 4) (group + 1) (omega arith) (longer_below mask bits x m (omega arith))))

-- "in ascending order of the UID's four-bit groups taken from the lowest"
pub found_ascends : (uids : List ℕ) → Ascending (search_finds uids)
found_ascends uids = (ordered uids _ 0 0 0 refl (pow_pos 0)).order

-- it is an order: no two are each before the other
same_group : (u v low high : ℕ) → low < high → low_bits u (4 * high) ≡ low_bits v (4 * high) → next_four u (4 * low) ≡ next_four v (4 * low)
same_group u v low high h e = group_of u ∙ ap (λ (x : ℕ). x / 2 ^ (4 * low) % 16) e ∙ sym (group_of v)
  where
    group_of : (x : ℕ) → next_four x (4 * low) ≡ low_bits x (4 * high) / 2 ^ (4 * low) % 16
    group_of x =
        let j = 4 * high - 4 * low in
        let p : 4 * high ≡ j + 4 * low = omega arith in
        let q : j ≡ j - 4 + 4 = omega arith in
        rw (p, field x j (4 * low)) (sym (rw (← q) at (mod-mod-pow (x / 2 ^ (4 * low)) (j - 4) 4)))

pub before_one_way : (u v : ℕ) → Before u v → Before v u → ⊥
before_one_way u v a b = grind (arith, same_group u v a.group b.group, same_group u v b.group a.group, a.less, b.less, a.same, b.same)
