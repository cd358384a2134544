-- What the loop over the slots keeps, and what a slot's answers lead to.
-- Assumes nothing.
use mathlib.Core.Path.{◌≡◌, refl, sym, ap, ◌∙◌}
use mathlib.Core.Bool.{Bool}
use mathlib.Core.List.{List, [], ◌∷◌, ◌++◌}
use Prim.Native.Nat.{ℕ, suc, ◌+◌, ◌*◌, ◌-◌, ◌/◌, ◌≤◌, ◌<◌}
use native.Mathlib.Omega.{arith}
use lib.ListN.{length, take, drop, get_or, set}
use Rattle.std.specs.Prelude.{Option, Some}
use Rattle.std.proofs.lemmas.List.{nil_from_length}
use Rattle.std.specs.List.{find}
use Rattle.put.proofs.Written.{Written, Next, none, room, more, whole}
use Rattle.tag.specs.Inventory.{next_four, fits}
use Rattle.tray.specs.Tray.{speaks_in, those, joined, total, longer, heard, found, answering}
use Rattle.tray.specs.Steps.{costs, requests, above, slot_finds, slot_sends, Listened, Asks, Asked, AsksSlot, AskedSlot}
use Rattle.tray.proofs.Slots.{answer_longer, longer_below}
use Rattle.tray.proofs.Count.{requests_few}

-- ---- a request is its slots

module _ (uids : List ℕ) (mask bits : ℕ) (h : bits ≤ 60) where
  -- a longer mask has a group fewer above it
  one_less : above bits ≡ suc (above (bits + 4))
  one_less = omega arith

  finds : found (above bits) uids mask bits ≡ joined (slot_finds uids mask bits) 16 0
  unfolding found
  finds = rw one_less

  sends : requests (above bits) uids mask bits ≡ 1 + total (slot_sends uids mask bits) 16 0
  unfolding requests
  sends = rw one_less

-- so many slots are done
pub record Asking (uids : List ℕ) (mask bits tally : ℕ) (out₀ out : List ℕ) (at sent slot : ℕ) : Type 0 where
  pub asks : Asks uids mask bits out₀
  pub some : 0 < above bits
  pub listened : Listened uids mask bits tally
  pub slots : slot ≤ 16
  pub written : Written (found (above bits) uids mask bits) (joined (slot_finds uids mask bits) (16 - slot) slot) out₀ out at
  pub sum : sent + total (slot_sends uids mask bits) (16 - slot) slot ≡ requests (above bits) uids mask bits

pub asking : {uids out : List ℕ} {mask bits tally : ℕ} → Asks uids mask bits out → bits ≤ 60 → Listened uids mask bits tally
    → Asking uids mask bits tally out out 0 1 0
asking {uids} {out} {mask} {bits} a h l = record {
  asks = a;
  some = omega arith;
  listened = l;
  slots = omega arith;
  written = rw (← finds uids mask bits h) (none a.room);
  sum = sym (sends uids mask bits h);
}

module _ {uids : List ℕ} {mask bits tally : ℕ} {out₀ out : List ℕ} {at sent slot : ℕ} (a : Asking uids mask bits tally out₀ out at sent slot) where
  pub asked : 16 ≤ slot → Asked uids mask bits out₀ out at sent
  unfolding joined total
  asked h =
      let e : 16 - slot ≡ 0 = omega arith in
      record { put = whole (rw e at a.written); sends = (let q = rw e at a.sum in omega arith) }

  module _ (h : slot < 16) where
    next : Next (found (above bits) uids mask bits) (slot_finds uids mask bits slot)
        (joined (slot_finds uids mask bits) (16 - (slot + 1)) (slot + 1)) out₀ out at
    unfolding joined
    next = let e : 16 - slot ≡ suc (16 - (slot + 1)) = omega arith in record { written = rw e at a.written }

    pub asks_slot : AsksSlot uids mask bits slot tally (take (length out - at) (drop at out))
    asks_slot = record {
      span = omega (arith, a.asks.span, a.some);
      low = a.asks.low;
      few = a.asks.few;
      slots = h;
      listened = a.listened;
      room = room next;
    }

    module _ {ys : List ℕ} {n k : ℕ} (g : AskedSlot uids mask bits slot (take (length out - at) (drop at out)) ys n k) where
      sent_then : sent + k + total (slot_sends uids mask bits) (16 - (slot + 1)) (slot + 1) ≡ requests (above bits) uids mask bits
      unfolding total
      sent_then =
          let e : 16 - slot ≡ suc (16 - (slot + 1)) = omega arith in
          let q = rw e at a.sum in
          omega (arith, g.sends)

      -- the sum fits
      pub few : sent + k ≤ 1921
      few =
          let l : above bits ≤ 16 = omega arith in
          let r : requests (above bits) uids mask bits ≤ 1 + 15 * (length uids / 2) = requests_few uids (above bits) mask bits a.asks.low l in
          omega (arith, sent_then, a.asks.few)

      pub again : Asking uids mask bits tally out₀ (take at out ++ (ys ++ drop (length out - at) (drop at out))) (at + n) (sent + k) (slot + 1)
      again = record { asks = a.asks; some = a.some; listened = a.listened; slots = omega arith; written = more next g.put; sum = sent_then }

-- ---- what a slot's answers lead to

one_answer : (us : List ℕ) → length us ≡ 1 → us ≡ get_or us 0 0 ∷ []
one_answer [] e = absurd (omega arith)
one_answer (u ∷ []) e = refl
one_answer (u ∷ v ∷ us) e = absurd (omega arith)

collision : (us : List ℕ) → 2 ≤ length us → (again : ℕ → ℕ → List ℕ) (more : ℕ → ℕ → ℕ) (mask bits : ℕ)
    → (heard us again mask bits ≡ again mask bits) × (costs us more mask bits ≡ more mask bits)
unfolding heard costs
collision [] l again more mask bits = absurd (omega arith)
collision (u ∷ []) l again more mask bits = absurd (omega arith)
collision (u ∷ v ∷ us) l again more mask bits = (refl, refl)

set_first : (xs : List ℕ) (u : ℕ) → 0 < length xs → set xs 0 u ≡ u ∷ drop 1 xs
set_first [] u h = absurd (omega arith)
set_first (x ∷ xs) u h = refl

-- the first that passes a test
first_found : (test : ℕ → Bool) (us : List ℕ) {u : ℕ} {vs : List ℕ} → those test us ≡ u ∷ vs → find test us ≡ Some u
unfolding those
first_found test [] e = absurd cc
first_found test (v ∷ us) e = grind (arith, first_found test us)

module _ {uids : List ℕ} {mask bits slot tally : ℕ} {out : List ℕ} (a : AsksSlot uids mask bits slot tally out)
    {answers : ℕ} (r : answers ≡ next_four tally (4 * slot)) where
  pub slot_none : answers ≡ 0 → AskedSlot uids mask bits slot out out 0 0
  unfolding heard costs
  slot_none e =
      let q : answering uids mask bits slot ≡ [] = nil_from_length _ (omega (arith, a.listened.answers slot)) in
      record { put = rw q (record { count = refl; is = refl }); sends = rw q }

  module _ (one : answers ≡ 1) where
    the_answer : answering uids mask bits slot ≡ get_or (answering uids mask bits slot) 0 0 ∷ []
    the_answer = one_answer _ (omega (arith, a.listened.answers slot))

    pub one_room : 0 < length out
    unfolding heard
    one_room = let l = rw the_answer at a.room in omega arith

    pub one_found : find (speaks_in mask bits slot) uids ≡ Some (get_or (answering uids mask bits slot) 0 0)
    one_found = first_found (speaks_in mask bits slot) uids the_answer

    pub slot_one : {v : Option ℕ} {u : ℕ} → v ≡ find (speaks_in mask bits slot) uids → v ≡ Some u → AskedSlot uids mask bits slot out (set out 0 u) 1 0
    unfolding heard costs
    slot_one {v} {u} e f =
        let s : Some u ≡ Some (get_or (answering uids mask bits slot) 0 0) = sym f ∙ e ∙ one_found in
        let g : get_or (answering uids mask bits slot) 0 0 ≡ u = cc in
        let q : answering uids mask bits slot ≡ u ∷ [] = the_answer ∙ rw g in
        record { put = rw q (record { count = refl; is = set_first out u one_room }); sends = rw q }

  module _ (two : 2 ≤ answers) where
    -- the tags differ in 64 bits, so that there is a group for a longer mask
    pub not_last : ((m : ℕ) → length (those (fits m 64) uids) < 2) → bits ≤ 56
    not_last differ =
        grind (arith, ap length (answer_longer mask bits slot a.low uids), a.listened.answers slot, a.span, differ (longer mask bits slot))

    goes : (slot_finds uids mask bits slot ≡ found (above (bits + 4)) uids (longer mask bits slot) (bits + 4))
        × (slot_sends uids mask bits slot ≡ requests (above (bits + 4)) uids (longer mask bits slot) (bits + 4))
    goes =
        collision _ (omega (arith, a.listened.answers slot))
        (found (above (bits + 4)) uids)
        (requests (above (bits + 4)) uids)
        (longer mask bits slot)
        (bits + 4)

    module _ {m b : ℕ} (e : m ≡ longer mask bits slot) (f : b ≡ bits + 4) where
      pub slot_asks : Asks uids m b out
      slot_asks =
          rw (e, f)
          (record { span = omega (arith, a.span); low = longer_below mask bits slot a.low a.slots; few = a.few; room = rw goes.0 at a.room })

      pub slot_again : {ys : List ℕ} {n k : ℕ} → Asked uids m b out ys n k → AskedSlot uids mask bits slot out ys n k
      slot_again {ys} {n} {k} g =
          let h : Asked uids (longer mask bits slot) (bits + 4) out ys n k = rw (e, f) at g in
          record { put = rw goes.0 h.put; sends = h.sends ∙ sym goes.1 }
