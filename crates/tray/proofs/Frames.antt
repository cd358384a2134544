-- The search's frames, as a tag takes them: they pass the checks and are an Inventory, with their mask and its length.
-- Assumes nothing.
use mathlib.Core.Path.{◌≡◌, refl, ◌∙◌}
use mathlib.Core.Bool.{true, false, not}
use mathlib.Core.List.{List, ◌∷◌}
use Prim.Native.Nat.{ℕ, zero, suc, ◌+◌, ◌*◌, ◌-◌, ◌/◌, ◌^◌, ◌≤◌, ◌<◌}
use native.Mathlib.Nat.{mod-eq_of_lt, lt_of_lt_of_le}
use native.Mathlib.Omega.{arith}
use lib.ListN.{length, get_or-eq_default}
use lib.Pow.{pow_mono}
use borrow.Author.Tests.{eq-eqb, le-ltb}
use Rattle.put.specs.Number.{number_at, bytes_of}
use Rattle.put.proofs.Numbers.{in_parts, length_bytes}
use Rattle.put.proofs.RoundTrips.{number_of_bytes, number_after}
use Rattle.record.specs.declared.Front.{Front}
use Rattle.record.specs.declared.State.TheVariants.{Ready}
use Rattle.record.specs.Update.{with_round, running}
use Rattle.tag.specs.declared.Heard.TheVariants as told
use Rattle.tag.specs.Frame.{end_of, heard_of}
use Rattle.tag.specs.Work.{work, silence, says}
use Rattle.tag.specs.Inventory.{fits, inventory_fields, mask_length, mask_too_long, wrong_length, afi_fits, mask_fits, unheard, inventory_of, in_slot}
use Rattle.tag.specs.Step.{sealed}
use Rattle.tag.proofs.Sealed.{sealed_fields, sealed_fields_length, sealed_inventory}
use Rattle.tray.specs.Tray.{Request}
use Rattle.tray.specs.Tags.{ask_bytes, ask_frame, Proper}
use Rattle.tray.proofs.Slots.{in_bits}

-- ---- the search's frame

module _ (bits : ℕ) (bs : List ℕ) where
  told_start : (t : Front) → heard_of t (sealed (ask_bytes bits bs)) ≡ told.Inventory
  told_start t = sealed_inventory _ (bits ∷ bs) refl refl refl t

  its_fields : inventory_fields (sealed (ask_bytes bits bs)) ≡ bits ∷ bs
  its_fields = sealed_fields _ _ (bits ∷ bs)

  its_length : end_of (sealed (ask_bytes bits bs)) - 2 ≡ 1 + length bs
  its_length = sealed_fields_length _ _ (bits ∷ bs) ∙ omega arith

-- it is heard as an Inventory
pub told_inventory : (q : Request) (t : Front) → heard_of t (ask_frame q) ≡ told.Inventory
told_inventory q t = told_start q.bits (bytes_of ((q.bits + 7) / 8) q.mask) t

-- ---- its mask

past_end : (k : ℕ) (s : List ℕ) (at : ℕ) → length s ≤ at → number_at k s at ≡ 0
unfolding number_at
past_end zero s at h = refl
past_end (suc k) s at h = rw (get_or-eq_default s 0 h, past_end k s (at + 1) (omega arith))

module _ (q : Request) (p : Proper q) where
  abbrev n : ℕ
  n = (q.bits + 7) / 8

  abbrev bs : List ℕ
  bs = bytes_of n q.mask

  mask_number : number_at 8 (q.bits ∷ bs) 1 ≡ q.mask
  mask_number =
      let s : q.bits ≤ 60 = p.short in
      let e : n + (8 - n) ≡ 8 = omega arith in
      let b : q.bits ≤ 8 * n = omega arith in
      let l : q.mask < 256 ^ n = rw (in_bits 8 n) (lt_of_lt_of_le p.low (pow_mono b)) in
      let c : number_at 8 bs 0 ≡ number_at n bs 0 + 256 ^ n * number_at (8 - n) bs (0 + n) = rw e at (in_parts n (8 - n) bs 0) in
      let z : number_at (8 - n) bs (0 + n) ≡ 0 = past_end (8 - n) bs (0 + n) (rw length_bytes (omega arith)) in
      number_after 8 q.bits bs 0 ∙ c ∙ rw (z, number_of_bytes n q.mask l) (omega arith)

  mask_length_lem : mask_length (ask_frame q) ≡ q.bits
  mask_length_lem = rw (its_fields q.bits bs)

  module _ (t : Front) (ready : t.state ≡ Ready) where
    mask_fits_lem : mask_fits t (ask_frame q) ≡ fits q.mask q.bits t.uid
    unfolding mask_fits
    mask_fits_lem = rw (its_fields q.bits bs, mask_number, mod-eq_of_lt p.low)

    is_unheard : unheard t (ask_frame q) ≡ not (fits q.mask q.bits t.uid)
    unfolding unheard mask_too_long wrong_length afi_fits
    is_unheard =
        rw (mask_fits_lem, mask_length_lem, le-ltb 60 q.bits p.short, its_length q.bits bs, length_bytes n q.mask, eq-eqb (1 + n) (1 + n) refl, ready)

    -- a tag whose UID has the mask opens a round, any other does nothing
    pub asked_fits : fits q.mask q.bits t.uid ≡ true
        → inventory_of t (ask_frame q) ≡ work (with_round t (running 0 q.bits)) (says (in_slot t 0 q.bits))
    unfolding inventory_of
    asked_fits e = rw (is_unheard, e, mask_length_lem)

    pub asked_not : fits q.mask q.bits t.uid ≡ false → inventory_of t (ask_frame q) ≡ work t (says silence)
    unfolding inventory_of
    asked_not e = rw (is_unheard, e)
