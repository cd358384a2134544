-- 02, "AFI families": a law for each clause of the rule, and which tags answer.
-- Assumes nothing.
use mathlib.Core.Path.{◌≡◌, refl, ◌∙◌}
use mathlib.Core.Bool.{Bool, true, false, not, ◌&&◌, ◌||◌}
use mathlib.Core.List.{List, [], ◌∷◌}
use Prim.Native.Nat.{ℕ, ◌+◌, ◌*◌, ◌/◌, ◌%◌, ◌≤◌, ◌<◌}
use native.Mathlib.Nat.{zero-add, mod-one}
use native.Mathlib.Omega.{arith}
use lib.ListN.{length}
use lib.Dec.{eqb}
use borrow.Author.Tests.{eqb-true, eqb-false, eq-eqb, ne_eqb, le-ltb, not-true}
use Rattle.std.specs.Prelude.{if◌then◌else◌}
use Rattle.put.specs.Number.{number_at}
use Rattle.put.proofs.RoundTrips.{number_after}
use Rattle.rights.proofs.Cases.{and_true, and_false, if_one, both}
use Rattle.record.specs.declared.Front.{Front}
use Rattle.record.specs.declared.Tag.{Tag}
use Rattle.record.specs.Update.{with_round, running}
use Rattle.record.specs.Tests.{is_quiet}
use Rattle.tag.specs.declared.Heard.TheVariants as heard
use Rattle.tag.specs.Frame.{bit, heard_of}
use Rattle.tag.specs.Work.{Answer, silence, says, work}
use Rattle.tag.specs.Inventory.{mask_too_long, wrong_length, upper_half, lower_half, asks_family, afi_matches, afi_fits}
use Rattle.tag.specs.Inventory.{low_bits, fits, mask_fits, unheard, in_slot, inventory_answer, inventory_of}
use Rattle.tag.specs.Step.{request, dropped, sealed, line_of, step, Stepped}
use Rattle.tag.proofs.Sealed.{sealed_fields, sealed_fields_length, sealed_inventory, saying, inventory_step}

-- ---- the rule, clause by clause: a request XYh is 16 * x + y

-- "00h still matches all"
pub zero_matches : (stored : ℕ) → afi_matches 0x00 stored ≡ true
unfolding afi_matches
zero_matches stored = refl

-- "a request of X0h, with X not 0", matches "every stored AFI whose upper half is X", and no other
pub family_matches : (x stored : ℕ) → 0 < x → afi_matches (16 * x) stored ≡ eqb (upper_half stored) x
unfolding afi_matches
family_matches x stored h =
    let u : 16 * x / 16 ≡ x = omega arith in
    let l : 16 * x % 16 ≡ 0 = omega arith in
    rw (u, l, ne_eqb x 0 (omega arith))

-- a request whose lower half is not 0 matches only itself: XYh, whatever X
pub halves_match : (x y stored : ℕ) → 0 < y → y < 16 → afi_matches (16 * x + y) stored ≡ eqb (16 * x + y) stored
unfolding afi_matches
halves_match x y stored h k = rw (ne_eqb ((16 * x + y) % 16) 0 (omega arith), and_false, ne_eqb (16 * x + y) 0 (omega arith))

-- so, where X is 0: "and 0Yh only itself"
pub itself_matches : (y stored : ℕ) → 0 < y → y < 16 → afi_matches y stored ≡ eqb y stored
itself_matches y stored h k = rw (zero-add y) at (halves_match 0 y stored h k)

-- a request for a family has an upper half that is not 0, and a lower one that is
family_halves : (asked : ℕ) → asks_family asked ≡ true → (0 < upper_half asked) × (lower_half asked ≡ 0)
family_halves asked f =
    let h = both (not (eqb (upper_half asked) 0)) (eqb (lower_half asked) 0) f in
    (omega (arith, eqb-false (upper_half asked) 0 (not-true _ h.0)), eqb-true (lower_half asked) 0 h.1)

-- a stored 00h is matched by 00h alone
pub stored_zero : (asked : ℕ) → afi_matches asked 0x00 ≡ eqb asked 0x00
unfolding afi_matches
stored_zero asked = here (eqb asked 0x00) refl
  where
    here : (b : Bool) → eqb asked 0x00 ≡ b → afi_matches asked 0x00 ≡ eqb asked 0x00
    here true e = rw (eqb-true asked 0x00 e)
    here false e =
        rw e
        (if_one (λ (b : Bool). b ≡ false) (asks_family asked) (λ f. ne_eqb 0 (upper_half asked) (omega (arith, (family_halves asked f).0))) (λ f. refl))

-- 02 adds to 01's rule X0h of a stored XYh, with neither X nor Y 0, and nothing else
abbrev pub added : ℕ → ℕ → Bool
added asked stored = asks_family asked && (eqb (upper_half stored) (upper_half asked) && not (eqb (lower_half stored) 0))

pub added_only : (asked stored : ℕ) → afi_matches asked stored ≡ added asked stored || (eqb asked 0x00 || eqb asked stored)
unfolding afi_matches
added_only asked stored = here (asks_family asked) (eqb (upper_half stored) (upper_half asked)) (eqb (lower_half stored) 0) refl refl refl
  where
    here : (f u l : Bool) → asks_family asked ≡ f → eqb (upper_half stored) (upper_half asked) ≡ u → eqb (lower_half stored) 0 ≡ l
        → afi_matches asked stored ≡ added asked stored || (eqb asked 0x00 || eqb asked stored)
    here false u l p q r = rw p
    here true false l p q r =
        let x = family_halves asked p in
        rw (p, q, ne_eqb asked 0x00 (omega (arith, x.0)), ne_eqb asked stored (omega (arith, eqb-false (upper_half stored) (upper_half asked) q)))
    here true true false p q r = rw (p, q, r)
    here true true true p q r =
        let x = family_halves asked p in
        let e : asked ≡ stored = omega (arith, x.1, eqb-true (upper_half stored) (upper_half asked) q, eqb-true (lower_half stored) 0 r) in
        rw (p, q, r, ne_eqb asked 0x00 (omega (arith, x.0)), eq-eqb asked stored e)

-- ---- the tag

-- the request flags of an Inventory with an AFI, with one slot or with 16; all other bits are free, Option_flag among them. `bit` counts from 0, and 01
-- from 1: `fourth` and `eighth` are the bits of its check 3
pub record Flags (one : Bool) (flags : ℕ) : Type 0 where
  pub inventory : bit 2 flags ≡ true
  pub fourth : bit 3 flags ≡ false
  pub eighth : bit 7 flags ≡ false
  pub afi : bit 4 flags ≡ true
  pub slots : bit 5 flags ≡ one

-- there are such flags: 36h with one slot, 16h with 16
pub flags_36 : Flags true 0x36
flags_36 = record { inventory = refl; fourth = refl; eighth = refl; afi = refl; slots = refl }

pub flags_16 : Flags false 0x16
flags_16 = record { inventory = refl; fourth = refl; eighth = refl; afi = refl; slots = refl }

-- the frame: flags, code 01h, the AFI, mask length, mask, CRC
abbrev pub ask_afi : ℕ → ℕ → ℕ → List ℕ → List ℕ
ask_afi flags asked bits mask = sealed (flags ∷ 0x01 ∷ asked ∷ bits ∷ mask)

-- what 01 asks of a tag and a mask besides: the tag is in the field and not Quiet, the mask is not too long, has all its bytes and fits the UID
pub record Reaches (one : Bool) (bits : ℕ) (mask : List ℕ) (t : Front) : Type 0 where
  pub field : t.field ≡ true
  pub awake : is_quiet t.state ≡ false
  pub short : bits ≤ (if one then 64 else 60)
  pub whole : length mask ≡ (bits + 7) / 8
  pub fitting : fits (low_bits (number_at 8 mask 0) bits) bits t.uid ≡ true

-- the empty mask fits every UID
pub empty_mask : {one : Bool} (t : Front) → t.field ≡ true → is_quiet t.state ≡ false → Reaches one 0 [] t
unfolding fits
empty_mask t on awake =
    record { field = on; awake = awake; short = omega arith; whole = refl; fitting = rw (mod-one t.uid, mod-one (number_at 8 [] 0)) }

-- what such a tag says, and what is left of its front: with one slot an answer; with 16 a round opens, and "slot 0 speaks at once" (01)
abbrev pub said : Bool → Front → ℕ → Answer
said true t bits = inventory_answer t
said false t bits = in_slot t 0 bits

abbrev pub left : Bool → Front → ℕ → Front
left true t bits = t
left false t bits = with_round t (running 0 bits)

module _ {one : Bool} {flags : ℕ} (p : Flags one flags) (asked bits : ℕ) (mask : List ℕ) where
  abbrev f : List ℕ
  f = ask_afi flags asked bits mask

  abbrev fields : List ℕ
  fields = asked ∷ bits ∷ mask

  told : (t : Front) → heard_of t f ≡ heard.Inventory
  told t = sealed_inventory flags fields p.inventory p.fourth p.eighth t

  mask_number : number_at 8 fields 2 ≡ number_at 8 mask 0
  mask_number = number_after 8 asked (bits ∷ mask) 1 ∙ number_after 8 bits mask 0

  module _ (t : Front) (r : Reaches one bits mask t) where
    is_unheard : unheard t f ≡ not (afi_matches asked t.afi)
    unfolding unheard mask_too_long wrong_length afi_fits mask_fits
    is_unheard =
        rw (
          sealed_fields flags 0x01 fields,
          sealed_fields_length flags 0x01 fields,
          p.afi,
          p.slots,
          r.awake,
          le-ltb (if one then 64 else 60) bits r.short,
          mask_number,
          r.fitting,
          and_true,
          eq-eqb (length fields) (2 + (bits + 7) / 8) (rw r.whole (omega arith)),
        )

    asked_matches : afi_matches asked t.afi ≡ true → inventory_of t f ≡ work (left one t bits) (says (said one t bits))
    unfolding inventory_of
    asked_matches e = here one refl
      where
        here : (b : Bool) → one ≡ b → inventory_of t f ≡ work (left one t bits) (says (said one t bits))
        here true o = rw (is_unheard, e, p.slots, o)
        here false o = rw (is_unheard, e, p.slots, o, sealed_fields flags 0x01 fields, p.afi)

    asked_not : afi_matches asked t.afi ≡ false → inventory_of t f ≡ work t (says silence)
    unfolding inventory_of
    asked_not e = rw (is_unheard, e)

module _ (t : Tag) (m : List ℕ) where
  -- "any frame first drops a round and a held answer" (01)
  abbrev pub front : Front
  front = dropped t.front

  -- what a tag that hears it does, and one that does not: "silence, and no round opens" (01)
  abbrev pub hearing : Bool → ℕ → Stepped
  hearing one bits = saying t m (left one front bits) (line_of (said one front bits))

  abbrev pub mute : Stepped
  mute = saying t m front []

  module _ {one : Bool} {flags bits : ℕ} {mask : List ℕ} (p : Flags one flags) (r : Reaches one bits mask t.front) where
    -- Asked for an AFI, a tag that the Inventory reaches hears it exactly if the AFI matches
    pub afi_asked : (asked : ℕ) → step t m (request (ask_afi flags asked bits mask)) ≡ (if afi_matches asked t.front.afi then hearing one bits else mute)
    afi_asked asked = here (afi_matches asked t.front.afi) refl
      where
        reaches : Reaches one bits mask front
        reaches = record { field = r.field; awake = r.awake; short = r.short; whole = r.whole; fitting = r.fitting }

        here : (b : Bool) → afi_matches asked t.front.afi ≡ b
            → step t m (request (ask_afi flags asked bits mask)) ≡ (if afi_matches asked t.front.afi then hearing one bits else mute)
        here true e = rw e (inventory_step t m _ _ _ r.field (told p asked bits mask front) (asked_matches p asked bits mask front reaches e))
        here false e = rw e (inventory_step t m _ _ _ r.field (told p asked bits mask front) (asked_not p asked bits mask front reaches e))

    -- "A cabin-parts reader asks for 30h and our tags with 35h stay mute.": no longer
    pub cabin_parts : t.front.afi ≡ 0x35 → step t m (request (ask_afi flags 0x30 bits mask)) ≡ hearing one bits
    cabin_parts e =
        let a : afi_matches 0x30 t.front.afi ≡ true = rw e (family_matches 3 0x35 (omega arith)) in
        rw (afi_asked 0x30, a)
