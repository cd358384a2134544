-- A sealed frame, bytes and the CRC after them, as a tag takes it: it passes check 2, and its fields are the bytes from the third on. And what is heard as
-- an Inventory, with the step that it comes to.
-- Assumes nothing.
use mathlib.Core.Path.{◌≡◌, refl}
use mathlib.Core.Bool.{true, false}
use mathlib.Core.List.{List, ◌∷◌}
use Prim.Native.Nat.{ℕ, suc, ◌+◌, ◌-◌, ◌≤◌}
use native.Mathlib.Omega.{arith}
use lib.ListN.{length, take, drop, length-append}
use lib.Seq.{take_at, drop_at}
use borrow.Author.Tests.{eq-eqb, le-ltb}
use Rattle.put.specs.Number.{number_at}
use Rattle.put.proofs.If.{if_true}
use Rattle.crc.specs.Crc.{crc_of, crc_bytes}
use Rattle.crc.proofs.Bytes.{crc_length}
use Rattle.record.specs.declared.Front.{Front}
use Rattle.record.specs.declared.Tag.{Tag}
use Rattle.record.specs.Update.{with_front}
use Rattle.tag.specs.declared.Heard.TheVariants as heard
use Rattle.tag.specs.Frame.{bit, end_of, fields_from, check2, check3, check4, heard_of}
use Rattle.tag.specs.Work.{Answer, says, work, perform}
use Rattle.tag.specs.Inventory.{inventory_of}
use Rattle.tag.specs.Step.{request, dropped, sealed, line_of, frame_of, work_of, Stepped, step}

pub sealed_length : (s : List ℕ) → length (sealed s) ≡ length s + 2
sealed_length s = simp (length-append, crc_length)

sealed_end : (s : List ℕ) → end_of (sealed s) ≡ length s
sealed_end s = omega (arith, sealed_length s)

crc_number : (s : List ℕ) → number_at 2 (crc_bytes s) 0 ≡ crc_of s
unfolding number_at crc_bytes
crc_number s = omega arith

-- it passes check 2
pub sealed_passes : (s : List ℕ) → 2 ≤ length s → check2 (sealed s) ≡ false
unfolding check2
sealed_passes s h =
    let l : 4 ≤ length (sealed s) = omega (arith, sealed_length s) in
    let t : take (length s) (sealed s) ≡ s = take_at s (crc_bytes s) (length s) refl in
    let d : drop (length s) (sealed s) ≡ crc_bytes s = drop_at s (crc_bytes s) (length s) refl in
    rw (le-ltb (length (sealed s)) 4 l, sealed_end s, t, d, crc_number s, eq-eqb (crc_of s) (crc_of s) refl)

-- flags, code, then fields
module _ (flags code : ℕ) (fields : List ℕ) where
  abbrev bytes : List ℕ
  bytes = flags ∷ code ∷ fields

  pub sealed_fields : fields_from 2 (sealed bytes) ≡ fields
  sealed_fields =
      let q : suc (suc (length fields)) - 2 ≡ length fields = omega arith in
      rw (sealed_end bytes, q) (take_at fields (crc_bytes bytes) (length fields) refl)

  pub sealed_fields_length : end_of (sealed bytes) - 2 ≡ length fields
  sealed_fields_length = rw (sealed_end bytes) (omega arith)

-- ---- an Inventory

-- code 01h with Inventory_flag, and 01's bits 4 and 8 clear, which `bit` counts from 0
pub sealed_inventory : (flags : ℕ) (fields : List ℕ) → bit 2 flags ≡ true → bit 3 flags ≡ false → bit 7 flags ≡ false → (t : Front)
    → heard_of t (sealed (flags ∷ 0x01 ∷ fields)) ≡ heard.Inventory
unfolding heard_of check3 check4
sealed_inventory flags fields third fourth eighth t = rw (sealed_passes (flags ∷ 0x01 ∷ fields) (omega arith), fourth, eighth, third)

-- what a step leaves that changes the front alone, and says these bytes
abbrev pub saying : Tag → List ℕ → Front → List ℕ → Stepped
saying t m w bytes = record { answer = bytes; tag = with_front t w; memory = m }

-- in the field, what is heard as an Inventory leaves and says what `inventory_of` has
pub inventory_step : (t : Tag) (m f : List ℕ) (w : Front) (a : Answer) → t.front.field ≡ true → heard_of (dropped t.front) f ≡ heard.Inventory
    → inventory_of (dropped t.front) f ≡ work w (says a) → step t m (request f) ≡ saying t m w (line_of a)
unfolding step work_of frame_of perform
inventory_step t m f w a on h e = rw (if_true _ _ on, h, e)
