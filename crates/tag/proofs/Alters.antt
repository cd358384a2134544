-- A Select, a write and a presentation alter the record or the memory: an outcome that leaves both as they were does not meet the promise of
-- an event. So a tag that "never alters its record (Select, writes, sessions)" is shut out.
-- Assumes nothing.
use Prim.Native.Nat.{ℕ, ◌≤◌}
use native.Mathlib.Omega.{arith}
use mathlib.Core.Path.{◌≡◌, refl, sym, ap, ◌∙◌}
use mathlib.Core.Logic.{◌≢◌}
use mathlib.Core.Bool.{true}
use mathlib.Core.List.{List, ◌++◌}
use lib.ListN.{length, take, drop, get_or, replicate}
use lib.Seq.{take-append_seam}
use borrow.Author.Tests.{le-ltb}
use Rattle.std.specs.Prelude.{Some, None}
use Rattle.put.specs.Number.{number_at, bytes_of}
use Rattle.crc.specs.Crc.{crc_bit, crc_bits, crc_byte, crc_from, crc_of, crc_bytes}
use Rattle.rights.specs.declared.Session.TheVariants as session
use Rattle.rights.specs.Passwords.{session_of, is_open, present_of}
use Rattle.rights.specs.Blocks.{area_of, register_of, serves, may_write, writable_at, locked_at, barred_at, crosses_at, any_barred}
use Rattle.record.specs.declared.Tag.{Tag}
use Rattle.record.specs.declared.State.TheVariants.{Ready, Selected}
use Rattle.tag.specs.Rules.{blocks_of, sound}
use Rattle.tag.specs.Table.{entry_of, first_of, more_of, head_of, limit_of, length_of}
use Rattle.tag.specs.Frame.{check2, check3, check4, custom, check5, after_code, fields_at, other_uid, check6, select_of_another, check7, check8, check9, check10, heard_of}
use Rattle.tag.specs.Work.{apply_to_tag, apply_to_memory, perform}
use Rattle.tag.specs.Blocks.{write_verdict, block_units}
use Rattle.tag.specs.Commands.{act_of, request_of}
use Rattle.tag.specs.Step.{Event, field_on, request, frame_of, work_of, sealed, step}
use Rattle.tag.specs.Image.{factory}
use Rattle.tag.specs.Host.{Reply, length_in, tag_after, is_memory, least_room, event_given, EventGives}
use Rattle.tag.specs.Cases.{bytes, ours, with_field}
use Rattle.tag.proofs.Sound.{step_sound, factory_sound}

-- a factory tag of 16 Kbit in the field, and its memory
pub blank : List ℕ
blank = replicate 2048 0

pub fresh : Tag
fresh = with_field (factory 63 ours)

-- 25h with the tag's own UID; 21h of block 0; B3h of password 1, which is zero
pub select : Event
select = request (sealed (bytes 10 0x2225F0C8D601042302E0))

pub write : Event
write = request (sealed (bytes 7 0x022100AABBCCDD))

pub presentation : Event
presentation = request (sealed (bytes 12 0x02B302010000000000000000))

-- what it was before each event, and what it is after
pub record Altered : Type 0 where
  pub ready : fresh.front.state ≡ Ready
  pub selected : (step fresh blank select).tag.front.state ≡ Selected
  pub written : (step fresh blank write).memory ≡ bytes 4 0xAABBCCDD ++ replicate 2044 0
  pub shut : fresh.vault.keys.session ≡ None
  pub opened : (step fresh blank presentation).tag.vault.keys.session ≡ Some session.User1

pub altered : Altered
unfolding blank with_field fresh select write presentation bytes ours number_at bytes_of crc_bit crc_bits crc_byte crc_from crc_of crc_bytes session_of is_open present_of area_of register_of serves may_write writable_at locked_at barred_at crosses_at any_barred entry_of first_of more_of head_of limit_of length_of check2 check3 check4 custom check5 after_code fields_at other_uid check6 select_of_another check7 check8 check9 check10 heard_of apply_to_tag apply_to_memory perform write_verdict block_units act_of request_of frame_of work_of step factory
altered = record { ready = refl; selected = refl; written = refl; shut = refl; opened = refl }

-- ---- through the promise of an event

-- a call that is refused by none of 1, 2 and 3 gives what the step gives
pub step_given : (t : Tag) (e : Event) (m x : List ℕ) → is_memory m ≡ true → least_room ≤ length x → sound (blocks_of m) t ≡ true
    → {m' x' : List ℕ} {r : Reply} → EventGives t e m x m' x' r → (tag_after t r ≡ (step t m e).tag) × (m' ≡ (step t m e).memory)
unfolding event_given
step_given t e m x i l s g =
    (rw (i, le-ltb (length x) least_room l, s) at g.tag, rw (i, le-ltb (length x) least_room l, s) at g.memory)

-- and the length is that of the answer, which stands at the start of the room
pub answer_given : (t : Tag) (e : Event) (m x : List ℕ) → is_memory m ≡ true → least_room ≤ length x → sound (blocks_of m) t ≡ true
    → {m' x' : List ℕ} {r : Reply} → EventGives t e m x m' x' r → take (length_in r) x' ≡ (step t m e).answer
unfolding event_given
answer_given t e m x i l s {m'} {x'} {r} g =
    let answer = (step t m e).answer in
    let n : length_in r ≡ length answer = rw (i, le-ltb (length x) least_room l, s) at g.length in
    let y : x' ≡ answer ++ drop (length answer) x = rw (i, le-ltb (length x) least_room l, s) at g.room in
    rw (n, y, take-append_seam)

module _ (x : List ℕ) (l : least_room ≤ length x) {m' x' : List ℕ} {r : Reply} where
  done : (e : Event) → EventGives fresh e blank x m' x' r → (tag_after fresh r ≡ (step fresh blank e).tag) × (m' ≡ (step fresh blank e).memory)
  unfolding blank with_field fresh perform work_of step factory
  done e g = step_given fresh e blank x refl l (step_sound (factory 63 ours) blank field_on (factory_sound 512 ours)) g

  pub select_alters : EventGives fresh select blank x m' x' r → tag_after fresh r ≢ fresh
  select_alters g same =
      let now = (done select g).0 in
      let was = altered.ready in
      let is = altered.selected in
      let z : ◌≡◌ {A = ℕ} 0 1 = cc in
      omega arith

  pub write_alters : EventGives fresh write blank x m' x' r → m' ≢ blank
  unfolding blank bytes bytes_of
  write_alters g same =
      let z : ◌≡◌ {A = ℕ} 0xAA 0 = ap (λ (k : List ℕ). get_or k 0 0) (sym altered.written ∙ sym (done write g).1 ∙ same) in
      omega arith

  pub presentation_alters : EventGives fresh presentation blank x m' x' r → tag_after fresh r ≢ fresh
  presentation_alters g same =
      let now = (done presentation g).0 in
      let was = altered.shut in
      let is = altered.opened in
      let z : ◌≡◌ {A = ℕ} 0 1 = cc in
      omega arith
