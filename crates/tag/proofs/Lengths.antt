-- "The longest answer is 2,048 blocks with status: 1 + 2,048 × 5 + 2 = 10,243." And whatever is not silence ends in the CRC of the rest.
-- Assumes nothing.
use Prim.Native.Nat.{ℕ, ◌+◌, ◌*◌, ◌≤◌, ◌<◌}
use mathlib.Core.Path.{◌≡◌, refl}
use mathlib.Core.Logic.{◌⊎◌, inl, inr}
use mathlib.Core.Bool.{Bool, true, false}
use mathlib.Core.List.{List, [], ◌∷◌, ◌++◌}
use native.Mathlib.Omega.{arith}
use lib.ListN.{length, replicate}
use lib.Dec.{eqb}
use borrow.Author.Tests.{le-leb}
use Rattle.std.specs.Prelude.{Ok, Err}
use Rattle.put.specs.Number.{number_at, bytes_of}
use Rattle.put.proofs.Numbers.{length_bytes}
use Rattle.crc.specs.Crc.{crc_bit, crc_bits, crc_byte, crc_from, crc_of, crc_bytes}
use Rattle.rights.specs.declared.View.{View}
use Rattle.rights.specs.Verdict.{Verdict}
use Rattle.rights.specs.Vault.{view_of}
use Rattle.rights.specs.Passwords.{present_of}
use Rattle.rights.specs.Blocks.{area_of, may_read, readable_at}
use Rattle.rights.specs.Registers.{possible}
use Rattle.rights.proofs.Cases.{if_one}
use Rattle.record.specs.declared.Front.{Front}
use Rattle.record.specs.declared.Tag.{Tag}
use Rattle.record.specs.Update.{with_front}
use Rattle.tag.specs.declared.Command.{Command}
use Rattle.tag.specs.Rules.{blocks_of, off_rule, round_rule, held_rule, together_rule, sound}
use Rattle.tag.specs.Table.{entry_of, first_of, more_of, limit_of, length_of}
use Rattle.tag.specs.Frame.{check2, check3, check4, custom, check5, after_code, fields_at, check6, check7, check8, check9, check10, heard_of}
use Rattle.tag.specs.Work.{Answer, silence, verdict, body, Act, says, lists, presents, writes, closes, Work, listing, perform}
use Rattle.tag.specs.Inventory.{slot_of, in_slot}
use Rattle.tag.specs.Blocks.{read_verdict}
use Rattle.tag.specs.Commands.{act_of, request_of}
use Rattle.tag.specs.Step.{Event, request, dropped, frame_of, work_of, sealed, line_of, settled, step}
use Rattle.tag.specs.Image.{factory}
use Rattle.tag.specs.Host.{is_memory, least_room}
use Rattle.tag.specs.Cases.{bytes, ours, with_field}
use Rattle.tag.proofs.Sizes.{memory_bounds}
use Rattle.tag.proofs.Sealed.{sealed_length}
use Rattle.tag.proofs.Listing.{listing_within, listing_whole, statuses_within}
use Rattle.tag.proofs.Came.{Asked, InField, Came, came}
use Rattle.tag.proofs.Came as shape

-- ---- an answer: what stands in it between the first byte and the CRC

abbrev pub carried : Answer → List ℕ
carried silence = []
carried (verdict (Ok tt)) = []
carried (verdict (Err c)) = c ∷ []
carried (body b) = b

line_most_lem : (a : Answer) → length (line_of a) ≤ length (carried a) + 3
line_most_lem silence = omega arith
line_most_lem (verdict (Ok tt)) = omega (arith, sealed_length (0x00 ∷ []))
line_most_lem (verdict (Err c)) = omega (arith, sealed_length (0x01 ∷ c ∷ []))
line_most_lem (body b) = omega (arith, sealed_length (0x00 ∷ b))

settled_most : (hold : Bool) (a : Answer) (t : Tag) (m : List ℕ) → length (settled hold a t m).answer ≤ length (carried a) + 3
settled_most true silence t m = omega arith
settled_most true (verdict v) t m = omega arith
settled_most true (body b) t m = line_most_lem (body b)
settled_most false a t m = line_most_lem a

-- ---- an act: how much its answer carries at most

abbrev span : Act → ℕ
span (says a) = length (carried a)
span (lists limit first count status) = 5 * limit
span (presents n w) = 1
span (writes us) = 0
span closes = 0

verdict_most : (v : Verdict) → length (carried (verdict v)) ≤ 1
verdict_most (Ok tt) = omega arith
verdict_most (Err c) = omega arith

perform_most : (t : Tag) (m : List ℕ) (a : Act) → length (carried (perform t m a).answer) ≤ span a
unfolding perform
perform_most t m (says a) = omega arith
perform_most t m (lists limit first count status) = omega (arith, listing_within (view_of t.vault) m limit first count status)
perform_most t m (presents n w) = verdict_most (present_of t.vault.keys n w).answer
perform_most t m (writes us) = omega arith
perform_most t m closes = omega arith

-- what fits 2,048 blocks with status
abbrev Fits : Act → Type 0
Fits a = span a ≤ 10240

act_fits : {v : View} {blocks : ℕ} {fields : List ℕ} {c : Command} {a : Act} → blocks ≤ 2048 → Asked v blocks fields c a → Fits a
act_fits h shape.quiet = omega arith
act_fits h (shape.told d k) = omega (arith, verdict_most d)
act_fits h (shape.shows address x k) = omega arith
act_fits h (shape.listed limit first count status k) = omega arith
act_fits {v} h (shape.states limit first count k) = omega (arith, statuses_within v limit first count)
act_fits h shape.presented = omega arith
act_fits h (shape.blocks_written e first n k) = omega arith
act_fits h (shape.block_locked second) = omega arith
act_fits h shape.afi_written = omega arith
act_fits h shape.afi_locked = omega arith
act_fits h shape.dsfid_written = omega arith
act_fits h shape.dsfid_locked = omega arith
act_fits h (shape.register_written address k) = omega arith
act_fits h (shape.password_written n k) = omega arith

-- ---- an event

slot_fits : (t : Front) (slot mask : ℕ) → Fits (says (in_slot t slot mask))
unfolding in_slot
slot_fits t slot mask =
    if_one (λ (a : Answer). Fits (says a)) (eqb (slot_of t mask) slot) (λ e. omega (arith, length_bytes 8 t.uid)) (λ e. omega arith)

field_fits : {t : Front} {v : View} {blocks : ℕ} {e : Event} {w : Work} → blocks ≤ 2048 → InField t v blocks e w → Fits w.act
unfolding request_of
field_fits h shape.unmoved = omega arith
field_fits h (shape.given d k) = omega (arith, verdict_most d)
field_fits {t} h (shape.moved slot mask k l) = slot_fits t (slot + 1) mask
field_fits h shape.closed = omega arith
field_fits h shape.ignored = omega arith
field_fits h shape.deselected = omega arith
field_fits h (shape.refused c k) = omega arith
field_fits {t} h shape.found = omega (arith, length_bytes 8 t.uid)
field_fits {t} h (shape.opened u o) = slot_fits (dropped t) 0 _
field_fits h (shape.done p a) = act_fits h a

came_fits : {t : Front} {v : View} {blocks : ℕ} {e : Event} {w : Work} → blocks ≤ 2048 → Came t v blocks e w → Fits w.act
came_fits h shape.nothing = omega arith
came_fits h (shape.cleared on) = omega arith
came_fits h (shape.inside on i) = field_fits h i

-- the theorem: what is answered fits the least room
pub answer_most : (t : Tag) (m : List ℕ) (e : Event) → is_memory m ≡ true → length (step t m e).answer ≤ least_room
unfolding step
answer_most t m e h =
    let w = work_of t.front (view_of t.vault) (blocks_of m) e in
    let d = perform (with_front t w.front) m w.act in
    let fits : Fits w.act = came_fits (omega (arith, (memory_bounds (length m) h).1)) (came t.front (view_of t.vault) (blocks_of m) e) in
    omega (arith, fits, perform_most (with_front t w.front) m w.act, settled_most w.hold d.answer d.tag d.memory)

-- ---- and it is reached

-- a record that keeps the record rules, a memory of 8,192 bytes and a request, with the longest answer: "2,048 blocks with status"
pub record Longest : Type 0 where
  pub tag : Tag
  pub memory : List ℕ
  pub frame : List ℕ
  pub kept : sound (blocks_of memory) tag ≡ true
  pub size : length memory ≡ 8192
  pub shown : (step tag memory (request frame)).answer ≡ sealed (0x00 ∷ listing (view_of tag.vault) memory 2048 0 2048 true)
  pub reached : length (step tag memory (request frame)).answer ≡ 10243

-- the 64 Kbit factory tag in the field
whole : Tag
whole = with_field (factory 255 ours)

-- "Area 1 is always readable", and takes all of its blocks
whole_readable : (b : ℕ) → b < 2048 → readable_at (view_of whole.vault) b ≡ true
unfolding whole with_field factory readable_at area_of may_read
whole_readable b h = rw (le-leb b 2047 (omega arith))

-- 33h with Option_flag: first block 0, count less one 2,047
asking : List ℕ
asking = sealed (bytes 6 0x42330000FF07)

blocks_shown : (step whole (replicate 8192 0) (request asking)).answer ≡ sealed (0x00 ∷ listing (view_of whole.vault) (replicate 8192 0) 2048 0 2048 true)
unfolding whole asking with_field ours bytes number_at bytes_of crc_bit crc_bits crc_byte crc_from crc_of crc_bytes area_of may_read readable_at entry_of first_of more_of limit_of length_of check2 check3 check4 custom check5 after_code fields_at check6 check7 check8 check9 check10 heard_of perform read_verdict act_of request_of frame_of work_of step factory
blocks_shown = refl

-- the theorem: an answer of 10,243 bytes is given
pub longest : Longest
unfolding whole with_field factory sound possible off_rule round_rule held_rule together_rule
longest = record {
  tag = whole;
  memory = replicate 8192 0;
  frame = asking;
  kept = refl;
  size = refl;
  shown = blocks_shown;
  reached =
      let all = listing_whole (view_of whole.vault) (replicate 8192 0) 2048 0 2048 whole_readable (omega arith) (omega arith) in
      rw blocks_shown (omega (arith, sealed_length (0x00 ∷ listing (view_of whole.vault) (replicate 8192 0) 2048 0 2048 true)));
}

-- ---- the CRC

-- an answer of at least one byte, and the CRC of all that stands before it
pub record Sealed (answer : List ℕ) : Type 0 where
  pub rest : List ℕ
  pub some : 1 ≤ length rest
  pub is : answer ≡ rest ++ crc_bytes rest

line_sealed : (a : Answer) → (line_of a ≡ []) ⊎ Sealed (line_of a)
line_sealed silence = inl refl
line_sealed (verdict (Ok tt)) = inr (record { rest = 0x00 ∷ []; some = omega arith; is = refl })
line_sealed (verdict (Err c)) = inr (record { rest = 0x01 ∷ c ∷ []; some = omega arith; is = refl })
line_sealed (body b) = inr (record { rest = 0x00 ∷ b; some = omega arith; is = refl })

settled_sealed : (hold : Bool) (a : Answer) (t : Tag) (m : List ℕ) → ((settled hold a t m).answer ≡ []) ⊎ Sealed (settled hold a t m).answer
settled_sealed true silence t m = inl refl
settled_sealed true (verdict v) t m = inl refl
settled_sealed true (body b) t m = line_sealed (body b)
settled_sealed false a t m = line_sealed a

-- the theorem: silence, or sealed
pub answer_sealed : (t : Tag) (m : List ℕ) (e : Event) → ((step t m e).answer ≡ []) ⊎ Sealed (step t m e).answer
unfolding step
answer_sealed t m e =
    let w = work_of t.front (view_of t.vault) (blocks_of m) e in
    let d = perform (with_front t w.front) m w.act in
    settled_sealed w.hold d.answer d.tag d.memory
