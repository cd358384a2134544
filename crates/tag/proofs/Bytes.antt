-- Bytes stay bytes: from a record whose numbers are in their ranges, a memory of bytes and frames of bytes come such a record, such a
-- memory and answers of bytes; and so do images.
-- Assumes nothing.
use Prim.Native.Nat.{ℕ, zero, suc, ◌+◌, ◌-◌, ◌^◌, ◌<◌}
use mathlib.Core.Path.{refl}
use mathlib.Core.Bool.{Bool, true, false}
use mathlib.Core.List.{List, [], ◌∷◌, map}
use native.Mathlib.Omega.{arith}
use lib.ListN.{length, get_or}
use lib.Dec.{ltb, eqb}
use Rattle.std.specs.Prelude.{Some, None, Ok, Err}
use Rattle.put.specs.Number.{number_at, bytes_of}
use Rattle.put.proofs.Bytes.{Bytes, none, more, below_append, below_take, below_drop, below_replicate, byte_at, number_below, bytes_of_lem}
use Rattle.crc.proofs.Bytes.{crc_bytes_lem}
use Rattle.rights.specs.declared.View.{View}
use Rattle.rights.specs.Vault.{view_of}
use Rattle.rights.specs.Registers.{registers_of}
use Rattle.rights.proofs.Cases.{if_one}
use Rattle.rights.proofs.Ranges.{status_byte, at_most_one, read_bytes}
use Rattle.record.specs.Update.{running}
use Rattle.record.specs.declared.Front.{Front}
use Rattle.record.specs.declared.Tag.{Tag}
use Rattle.tag.specs.declared.Command.{Command}
use Rattle.record.specs.declared.State.TheVariants.{Ready}
use Rattle.tag.specs.Rules.{blocks_of, held_rule}
use Rattle.tag.specs.Table.{entry_of, head_of}
use Rattle.tag.specs.Frame.{code_of, fields_at, fields_from, end_of}
use Rattle.tag.specs.Work.{Answer, silence, verdict, body, Act, says, Work}
use Rattle.tag.specs.Inventory.{mask_at, mask_length, slot_of, in_slot}
use Rattle.tag.specs.Blocks.{statuses, block_units}
use Rattle.tag.specs.Commands.{request_of}
use Rattle.tag.specs.Step.{Event, field_on, field_off, end_of_frame, request, dropped, work_of, sealed, line_of, Stepped, settled, step, Ran, run}
use Rattle.tag.specs.Image.{mark_of, lock_byte, tag_in, header_of, image_of, factory}
use Rattle.tag.proofs.Lengths.{carried}
use Rattle.tag.proofs.Came.{front_by, Asked, InField, Came, came}
use Rattle.tag.proofs.Came as shape
use Rattle.tag.proofs.Ranges.{RangedFront, Ranged, state_ranged, round_ranged, held_ranged, cleared_ranged, block_in, register_in, afi_in, dsfid_in, block_lock_in, afi_lock_in, dsfid_lock_in, password_in, RangedUnits, no_unit, unit_and, RangedAct, says_in, lists_in, presents_in, writes_in, closes_in, verdict_bytes, perform_ranged}

-- ---- what a command does

zero_byte : 0 < 256
zero_byte = omega arith

one_byte : 1 < 256
one_byte = omega arith

fields_bytes : {f : List ℕ} (start : ℕ) → Bytes f → Bytes (fields_from start f)
fields_bytes {f} start p = below_take (end_of f - start) (below_drop start p)

statuses_bytes : (v : View) (limit b n : ℕ) → Bytes (statuses v limit b n)
unfolding statuses
statuses_bytes v limit b zero = none
statuses_bytes v limit b (suc n) =
    if_one Bytes (ltb b limit) (λ e. more (status_byte v b) (statuses_bytes v limit (b + 1) n)) (λ e. none)

blocks_ranged : (b n : ℕ) {bytes : List ℕ} → Bytes bytes → RangedUnits (block_units b n bytes)
unfolding block_units
blocks_ranged b zero p = no_unit
blocks_ranged b (suc n) p = unit_and (block_in (below_take 4 p)) (blocks_ranged (b + 1) n (below_drop 4 p))

act_ranged : {v : View} {blocks : ℕ} {fields : List ℕ} {c : Command} {a : Act}
    → Bytes (registers_of v.areas) → Bytes fields → Asked v blocks fields c a → RangedAct a
act_ranged g p shape.quiet = says_in none
act_ranged g p (shape.told d h) = says_in (verdict_bytes d h)
act_ranged {v} g p (shape.shows address x h) = says_in (rw h at (read_bytes v address g))
act_ranged g p (shape.listed limit first count status h) = lists_in
act_ranged {v} g p (shape.states limit first count h) = says_in (statuses_bytes v limit first count)
act_ranged g p shape.presented = presents_in
act_ranged g p (shape.blocks_written e first n h) = writes_in (blocks_ranged first n (below_drop (head_of e) p))
act_ranged g p (shape.block_locked second) = writes_in (unit_and (block_lock_in second) no_unit)
act_ranged g p shape.afi_written = writes_in (unit_and (afi_in (byte_at 0 p)) no_unit)
act_ranged g p shape.afi_locked = writes_in (unit_and afi_lock_in no_unit)
act_ranged g p shape.dsfid_written = writes_in (unit_and (dsfid_in (byte_at 0 p)) no_unit)
act_ranged g p shape.dsfid_locked = writes_in (unit_and dsfid_lock_in no_unit)
act_ranged g p (shape.register_written address h) = writes_in (unit_and (register_in (byte_at 1 p)) no_unit)
act_ranged g p (shape.password_written n h) = writes_in (unit_and (password_in (number_below 8 1 p)) no_unit)

-- ---- what an event comes to

record RangedWork (w : Work) : Type 0 where
  front : RangedFront w.front
  act : RangedAct w.act

inventory_bytes : {t : Front} → RangedFront t → Bytes (t.dsfid ∷ bytes_of 8 t.uid)
inventory_bytes {t} r = more r.dsfid (bytes_of_lem 8 t.uid)

slot_ranged : {t : Front} (slot mask : ℕ) → RangedFront t → RangedAct (says (in_slot t slot mask))
unfolding in_slot
slot_ranged {t} slot mask r =
    if_one (λ (a : Answer). RangedAct (says a)) (eqb (slot_of t mask) slot) (λ e. says_in (inventory_bytes r)) (λ e. says_in none)

dropped_ranged : {t : Front} → RangedFront t → RangedFront (dropped t)
dropped_ranged r = held_ranged (round_ranged r None none) None none

next_bytes : (slot mask : ℕ) → slot < 15 → Bytes (slot ∷ mask ∷ []) → Bytes ((slot + 1) ∷ mask ∷ [])
next_bytes slot mask k (more h m) = let next : slot + 1 < 256 = omega arith in more next m

-- the bytes that an event brings
abbrev pub sent : Event → List ℕ
sent field_on = []
sent field_off = []
sent end_of_frame = []
sent (request f) = f

field_ranged : {t : Front} {v : View} {blocks : ℕ} {e : Event} {w : Work}
    → RangedFront t → Bytes (registers_of v.areas) → Bytes (sent e) → InField t v blocks e w → RangedWork w
unfolding request_of held_rule
field_ranged r g p shape.unmoved = record { front = r; act = says_in none }
field_ranged r g p (shape.given d h) = record { front = held_ranged r None none; act = says_in (rw h at r.held) }
field_ranged r g p (shape.moved slot mask h k) =
    let next = next_bytes slot mask k (rw h at r.round) in
    record { front = round_ranged r (running (slot + 1) mask) next; act = slot_ranged (slot + 1) mask r }
field_ranged r g p shape.closed = record { front = round_ranged r None none; act = says_in none }
field_ranged r g p shape.ignored = record { front = dropped_ranged r; act = says_in none }
field_ranged r g p shape.deselected = record { front = state_ranged (dropped_ranged r) Ready; act = says_in none }
field_ranged r g p (shape.refused c h) = record { front = dropped_ranged r; act = says_in (verdict_bytes (Err c) h) }
field_ranged r g p shape.found = record { front = dropped_ranged r; act = says_in (inventory_bytes (dropped_ranged r)) }
field_ranged r g p (shape.opened {f} u o) =
    let first = more zero_byte (more (byte_at (mask_at f) (fields_bytes 2 p)) none) in
    record { front = round_ranged (dropped_ranged r) (running 0 (mask_length f)) first; act = slot_ranged 0 (mask_length f) (dropped_ranged r) }
field_ranged r g p (shape.done {f} h a) =
    let front = front_by RangedFront (dropped_ranged r) (state_ranged (dropped_ranged r)) (entry_of (code_of f)).command in
    record { front = front; act = act_ranged g (fields_bytes (fields_at f) p) a }

came_ranged : {t : Front} {v : View} {blocks : ℕ} {e : Event} {w : Work}
    → RangedFront t → Bytes (registers_of v.areas) → Bytes (sent e) → Came t v blocks e w → RangedWork w
came_ranged r g p shape.nothing = record { front = r; act = says_in none }
came_ranged r g p (shape.cleared on) = record { front = cleared_ranged r on; act = closes_in }
came_ranged r g p (shape.inside on i) = field_ranged r g p i

-- ---- events

sealed_bytes : {s : List ℕ} → Bytes s → Bytes (sealed s)
sealed_bytes {s} p = below_append p (crc_bytes_lem s)

line_bytes : (a : Answer) → Bytes (carried a) → Bytes (line_of a)
line_bytes silence p = none
line_bytes (verdict (Ok tt)) p = sealed_bytes (more zero_byte p)
line_bytes (verdict (Err c)) p = sealed_bytes (more one_byte p)
line_bytes (body b) p = sealed_bytes (more zero_byte p)

pub record RangedStepped (s : Stepped) : Type 0 where
  pub answer : Bytes s.answer
  pub tag : Ranged s.tag
  pub memory : Bytes s.memory

settled_ranged : (hold : Bool) (a : Answer) {t : Tag} {m : List ℕ} → Bytes (carried a) → Ranged t → Bytes m → RangedStepped (settled hold a t m)
settled_ranged true silence p r q = record { answer = none; tag = r; memory = q }
settled_ranged true (verdict v) p r q =
    record { answer = none; tag = record { front = held_ranged r.front (Some v) p; vault = r.vault }; memory = q }
settled_ranged true (body b) p r q = record { answer = line_bytes (body b) p; tag = r; memory = q }
settled_ranged false a p r q = record { answer = line_bytes a p; tag = r; memory = q }

-- the theorem, of one event
pub step_ranged : {t : Tag} {m : List ℕ} (e : Event) → Ranged t → Bytes m → Bytes (sent e) → RangedStepped (step t m e)
unfolding step
step_ranged {t} {m} e r q p =
    let w = work_of t.front (view_of t.vault) (blocks_of m) e in
    let h : RangedWork w = came_ranged r.front r.vault.bytes p (came t.front (view_of t.vault) (blocks_of m) e) in
    let d = perform_ranged (record { front = h.front; vault = r.vault }) q h.act in
    settled_ranged w.hold _ d.answer d.tag d.memory

-- lists of bytes
pub data EachBytes : List (List ℕ) → Type 0 where
  none_left : EachBytes []
  first_and : {s : List ℕ} {ss : List (List ℕ)} → Bytes s → EachBytes ss → EachBytes (s ∷ ss)

pub record RangedRan (x : Ran) : Type 0 where
  pub answers : EachBytes x.answers
  pub tag : Ranged x.tag
  pub memory : Bytes x.memory

-- and of any events in a row
pub run_ranged : {t : Tag} {m : List ℕ} (es : List Event) → Ranged t → Bytes m → EachBytes (map sent es) → RangedRan (run t m es)
unfolding run
run_ranged [] r q p = record { answers = none_left; tag = r; memory = q }
run_ranged {t = t} {m = m} (e ∷ es) r q (first_and p ps) =
    let s = step_ranged e r q p in
    let x = run_ranged {t = (step t m e).tag} {m = (step t m e).memory} es s.tag s.memory ps in
    record { answers = first_and s.answer x.answers; tag = x.tag; memory = x.memory }

-- ---- images

-- a record in range is saved as bytes
pub header_bytes : (size : ℕ) {t : Tag} → Ranged t → Bytes (header_of size t)
unfolding header_of
header_bytes size {t} r =
    let f = t.front in
    let v = t.vault in
    let mark : mark_of size < 256 = if_one (λ (n : ℕ). n < 256) (eqb size 2048) (λ e. omega arith) (λ e. omega arith) in
    let locks : lock_byte t < 256 =
    omega (arith, at_most_one v.lock0, at_most_one v.lock1, at_most_one f.lockafi, at_most_one f.lockdsfid, at_most_one v.lockcfg) in
    let password : (n : ℕ) → Bytes (bytes_of 8 (get_or v.keys.passwords n 0)) = λ n. bytes_of_lem 8 (get_or v.keys.passwords n 0) in
    below_append
    (below_append
    (below_append (more mark (bytes_of_lem 8 f.uid)) (more r.front.afi (more r.front.dsfid (more locks r.vault.bytes))))
    (below_append (below_append (below_append (password 0) (password 1)) (password 2)) (password 3)))
    (below_replicate 13 zero_byte)

pub image_bytes : {t : Tag} {m : List ℕ} → Ranged t → Bytes m → Bytes (image_of t m)
unfolding image_of
image_bytes {t} {m} r q = below_append (header_bytes (length m) r) q

-- and bytes are loaded as a record in range
pub loaded_ranged : {i : List ℕ} → Bytes i → Ranged (tag_in i)
unfolding tag_in
loaded_ranged {i} p =
    let password : (at : ℕ) → number_at 8 i at < 2 ^ 64 = λ at. number_below 8 at p in
    let later = more (byte_at 15 p) (more (byte_at 16 p) (more (byte_at 17 p) (more (byte_at 18 p) none))) in
    record {
      front = record { uid = number_below 8 1 p; afi = byte_at 9 p; dsfid = byte_at 10 p; round = none; held = none };
      vault = record {
        bytes = more (byte_at 12 p) (more (byte_at 13 p) (more (byte_at 14 p) later));
        four = refl;
        passwords = more (password 19) (more (password 27) (more (password 35) (more (password 43) none)));
      };
    }

-- a factory tag is in range too
pub factory_ranged : (e uid : ℕ) → e < 256 → uid < 2 ^ 64 → Ranged (factory e uid)
unfolding factory
factory_ranged e uid h k =
    let password : 0 < 2 ^ 64 = omega arith in
    record {
      front = record { uid = k; afi = zero_byte; dsfid = zero_byte; round = none; held = none };
      vault = record {
        bytes = more zero_byte (more h (more zero_byte (more h (more zero_byte (more h (more zero_byte none))))));
        four = refl;
        passwords = more password (more password (more password (more password none)));
      };
    }
