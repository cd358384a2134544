-- The one walk over the definition: what a frame is heard as (`Hears`), what a command comes to (`Asked`), and what an event comes to
-- (`Came`), each shape with what is known of it. A theorem over every event goes by these shapes, and walks neither checks nor commands again.
-- Assumes nothing.
use Prim.Native.Nat.{ℕ, ◌+◌, ◌≤◌, ◌<◌}
use mathlib.Core.Path.{◌≡◌, refl}
use mathlib.Core.Bool.{Bool, true, false}
use mathlib.Core.List.{List, [], ◌∷◌}
use lib.ListN.{get_or}
use lib.Dec.{ltb, eqb}
use borrow.Author.Tests.{ltb-true}
use Rattle.std.specs.Prelude.{Option, Some, None, Result, Ok, Err}
use Rattle.put.specs.Number.{number_at}
use Rattle.rights.specs.declared.View.{View}
use Rattle.rights.specs.Verdict.{Verdict}
use Rattle.rights.specs.Passwords.{is_open, change_verdict}
use Rattle.rights.specs.Blocks.{any_barred}
use Rattle.rights.specs.Registers.{register_at, register_verdict}
use Rattle.rights.proofs.Cases.{if_one}
use Rattle.rights.proofs.Sessions.{change_open}
use Rattle.rights.proofs.Addresses.{read_error}
use Rattle.record.specs.declared.Front.{Front}
use Rattle.record.specs.declared.State.{State}
use Rattle.record.specs.declared.State.TheVariants.{Ready, Quiet, Selected}
use Rattle.record.specs.declared.Round.{Round}
use Rattle.record.specs.Update.{with_state, with_round, with_held, passing_cleared, running}
use Rattle.tag.specs.declared.Command.{Command}
use Rattle.tag.specs.declared.Command.TheVariants.{StayQuiet, Read, Write, Lock, Select, ResetToReady, WriteAfi, LockAfi, WriteDsfid, LockDsfid, Status, ReadRegister, WriteRegister, WritePassword, Present, Unlisted}
use Rattle.tag.specs.declared.Entry.{Entry}
use Rattle.tag.specs.declared.Heard.{Heard}
use Rattle.tag.specs.declared.Heard.TheVariants as heard
use Rattle.tag.specs.Rules.{last_end, is_code, held_rule}
use Rattle.tag.specs.Table.{entry_of, first_of, more_of, data_of, limit_of}
use Rattle.tag.specs.Frame.{flag_bit, code_of, option_flag, fields_at, fields_from, check2, check3, check4, check5, check6, select_of_another, check7, check8, check9, check10, Passes, heard_of}
use Rattle.tag.specs.Work.{silence, verdict, body, error, register, afi, dsfid, block_lock, afi_lock, dsfid_lock, password, Act, says, lists, presents, writes, closes, Work, work}
use Rattle.tag.specs.Inventory.{one_slot, mask_length, unheard, inventory_answer, in_slot, inventory_of, next_slot}
use Rattle.tag.specs.Blocks.{granted, read_verdict, statuses, status_verdict, write_verdict, block_units, lock_verdict}
use Rattle.tag.specs.Commands.{front_after, unless, register_answer, act_of, request_of}
use Rattle.tag.specs.Step.{Event, field_on, field_off, end_of_frame, request, dropped, work_heard, frame_of, round_ends, frame_ends, work_of}
use Rattle.tag.proofs.Codes.{Coded, read_coded, status_coded, write_coded, lock_coded, unless_coded, change_coded, register_coded}
use Rattle.tag.proofs.Writes.{write_granted}
use Rattle.tag.proofs.Listing.{limit_within}

-- ---- a frame, by its checks

pub data Hears (t : Front) (f : List ℕ) : Heard → Type 0 where
  silent : Hears t f heard.Silence
  another : Hears t f heard.Deselected
  inventory : Hears t f heard.Inventory
  wrong : (c : ℕ) → is_code c ≡ true → Hears t f (heard.Error c)
  passes : Passes t f → Hears t f (heard.Request (entry_of (code_of f)) (option_flag f) (fields_at f))

pub hears : (t : Front) (f : List ℕ) → Hears t f (heard_of t f)
unfolding heard_of is_code
hears t f =
    let H = Hears t f in
    if_one H (check2 f) (λ e. silent) (λ two.
    if_one H (check3 f) (λ e. silent) (λ three.
    if_one H (check4 f) (λ e. silent) (λ four.
    if_one H (flag_bit 3 f) (λ e. inventory) (λ e.
    if_one H (check5 f) (λ e. silent) (λ five.
    if_one H (check6 t f) (λ e. if_one H (select_of_another t f) (λ e. another) (λ e. silent)) (λ six.
    if_one H (check7 f) (λ e. wrong 0x02 refl) (λ seven.
    if_one H (check8 f) (λ e. silent) (λ eight.
    if_one H (check9 f) (λ e. silent) (λ nine.
    if_one H (check10 f) (λ e. wrong 0x03 refl) (λ ten.
    passes (record { two = two; three = three; four = four; five = five; six = six; seven = seven; eight = eight; nine = nine; ten = ten })))))))))))

-- ---- a command, on a tag of so many blocks, with such fields

pub data Asked (v : View) (blocks : ℕ) (fields : List ℕ) : Command → Act → Type 0 where
  told : {c : Command} (d : Verdict) → Coded d → Asked v blocks fields c (says (verdict d))
  -- each of one command alone
  quiet : Asked v blocks fields StayQuiet (says silence)
  shows : (address x : ℕ) → register_at v address ≡ Ok x → Asked v blocks fields ReadRegister (says (body (x ∷ [])))
  listed : (limit first count : ℕ) (status : Bool) → limit ≤ blocks → Asked v blocks fields Read (lists limit first count status)
  states : (limit first count : ℕ) → limit ≤ blocks → Asked v blocks fields Status (says (body (statuses v limit first count)))
  presented : Asked v blocks fields Present (presents (get_or fields 0 0) (number_at 8 fields 1))
  -- of those that write
  blocks_written : {c : Command} (e : Entry) (first n : ℕ) → any_barred v first n ≡ false
      → Asked v blocks fields c (writes (block_units first n (data_of e fields)))
  block_locked : {c : Command} (second : Bool) → Asked v blocks fields c (writes (block_lock second ∷ []))
  afi_written : {c : Command} → Asked v blocks fields c (writes (afi (get_or fields 0 0) ∷ []))
  afi_locked : {c : Command} → Asked v blocks fields c (writes (afi_lock ∷ []))
  dsfid_written : {c : Command} → Asked v blocks fields c (writes (dsfid (get_or fields 0 0) ∷ []))
  dsfid_locked : {c : Command} → Asked v blocks fields c (writes (dsfid_lock ∷ []))
  register_written : {c : Command} (address : ℕ) → register_verdict (last_end blocks) v address (get_or fields 1 0) ≡ Ok tt
      → Asked v blocks fields c (writes (register address (get_or fields 1 0) ∷ []))
  password_written : {c : Command} (n : ℕ) → is_open v.session n ≡ true → Asked v blocks fields c (writes (password n (number_at 8 fields 1) ∷ []))

module _ (t : Front) (v : View) (blocks : ℕ) (e : Entry) (option : Bool) (fields : List ℕ) where
  abbrev Is : Command → Act → Type 0
  Is c a = Asked v blocks fields c a

  abbrev limit : ℕ
  limit = limit_of e blocks

  abbrev first : ℕ
  first = first_of e fields

  abbrev more : ℕ
  more = more_of e fields

  abbrev byte : ℕ
  byte = get_or fields 0 0

  -- what is refused says its code, and what is granted is done
  by_verdict : {c : Command} (d : Verdict) (a : Act) → Coded d → (d ≡ Ok tt → Is c a) → Is c (granted d a)
  by_verdict (Ok tt) a h k = k refl
  by_verdict (Err x) a h k = told (Err x) h

  register_shown : (address : ℕ) (r : Result ℕ ℕ) → register_at v address ≡ r → Is ReadRegister (register_answer r)
  unfolding held_rule is_code
  register_shown address (Err c) h = told (Err c) (rw (read_error v address c h))
  register_shown address (Ok x) h = shows address x h

  pub asked : (c : Command) → Asked v blocks fields c (act_of c t v blocks e option fields)
  unfolding act_of held_rule is_code
  asked StayQuiet = quiet
  asked Read = by_verdict (read_verdict v limit first) _ (read_coded v limit first) (λ h. listed limit first _ option (limit_within e blocks))
  asked Write =
      by_verdict (write_verdict v limit first more) _ (write_coded v limit first more)
      (λ h. blocks_written e first (more + 1) (write_granted v limit first more h).unbarred)
  asked Lock = by_verdict (lock_verdict v first) _ (lock_coded v first) (λ h. block_locked (eqb first 1))
  asked Select = told (Ok tt) refl
  asked ResetToReady = told (Ok tt) refl
  asked WriteAfi = by_verdict (unless t.lockafi 0x12) _ (unless_coded t.lockafi 0x12 refl) (λ h. afi_written)
  asked LockAfi = by_verdict (unless t.lockafi 0x11) _ (unless_coded t.lockafi 0x11 refl) (λ h. afi_locked)
  asked WriteDsfid = by_verdict (unless t.lockdsfid 0x12) _ (unless_coded t.lockdsfid 0x12 refl) (λ h. dsfid_written)
  asked LockDsfid = by_verdict (unless t.lockdsfid 0x11) _ (unless_coded t.lockdsfid 0x11 refl) (λ h. dsfid_locked)
  asked Status = by_verdict (status_verdict limit first) _ (status_coded limit first) (λ h. states limit first _ (limit_within e blocks))
  asked ReadRegister = register_shown byte (register_at v byte) refl
  asked WriteRegister =
      by_verdict (register_verdict (last_end blocks) v byte (get_or fields 1 0)) _ (register_coded (last_end blocks) v byte (get_or fields 1 0))
      (λ h. register_written byte h)
  asked WritePassword =
      by_verdict (change_verdict v.session byte) _ (change_coded v.session byte)
      (λ h. password_written byte (change_open v.session byte h).1)
  asked Present = presented
  asked Unlisted = told (Err 0x02) refl

-- the front after a command: as it was, or in another state
pub front_by : (P : Front → Type 0) {f : Front} → P f → ((s : State) → P (with_state f s)) → (c : Command) → P (front_after c f)
front_by P p q StayQuiet = q Quiet
front_by P p q Read = p
front_by P p q Write = p
front_by P p q Lock = p
front_by P p q Select = q Selected
front_by P p q ResetToReady = q Ready
front_by P p q WriteAfi = p
front_by P p q LockAfi = p
front_by P p q WriteDsfid = p
front_by P p q LockDsfid = p
front_by P p q Status = p
front_by P p q ReadRegister = p
front_by P p q WriteRegister = p
front_by P p q WritePassword = p
front_by P p q Present = p
front_by P p q Unlisted = p

-- ---- an event, in the field and any

pub data InField (t : Front) (v : View) (blocks : ℕ) : Event → Work → Type 0 where
  unmoved : InField t v blocks end_of_frame (work t (says silence))
  given : (d : Verdict) → t.held ≡ Some d → InField t v blocks end_of_frame (work (with_held t None) (says (verdict d)))
  moved : (slot mask : ℕ) → t.round ≡ running slot mask → slot < 15
      → InField t v blocks end_of_frame (work (with_round t (running (slot + 1) mask)) (says (in_slot t (slot + 1) mask)))
  closed : InField t v blocks end_of_frame (work (with_round t None) (says silence))
  ignored : {f : List ℕ} → InField t v blocks (request f) (work (dropped t) (says silence))
  deselected : {f : List ℕ} → InField t v blocks (request f) (work (with_state (dropped t) Ready) (says silence))
  refused : {f : List ℕ} (c : ℕ) → is_code c ≡ true → InField t v blocks (request f) (work (dropped t) (says (error c)))
  found : {f : List ℕ} → InField t v blocks (request f) (work (dropped t) (says (inventory_answer (dropped t))))
  opened : {f : List ℕ} → unheard (dropped t) f ≡ false → one_slot f ≡ false
      → InField t v blocks (request f)
      (work (with_round (dropped t) (running 0 (mask_length f))) (says (in_slot (dropped t) 0 (mask_length f))))
  done : {f : List ℕ} → Passes (dropped t) f
      → Asked v blocks (fields_from (fields_at f) f) (entry_of (code_of f)).command
      (act_of (entry_of (code_of f)).command (dropped t) v blocks (entry_of (code_of f)) (option_flag f) (fields_from (fields_at f) f))
      → InField t v blocks (request f) (request_of (dropped t) v blocks (entry_of (code_of f)) (option_flag f) (fields_from (fields_at f) f))

pub data Came (t : Front) (v : View) (blocks : ℕ) : Event → Work → Type 0 where
  nothing : {e : Event} → Came t v blocks e (work t (says silence))
  cleared : {e : Event} (on : Bool) → Came t v blocks e (work (passing_cleared t on) closes)
  inside : {e : Event} {w : Work} → t.field ≡ true → InField t v blocks e w → Came t v blocks e w

module _ (t : Front) (v : View) (blocks : ℕ) where
  pub frame_came : (f : List ℕ) {x : Heard} → Hears (dropped t) f x → InField t v blocks (request f) (work_heard x (dropped t) v blocks f)
  unfolding inventory_of
  frame_came f silent = ignored
  frame_came f another = deselected
  frame_came f inventory =
      if_one (InField t v blocks (request f)) (unheard (dropped t) f) (λ u. ignored) (λ u.
      if_one (InField t v blocks (request f)) (one_slot f) (λ o. found) (λ o. opened u o))
  frame_came f (wrong c h) = refused c h
  frame_came f (passes p) = done p (asked (dropped t) v blocks (entry_of (code_of f)) (option_flag f) _ (entry_of (code_of f)).command)

  round_came : (r : Option Round) → t.round ≡ r → InField t v blocks end_of_frame (round_ends r t)
  unfolding next_slot
  round_came None h = unmoved
  round_came (Some o) h =
      if_one (InField t v blocks end_of_frame) (ltb o.slot 15) (λ e. moved o.slot o.mask h (ltb-true o.slot 15 e)) (λ e. closed)

  end_came : (h : Option Verdict) → t.held ≡ h → InField t v blocks end_of_frame (frame_ends h t)
  end_came None h = round_came t.round refl
  end_came (Some d) h = given d h

  pub came : (e : Event) → Came t v blocks e (work_of t v blocks e)
  unfolding work_of frame_of
  came field_on = if_one (Came t v blocks field_on) t.field (λ e. nothing) (λ e. cleared true)
  came field_off = cleared false
  came end_of_frame = if_one (Came t v blocks end_of_frame) t.field (λ on. inside on (end_came t.held refl)) (λ off. nothing)
  came (request f) = if_one (Came t v blocks (request f)) t.field (λ on. inside on (frame_came f (hears (dropped t) f))) (λ off. nothing)

  -- and the work of a frame that is heard as a request, in the field
  pub request_work : (f : List ℕ) {e : Entry} {option : Bool} {start : ℕ} → t.field ≡ true → heard_of (dropped t) f ≡ heard.Request e option start
      → work_of t v blocks (request f) ≡ request_of (dropped t) v blocks e option (fields_from start f)
  unfolding work_of frame_of
  request_work f on h = rw (h, on)
