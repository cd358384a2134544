-- "Write password B1h, same fields: number over 3 is 10h; its session not open 0Fh; otherwise replaced, session kept.": no frame but one of B3h
-- alters the open session, and a B1h that is granted replaces its password alone.
-- Assumes nothing.
use Prim.Native.Nat.{ℕ, ◌≤◌}
use mathlib.Core.Path.{◌≡◌, refl, ap, ◌∙◌}
use mathlib.Core.Logic.{◌≢◌}
use mathlib.Core.Bool.{true, false}
use mathlib.Core.List.{List, [], ◌∷◌}
use native.Mathlib.Omega.{arith}
use lib.ListN.{length, get_or}
use lib.Dec.{eqb}
use borrow.Author.Tests.{le-ltb}
use Rattle.std.specs.Prelude.{Option, Ok}
use Rattle.put.specs.Number.{number_at}
use Rattle.rights.specs.declared.Keys.{Keys}
use Rattle.rights.specs.declared.Session.{Session}
use Rattle.rights.specs.declared.Vault.{Vault}
use Rattle.rights.specs.declared.View.{View}
use Rattle.rights.specs.Vault.{view_of}
use Rattle.rights.specs.Passwords.{is_open, password_of, with_password, change_verdict}
use Rattle.rights.specs.Registers.{with_register}
use Rattle.rights.proofs.Cases.{if_one}
use Rattle.rights.proofs.Sessions.{change_leaves, change_replaces}
use Rattle.record.specs.declared.Tag.{Tag}
use Rattle.record.specs.Update.{with_front}
use Rattle.tag.specs.declared.Command.{Command}
use Rattle.tag.specs.declared.Command.TheVariants.{Present}
use Rattle.tag.specs.Rules.{blocks_of}
use Rattle.tag.specs.Table.{entry_of}
use Rattle.tag.specs.Frame.{code_of, option_flag, fields_at, fields_from, Passes}
use Rattle.tag.specs.Work.{Unit, block, register, afi, dsfid, block_lock, afi_lock, dsfid_lock, password, Act, Work, unit_on_tag, apply_to_tag, perform}
use Rattle.tag.specs.Commands.{act_of, request_of}
use Rattle.tag.specs.Step.{request, dropped, frame_of, work_of, performed, step}
use Rattle.tag.proofs.Sizes.{settled_kept}
use Rattle.tag.proofs.Rows.{present_code}
use Rattle.tag.proofs.Came.{hears, Asked, InField, frame_came, request_work}
use Rattle.tag.proofs.Came as shape
use Rattle.tag.proofs.Presented.{passes_heard}

-- the open session
abbrev open_in : Tag → Option Session
open_in t = t.vault.keys.session

-- ---- what a request does

-- a register is no part of the keys
register_keys : (v : Vault) (address x : ℕ) → (with_register v address x).keys ≡ v.keys
unfolding with_register
register_keys v address x =
    let Same : Vault → Type 0 = λ w. w.keys ≡ v.keys in
    if_one Same (eqb address 0x04) (λ e. refl) (λ e.
    if_one Same (eqb address 0x05) (λ e. refl) (λ e.
    if_one Same (eqb address 0x06) (λ e. refl) (λ e.
    if_one Same (eqb address 0x07) (λ e. refl) (λ e.
    if_one Same (eqb address 0x08) (λ e. refl) (λ e.
    if_one Same (eqb address 0x09) (λ e. refl) (λ e.
    if_one Same (eqb address 0x0A) (λ e. refl) (λ e.
    if_one Same (eqb address 0x0F) (λ e. refl) (λ e. refl))))))))

unit_session : (u : Unit) (t : Tag) → open_in (unit_on_tag u t) ≡ open_in t
unit_session (block b bytes) t = refl
unit_session (register address x) t = rw (register_keys t.vault address x)
unit_session (afi x) t = refl
unit_session (dsfid x) t = refl
unit_session (block_lock true) t = refl
unit_session (block_lock false) t = refl
unit_session afi_lock t = refl
unit_session dsfid_lock t = refl
unit_session (password n w) t = refl

units_session : (us : List Unit) (t : Tag) → open_in (apply_to_tag us t) ≡ open_in t
unfolding apply_to_tag
units_session [] t = refl
units_session (u ∷ us) t = units_session us (unit_on_tag u t) ∙ unit_session u t

act_session : (t : Tag) (m : List ℕ) {v : View} {blocks : ℕ} {fields : List ℕ} {c : Command} {a : Act}
    → c ≢ Present → Asked v blocks fields c a → open_in (perform t m a).tag ≡ open_in t
unfolding perform
act_session t m h (shape.told d k) = refl
act_session t m h shape.quiet = refl
act_session t m h (shape.shows address x k) = refl
act_session t m h (shape.listed limit first count status k) = refl
act_session t m h (shape.states limit first count k) = refl
act_session t m h shape.presented = absurd (h refl)
act_session t m h (shape.blocks_written e first n k) = units_session _ t
act_session t m h (shape.block_locked b) = units_session _ t
act_session t m h shape.afi_written = units_session _ t
act_session t m h shape.afi_locked = units_session _ t
act_session t m h shape.dsfid_written = units_session _ t
act_session t m h shape.dsfid_locked = units_session _ t
act_session t m h (shape.register_written address k) = units_session _ t
act_session t m h (shape.password_written n k) = units_session _ t

-- held or given at once, the answer leaves the vault as the act does
performed_vault : (t : Tag) (m : List ℕ) (w : Work) → (performed t m w).tag.vault ≡ (perform (with_front t w.front) m w.act).tag.vault
performed_vault t m w =
    let d = perform (with_front t w.front) m w.act in
    (settled_kept w.hold d.answer d.tag d.memory).0

frame_session : (t : Tag) (m : List ℕ) {f : List ℕ} {v : View} {blocks : ℕ} {w : Work}
    → code_of f ≢ 0xB3 → InField t.front v blocks (request f) w → open_in (performed t m w).tag ≡ open_in t
unfolding perform request_of
frame_session t m other shape.ignored = refl
frame_session t m other shape.deselected = refl
frame_session t m other (shape.refused c k) = refl
frame_session t m other shape.found = refl
frame_session t m other (shape.opened u o) = refl
frame_session t m {f} {v} {blocks} other (shape.done p a) =
    let w = request_of (dropped t.front) v blocks (entry_of (code_of f)) (option_flag f) (fields_from (fields_at f) f) in
    ap (λ (x : Vault). x.keys.session) (performed_vault t m w) ∙ act_session _ m (λ e. other (present_code (code_of f) e)) a

-- ---- the theorems

-- whatever the frame, but for those of B3h
pub session_kept : (t : Tag) (m f : List ℕ) → code_of f ≢ 0xB3 → (step t m (request f)).tag.vault.keys.session ≡ t.vault.keys.session
unfolding frame_of work_of step perform
session_kept t m f other =
    let v = view_of t.vault in
    if_one (λ (w : Work). open_in (performed t m w).tag ≡ open_in t) t.front.field
    (λ on. frame_session t m other (frame_came t.front v (blocks_of m) f (hears (dropped t.front) f))) (λ off. refl)

keys_after : (t : Tag) (m f : List ℕ) → t.front.field ≡ true → code_of f ≡ 0xB1 → Passes t.front f
    → let fields = fields_from (fields_at f) f in get_or fields 0 0 ≤ 3 → is_open t.vault.keys.session (get_or fields 0 0) ≡ true
    → (step t m (request f)).tag.vault.keys ≡ with_password t.vault.keys (get_or fields 0 0) (number_at 8 fields 1)
unfolding step request_of entry_of act_of change_verdict perform apply_to_tag
keys_after t m f on code p small own =
    let v = view_of t.vault in
    let h = passes_heard t.front f (λ e. omega arith) p in
    let w = request_of (dropped t.front) v (blocks_of m) (entry_of (code_of f)) (option_flag f) (fields_from (fields_at f) f) in
    rw (request_work t.front v (blocks_of m) f on h) (ap (λ (x : Vault). x.keys) (performed_vault t m w) ∙ rw (code, le-ltb 3 _ small, own))

-- password n alone is replaced, by w
pub record Replaced (k : Keys) (n w : ℕ) (k' : Keys) : Type 0 where
  pub its : password_of k' n ≡ w
  pub others : (i : ℕ) → i ≢ n → password_of k' i ≡ password_of k i
  pub session : k'.session ≡ k.session

-- a B1h frame that passes all checks, in the field, of a number at most 3 whose session is open: of the four passwords that one is the 8 bytes
-- sent, the others and the session are as they were
pub password_replaced : (t : Tag) (m f : List ℕ) → t.front.field ≡ true → code_of f ≡ 0xB1 → Passes t.front f
    → let fields = fields_from (fields_at f) f in get_or fields 0 0 ≤ 3 → is_open t.vault.keys.session (get_or fields 0 0) ≡ true
    → length t.vault.keys.passwords ≡ 4
    → Replaced t.vault.keys (get_or fields 0 0) (number_at 8 fields 1) (step t m (request f)).tag.vault.keys
password_replaced t m f on code p small own four =
    let k = t.vault.keys in
    let n = get_or (fields_from (fields_at f) f) 0 0 in
    let w = number_at 8 (fields_from (fields_at f) f) 1 in
    rw (keys_after t m f on code p small own)
    (record { its = change_replaces k n w (omega (arith, small, four)); others = λ i h. change_leaves (Ok tt) k n w i h; session = refl })
