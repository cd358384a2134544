-- Demand 3, in facts: "Take two tags alike except in password 1, 2 or 3, whichever is chosen, and in bytes of Areas 2 to 4 that only that
-- password makes readable. In neither is its session or the configuration session open. Feed both the same events, of any number, in which
-- neither tag's chosen password nor its configuration password is presented under its number. By the definition of demand 2, both give the
-- same bytes and the same silences. They still differ only there, and those passwords and bytes are unchanged."
-- A tag is its record, t or u, with its memory, m or o; p is the number of the password chosen. Words in quotation marks are the demand's, or 01's where 01
-- is named.
-- Assumes nothing.
use Rattle.std.specs.Prelude.{ℕ, ◌/◌, ◌≡◌, ◌≢◌, ◌⊎◌, true, false, List, [], ◌∷◌, length, get_or}
use Rattle.put.specs.Number.{number_at}
use Rattle.rights.specs.Vault.{view_of}
use Rattle.rights.specs.Passwords.{is_open, password_of}
use Rattle.rights.specs.Blocks.{OnlyThis}
use Rattle.record.specs.declared.Tag.{Tag}
use Rattle.tag.specs.Frame.{code_of, fields_at, fields_from, Passes}
use Rattle.tag.specs.Step.{Event, request, step, run}
use Rattle.tag.specs.Host.{EventGiven, event_given}

-- ---- "two tags alike except in password 1, 2 or 3, whichever is chosen, and in bytes .. that only that password makes readable"

-- `view_of`, of rights, is all of a vault but the passwords: registers, locks and the open session. Byte i of the memory is in block i / 4;
-- `OnlyThis`, of rights, says of a block that it is readable in p's session, and neither in another nor in none: so not of Area 1
pub record Except (p : ℕ) (t u : Tag) (m o : List ℕ) : Type 0 where
  pub front : t.front ≡ u.front
  pub view : view_of t.vault ≡ view_of u.vault
  pub count : length t.vault.keys.passwords ≡ length u.vault.keys.passwords
  pub passwords : (n : ℕ) → n ≢ p → password_of t.vault.keys n ≡ password_of u.vault.keys n
  pub size : length m ≡ length o
  pub bytes : (i : ℕ) → (OnlyThis p (view_of t.vault) (i / 4) → ⊥) → get_or m i 0 ≡ get_or o i 0

-- ---- "In neither is its session or the configuration session open."

-- number 0 is configuration
pub record Closed (p : ℕ) (t : Tag) : Type 0 where
  pub its : is_open t.vault.keys.session p ≡ false
  pub configuration : is_open t.vault.keys.session 0 ≡ false

-- ---- "events, of any number, in which neither tag's chosen password nor its configuration password is presented under its number"

-- a value, as the password of a number
pub record Claim : Type 0 where
  pub number : ℕ
  pub value : ℕ

-- 01: "Present B3h (number, 8 bytes; presented means in a frame that passes all checks)": number and value of the fields of such a frame, and
-- in the field, since out of it no frame is looked at
pub data PresentedBy (t : Tag) : Event → Claim → Type 0 where
  in_frame : {f : List ℕ} → t.front.field ≡ true → code_of f ≡ 0xB3 → Passes t.front f
      → PresentedBy t (request f) (record { number = get_or (fields_from (fields_at f) f) 0 0; value = number_at 8 (fields_from (fields_at f) f) 1 })

-- an event presents to a tag its own password, under the chosen number or under 0. A wrong value, another number, or a frame that does not
-- pass all checks may come
pub record Opens (p : ℕ) (t : Tag) (e : Event) : Type 0 where
  pub claim : Claim
  pub by : PresentedBy t e claim
  pub number : (claim.number ≡ p) ⊎ (claim.number ≡ 0)
  pub value : password_of t.vault.keys claim.number ≡ claim.value

-- so does an event of a list, along the tag's own run
pub data Opened (p : ℕ) : Tag → List ℕ → List Event → Type 0 where
  now : {t : Tag} {m : List ℕ} {e : Event} {es : List Event} → Opens p t e → Opened p t m (e ∷ es)
  later : {t : Tag} {m : List ℕ} {e : Event} {es : List Event} → Opened p (step t m e).tag (step t m e).memory es → Opened p t m (e ∷ es)

-- ---- "those passwords and bytes are unchanged", of one tag: from t and m to t' and m'

-- the registers stay, so that "there" is at the end where it was; and so does the memory's length
pub record Unaltered (p : ℕ) (t : Tag) (m : List ℕ) (t' : Tag) (m' : List ℕ) : Type 0 where
  pub registers : t'.vault.areas ≡ t.vault.areas
  pub size : length m' ≡ length m
  pub its : password_of t'.vault.keys p ≡ password_of t.vault.keys p
  pub configuration : password_of t'.vault.keys 0 ≡ password_of t.vault.keys 0
  pub bytes : (i : ℕ) → OnlyThis p (view_of t.vault) (i / 4) → get_or m' i 0 ≡ get_or m i 0

-- ---- the demand

-- "both give the same bytes and the same silences. They still differ only there": one answer for each event, silence being no bytes
pub record Untold (p : ℕ) (t u : Tag) (m o : List ℕ) (es : List Event) : Type 0 where
  pub answers : (run t m es).answers ≡ (run u o es).answers
  pub still : Except p (run t m es).tag (run u o es).tag (run t m es).memory (run u o es).memory
  pub unaltered : Unaltered p t m (run t m es).tag (run t m es).memory
  pub unaltered' : Unaltered p u o (run u o es).tag (run u o es).memory

abbrev pub Demanded : ℕ → Type 0
Demanded p =
    (t u : Tag) (m o : List ℕ) (es : List Event)
    → Except p t u m o
    → Closed p t → Closed p u
    → (Opened p t m es → ⊥)
    → (Opened p u o es → ⊥)
    → Untold p t u m o es

-- "whichever is chosen"
abbrev pub Demand3 : Type 0
Demand3 = Demanded 1 × Demanded 2 × Demanded 3

-- ---- the same of host calls, of any number, refused ones among them, whatever is lent

-- a call for an event, with the room that is lent to it; loading and saving are no events
pub record Call : Type 0 where
  pub event : Event
  pub room : List ℕ

-- what it gives but for record and memory, of which `still` speaks: number, length and every byte of the room
pub record Seen : Type 0 where
  pub number : ℕ
  pub length : ℕ
  pub room : List ℕ

abbrev pub seen_of : EventGiven → Seen
seen_of g = record { number = g.number; length = g.length; room = g.room }

-- calls in a row, each on the record and the memory that the one before it left
pub record Served : Type 0 where
  pub seen : List Seen
  pub tag : Tag
  pub memory : List ℕ

unfoldable pub served : Tag → List ℕ → List Call → Served
served t m [] = record { seen = []; tag = t; memory = m }
served t m (c ∷ cs) =
    let g = event_given t c.event m c.room in
    let r = served g.tag g.memory cs in
    record { seen = seen_of g ∷ r.seen; tag = r.tag; memory = r.memory }

-- a call of a list presents to the tag its own password; one that is refused presents nothing
pub data OpenedIn (p : ℕ) : Tag → List ℕ → List Call → Type 0 where
  now_in : {t : Tag} {m : List ℕ} {c : Call} {cs : List Call}
      → (event_given t c.event m c.room).number ≡ 0 → Opens p t c.event → OpenedIn p t m (c ∷ cs)
  later_in : {t : Tag} {m : List ℕ} {c : Call} {cs : List Call}
      → OpenedIn p (event_given t c.event m c.room).tag (event_given t c.event m c.room).memory cs → OpenedIn p t m (c ∷ cs)

pub record UntoldIn (p : ℕ) (t u : Tag) (m o : List ℕ) (cs : List Call) : Type 0 where
  pub seen : (served t m cs).seen ≡ (served u o cs).seen
  pub still : Except p (served t m cs).tag (served u o cs).tag (served t m cs).memory (served u o cs).memory
  pub unaltered : Unaltered p t m (served t m cs).tag (served t m cs).memory
  pub unaltered' : Unaltered p u o (served u o cs).tag (served u o cs).memory

abbrev pub DemandedIn : ℕ → Type 0
DemandedIn p =
    (t u : Tag) (m o : List ℕ) (cs : List Call)
    → Except p t u m o
    → Closed p t → Closed p u
    → (OpenedIn p t m cs → ⊥)
    → (OpenedIn p u o cs → ⊥)
    → UntoldIn p t u m o cs

abbrev pub Demand3OfCalls : Type 0
Demand3OfCalls = DemandedIn 1 × DemandedIn 2 × DemandedIn 3
