-- "The record as 72 bytes", the form in which a host in C keeps a record: "the 64 of an image header .. then at 64 field (0, 1), 65 state
-- (0 Ready, 1 Quiet, 2 Selected), 66 session (0 none, 1 to 4 for passwords 0 to 3), 67 round (0 none, 1 open), 68 its slot, 69 its mask length,
-- 70 held (0 none, 1 success, 2 error), 71 its code. Bytes without use are 0."
-- Assumes nothing.
use Rattle.std.specs.Prelude.{ℕ, Bool, ◌&&◌, ◌||◌, List, [], ◌∷◌, ◌++◌, length, get_or, leb, eqb, if◌then◌else◌, Option, Some, None, Ok, Err}
use Rattle.rights.specs.Verdict.{Verdict}
use Rattle.rights.specs.declared.Session.{Session}
use Rattle.rights.specs.declared.Session.TheVariants as session
use Rattle.rights.specs.declared.Vault.{Vault}
use Rattle.rights.specs.Registers.{one_if}
use Rattle.record.specs.declared.Front.{Front}
use Rattle.record.specs.declared.Tag.{Tag}
use Rattle.record.specs.declared.State.{State}
use Rattle.record.specs.declared.State.TheVariants.{Ready, Quiet, Selected}
use Rattle.record.specs.declared.Round.{Round}
use Rattle.record.specs.Update.{with_keys, running}
use Rattle.tag.specs.Rules.{blocks_of, sound}
use Rattle.tag.specs.Image.{mark_of, tag_in, lock_rule, reserved_rule, header_of}

-- the one place that says how long a record is; `include/uistermo.h` has the same number
abbrev pub record_length : ℕ
record_length = 72

-- ---- from bytes to record

abbrev pub state_in : ℕ → State
state_in b = if eqb b 0 then Ready else if eqb b 1 then Quiet else Selected

abbrev pub session_in : ℕ → Option Session
session_in b =
    if eqb b 0 then None else
    if eqb b 1 then Some session.Configuration else
    if eqb b 2 then Some session.User1 else
    if eqb b 3 then Some session.User2 else Some session.User3

abbrev pub round_in : ℕ → ℕ → ℕ → Option Round
round_in b slot mask = if eqb b 1 then running slot mask else None

abbrev pub held_in : ℕ → ℕ → Option Verdict
held_in b code =
    if eqb b 0 then None else
    if eqb b 1 then Some (Ok tt) else Some (Err code)

-- the lasting parts as in an image's header, and the passing ones after it
abbrev pub front_in : List ℕ → Front
front_in r =
    let f = (tag_in r).front in
    record { uid = f.uid; afi = f.afi; dsfid = f.dsfid; lockafi = f.lockafi; lockdsfid = f.lockdsfid; field = eqb (get_or r 64 0) 1; state = state_in (get_or r 65 0); round = round_in (get_or r 67 0) (get_or r 68 0) (get_or r 69 0); held = held_in (get_or r 70 0) (get_or r 71 0) }

abbrev pub vault_in : List ℕ → Vault
vault_in r =
    let v = (tag_in r).vault in
    with_keys v (record { passwords = v.keys.passwords; session = session_in (get_or r 66 0) })

unfoldable pub record_in : List ℕ → Tag
record_in r = record { front = front_in r; vault = vault_in r }

-- ---- "Bytes that are no record are refusal 3"

-- "a size mark that does not fit the lent memory, a reserved byte or lock bit that is not 0"
unfoldable pub lasting_rule : ℕ → List ℕ → Bool
lasting_rule size r = eqb (get_or r 0 0) (mark_of size) && (lock_rule r && reserved_rule r)

-- "a value over those named"
unfoldable pub value_rule : List ℕ → Bool
value_rule r =
    (leb (get_or r 64 0) 1 && (leb (get_or r 65 0) 2 && leb (get_or r 66 0) 4))
    && (leb (get_or r 67 0) 1 && leb (get_or r 70 0) 2)

-- "a slot or mask without a round, a code without a held error"
unfoldable pub unused_rule : List ℕ → Bool
unused_rule r =
    (eqb (get_or r 67 0) 1 || (eqb (get_or r 68 0) 0 && eqb (get_or r 69 0) 0))
    && (eqb (get_or r 70 0) 2 || eqb (get_or r 71 0) 0)

-- ".. and every record rule of 01", by one of which a held error is not of code 0; for a memory of so many bytes and blocks
unfoldable pub record_rule : ℕ → ℕ → List ℕ → Bool
record_rule size blocks r = (lasting_rule size r && (value_rule r && unused_rule r)) && sound blocks (record_in r)

abbrev pub is_record : List ℕ → List ℕ → Bool
is_record m r = record_rule (length m) (blocks_of m) r

-- ---- from record to bytes

abbrev pub state_byte : State → ℕ
state_byte Ready = 0
state_byte Quiet = 1
state_byte Selected = 2

abbrev pub session_byte : Option Session → ℕ
session_byte None = 0
session_byte (Some session.Configuration) = 1
session_byte (Some session.User1) = 2
session_byte (Some session.User2) = 3
session_byte (Some session.User3) = 4

abbrev pub open_byte : Option Round → ℕ
open_byte None = 0
open_byte (Some o) = 1

abbrev pub slot_byte : Option Round → ℕ
slot_byte None = 0
slot_byte (Some o) = o.slot

abbrev pub mask_byte : Option Round → ℕ
mask_byte None = 0
mask_byte (Some o) = o.mask

abbrev pub held_byte : Option Verdict → ℕ
held_byte None = 0
held_byte (Some (Ok tt)) = 1
held_byte (Some (Err code)) = 2

abbrev pub code_byte : Option Verdict → ℕ
code_byte None = 0
code_byte (Some (Ok tt)) = 0
code_byte (Some (Err code)) = code

abbrev pub passing_of : Tag → List ℕ
passing_of t =
    one_if t.front.field ∷ state_byte t.front.state ∷ session_byte t.vault.keys.session
    ∷ open_byte t.front.round ∷ slot_byte t.front.round ∷ mask_byte t.front.round
    ∷ held_byte t.front.held ∷ code_byte t.front.held ∷ []

-- the record of a tag whose memory has so many bytes
unfoldable pub record_of : ℕ → Tag → List ℕ
record_of size t = header_of size t ++ passing_of t
