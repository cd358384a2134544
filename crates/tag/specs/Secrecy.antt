-- Demand 3 as the proofs go by it: by tests that compute, and for a set of chosen passwords, of which the demand takes 1 alone, 2 alone and
-- 3 alone; of events and of host calls. Demand3 says both in facts, and is proved from this. A tag is its record, t or u, with its memory, m
-- or o. Words in quotation marks are the demand's.
-- Assumes nothing.
use Rattle.std.specs.Prelude.{ℕ, ◌/◌, ◌≡◌, Bool, true, false, not, ◌&&◌, ◌||◌, List, [], ◌∷◌, length, get_or, eqb, if◌then◌else◌, Option, Some, None}
use Rattle.std.specs.Result.{result_err}
use Rattle.rights.specs.declared.Areas.{Areas}
use Rattle.rights.specs.declared.Keys.{Keys}
use Rattle.rights.specs.declared.Session.{Session}
use Rattle.rights.specs.declared.Vault.{Vault}
use Rattle.rights.specs.Vault.{view_of}
use Rattle.rights.specs.Passwords.{is_open, password_of}
use Rattle.rights.specs.Blocks.{hidden_by}
use Rattle.record.specs.declared.Tag.{Tag}
use Rattle.tag.specs.Rules.{blocks_of}
use Rattle.tag.specs.Work.{Act, says, lists, presents, writes, closes}
use Rattle.tag.specs.Step.{Event, work_of, step, run}
use Rattle.tag.specs.Host.{number_of, Reply, length_in, tag_after, EventGiven, event_given, EventGives}
use Rattle.tag.specs.Demand3.{Claim, Call, served}

-- ---- "bytes of Areas 2 to 4 that only that password makes readable"

-- byte i of the memory, which is in block i / 4. `hidden_by`, of rights, says of a block that it is in Areas 2 to 4, that its register has
-- protection 10 or 11, and that the register's password bits name a chosen password: of passwords 1 to 3, by the laws hidden_by_one and
-- hidden_only, of rights, that it is readable in the session of a chosen password and in no session that is none of theirs
abbrev pub hidden : (ℕ → Bool) → Areas → ℕ → Bool
hidden chosen a i = hidden_by chosen a (i / 4)

-- ---- "two tags alike except in password 1, 2 or 3, whichever is chosen, and in bytes .."

-- two lists as long as each other, which differ at most where `apart` is true
pub record SameBut (apart : ℕ → Bool) (xs ys : List ℕ) : Type 0 where
  pub size : length xs ≡ length ys
  pub at : (i : ℕ) → apart i ≡ false → get_or xs i 0 ≡ get_or ys i 0

-- `view_of`, of rights, is all of a vault but the passwords: registers, locks and the open session
pub record Alike (chosen : ℕ → Bool) (t u : Tag) (m o : List ℕ) : Type 0 where
  pub front : t.front ≡ u.front
  pub view : view_of t.vault ≡ view_of u.vault
  pub passwords : SameBut chosen t.vault.keys.passwords u.vault.keys.passwords
  pub memory : SameBut (hidden chosen t.vault.areas) m o

-- ---- "In neither is its session or the configuration session open."

-- the passwords that guard: the chosen ones, and number 0, the configuration password
abbrev pub guards : (ℕ → Bool) → ℕ → Bool
guards chosen n = chosen n || eqb n 0

-- the session of none of them is open. Alike tags have one session, so what is said of one is said of both
pub record Shut (chosen : ℕ → Bool) (s : Option Session) : Type 0 where
  pub closed : (n : ℕ) → guards chosen n ≡ true → is_open s n ≡ false

-- ---- "neither tag's chosen password nor its configuration password is presented under its number"

abbrev pub claim_of : Act → Option Claim
claim_of (says a) = None
claim_of (lists limit first count status) = None
claim_of (presents n w) = Some (record { number = n; value = w })
claim_of (writes us) = None
claim_of closes = None

-- an event presents to a tag what the tag's step on that event goes by: by the law presented_means, just what `PresentedBy` of Demand3 says
unfoldable pub presented : Tag → List ℕ → Event → Option Claim
presented t m e = claim_of (work_of t.front (view_of t.vault) (blocks_of m) e).act

-- what is presented is the tag's password of that number, and one of those that guard
abbrev pub opens : (ℕ → Bool) → Keys → Option Claim → Bool
opens chosen k None = false
opens chosen k (Some c) = guards chosen c.number && eqb (password_of k c.number) c.value

-- no event of a list presents such a password, along the tag's own run: each event to the tag as it then is, which by `Kept` has the
-- passwords of its start. A wrong value, another number, or a frame that the tag ignores may come
unfoldable pub unopened : (ℕ → Bool) → Tag → List ℕ → List Event → Bool
unopened chosen t m [] = true
unopened chosen t m (e ∷ es) =
    let s = step t m e in
    not (opens chosen t.vault.keys (presented t m e)) && unopened chosen s.tag s.memory es

-- ---- "those passwords and bytes are unchanged", of one tag: from the vault v and memory m to v' and m'

-- the registers stay too, so that the hidden bytes are the same ones; and the sessions are still shut
pub record Kept (chosen : ℕ → Bool) (v : Vault) (m : List ℕ) (v' : Vault) (m' : List ℕ) : Type 0 where
  pub passwords : (n : ℕ) → guards chosen n ≡ true → password_of v'.keys n ≡ password_of v.keys n
  pub memory : SameBut (λ i. not (hidden chosen v.areas i)) m' m
  pub areas : v'.areas ≡ v.areas
  pub shut : Shut chosen v'.keys.session

abbrev pub Unchanged : (ℕ → Bool) → Type 0
Unchanged chosen =
    (t : Tag) (m : List ℕ) (es : List Event)
    → Shut chosen t.vault.keys.session
    → unopened chosen t m es ≡ true
    → Kept chosen t.vault m (run t m es).tag.vault (run t m es).memory

-- ---- "By the definition of demand 2, both give the same bytes and the same silences. They still differ only there"

-- the answers are a list with one for each event, silence being no bytes; "still differ only there" is `Alike` again
pub record Secret (chosen : ℕ → Bool) (t u : Tag) (m o : List ℕ) (es : List Event) : Type 0 where
  pub answers : (run t m es).answers ≡ (run u o es).answers
  pub alike : Alike chosen (run t m es).tag (run u o es).tag (run t m es).memory (run u o es).memory
  pub kept : Kept chosen t.vault m (run t m es).tag.vault (run t m es).memory
  pub kept' : Kept chosen u.vault o (run u o es).tag.vault (run u o es).memory

-- "the same events, of any number": each tag by itself hears none of its own passwords that guard
abbrev pub Secrecy : (ℕ → Bool) → Type 0
Secrecy chosen =
    (t u : Tag) (m o : List ℕ) (es : List Event)
    → Alike chosen t u m o
    → Shut chosen t.vault.keys.session
    → unopened chosen t m es ≡ true
    → unopened chosen u o es ≡ true
    → Secret chosen t u m o es

-- "password 1, 2 or 3, whichever is chosen"
abbrev pub only : ℕ → ℕ → Bool
only p n = eqb n p

-- ---- the same of host calls, whatever is lent

-- a call that is refused presents nothing
abbrev pub unrefused : ℕ → Option Claim → Option Claim
unrefused number c = if eqb number 0 then c else None

-- after a call on each tag: number, length and every byte of the room
pub record SameCall (chosen : ℕ → Bool) (t u : Tag) (m o : List ℕ) (g h : EventGiven) : Type 0 where
  pub number : g.number ≡ h.number
  pub length : g.length ≡ h.length
  pub room : g.room ≡ h.room
  pub alike : Alike chosen g.tag h.tag g.memory h.memory
  pub kept : Kept chosen t.vault m g.tag.vault g.memory
  pub kept' : Kept chosen u.vault o h.tag.vault h.memory

-- what a call has given that returns r and leaves the memory m and the room x
abbrev pub given_by : Tag → Reply → List ℕ → List ℕ → EventGiven
given_by t r m x = record { number = number_of (result_err r); length = length_in r; tag = tag_after t r; memory = m; room = x }

-- for any record, memory and room: a call on each tag with the same event, and the same room x at entry
abbrev pub CallSecrecy : (ℕ → Bool) → Type 0
CallSecrecy chosen =
    (t u : Tag) (m o : List ℕ) (e : Event) (x : List ℕ) (r s : Reply) (m' o' x' y' : List ℕ)
    → Alike chosen t u m o
    → Shut chosen t.vault.keys.session
    → opens chosen t.vault.keys (unrefused (number_of (result_err r)) (presented t m e)) ≡ false
    → opens chosen u.vault.keys (unrefused (number_of (result_err s)) (presented u o e)) ≡ false
    → EventGives t e m x m' x' r
    → EventGives u e o x o' y' s
    → SameCall chosen t u m o (given_by t r m' x') (given_by u s o' y')

-- ---- and of any number of them, refused ones among them

-- no call of a list presents a password that guards
unfoldable pub unopened_calls : (ℕ → Bool) → Tag → List ℕ → List Call → Bool
unopened_calls chosen t m [] = true
unopened_calls chosen t m (c ∷ cs) =
    let g = event_given t c.event m c.room in
    not (opens chosen t.vault.keys (unrefused g.number (presented t m c.event)))
    && unopened_calls chosen g.tag g.memory cs

pub record SameServed (chosen : ℕ → Bool) (t u : Tag) (m o : List ℕ) (cs : List Call) : Type 0 where
  pub seen : (served t m cs).seen ≡ (served u o cs).seen
  pub alike : Alike chosen (served t m cs).tag (served u o cs).tag (served t m cs).memory (served u o cs).memory
  pub kept : Kept chosen t.vault m (served t m cs).tag.vault (served t m cs).memory
  pub kept' : Kept chosen u.vault o (served u o cs).tag.vault (served u o cs).memory

abbrev pub CallsSecrecy : (ℕ → Bool) → Type 0
CallsSecrecy chosen =
    (t u : Tag) (m o : List ℕ) (cs : List Call)
    → Alike chosen t u m o
    → Shut chosen t.vault.keys.session
    → unopened_calls chosen t m cs ≡ true
    → unopened_calls chosen u o cs ≡ true
    → SameServed chosen t u m o cs
