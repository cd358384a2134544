-- What a command comes to: it is decided from all of the record but the passwords, and without the memory, and done through one gate,
-- `perform`, by which alone a command reaches passwords or memory.
-- Assumes nothing.
use Rattle.std.specs.Prelude.{ℕ, suc, zero, ◌+◌, ◌*◌, Bool, true, false, ◌&&◌, List, [], ◌∷◌, ◌++◌, take, drop, ltb, if◌then◌else◌, Ok, Err}
use Rattle.std.proofs.lemmas.List.Edits.{sets}
use Rattle.rights.specs.declared.Vault.{Vault}
use Rattle.rights.specs.declared.View.{View}
use Rattle.rights.specs.Verdict.{Verdict}
use Rattle.rights.specs.Vault.{view_of}
use Rattle.rights.specs.Passwords.{with_password, present_of}
use Rattle.rights.specs.Blocks.{readable_at, status_at}
use Rattle.rights.specs.Registers.{with_register}
use Rattle.record.specs.declared.Front.{Front}
use Rattle.record.specs.declared.Tag.{Tag}
use Rattle.record.specs.Update.{with_afi, with_dsfid, with_afi_locked, with_dsfid_locked, with_front, with_vault, with_keys, sessionless}

-- an answer before its CRC: none; a verdict, success or error; or success with a body
pub data Answer : Type 0 where
  silence : Answer
  verdict : Verdict → Answer
  body : List ℕ → Answer

abbrev pub error : ℕ → Answer
error c = verdict (Err c)

-- what is written, one after the other: a block, a register, the AFI or DSFID byte, a lock bit, a whole password. Of the two blocks that
-- have a lock bit, `block_lock true` is block 1 and `block_lock false` block 0
pub data Unit : Type 0 where
  block : ℕ → List ℕ → Unit
  register : ℕ → ℕ → Unit
  afi : ℕ → Unit
  dsfid : ℕ → Unit
  block_lock : Bool → Unit
  afi_lock : Unit
  dsfid_lock : Unit
  password : ℕ → ℕ → Unit

-- an answer as it stands; blocks to list, below a limit, from a first one, so many, with status or without; a password presented; units
-- to write; the session closed, as the field comes or goes
pub data Act : Type 0 where
  says : Answer → Act
  lists : ℕ → ℕ → ℕ → Bool → Act
  presents : ℕ → ℕ → Act
  writes : List Unit → Act
  closes : Act

-- the front after it, whether its answer is held, and what is to be done
pub record Work : Type 0 where
  pub front : Front
  pub hold : Bool
  pub act : Act

abbrev pub work : Front → Act → Work
work f a = record { front = f; hold = false; act = a }

-- ---- what reads show: the memory

-- the bytes of block b
abbrev pub shown : List ℕ → ℕ → List ℕ
shown m b = take 4 (drop (4 * b) m)

-- "With Option_flag a status byte precedes each block"
abbrev pub block_shown : View → List ℕ → ℕ → Bool → List ℕ
block_shown v m b true = status_at v b ∷ shown m b
block_shown v m b false = shown m b

-- "the list stops before the first block that is outside or not readable"
unfoldable pub listing : View → List ℕ → ℕ → ℕ → ℕ → Bool → List ℕ
listing v m limit b zero status = []
listing v m limit b (suc n) status =
    if ltb b limit && readable_at v b then block_shown v m b status ++ listing v m limit (b + 1) n status else []

-- ---- what units do

-- block 1 locked, or block 0
abbrev pub with_block_lock : Vault → Bool → Vault
with_block_lock v true = record { areas = v.areas; lock0 = v.lock0; lock1 = true; lockcfg = v.lockcfg; keys = v.keys }
with_block_lock v false = record { areas = v.areas; lock0 = true; lock1 = v.lock1; lockcfg = v.lockcfg; keys = v.keys }

abbrev pub unit_on_tag : Unit → Tag → Tag
unit_on_tag (block b bytes) t = t
unit_on_tag (register address x) t = with_vault t (with_register t.vault address x)
unit_on_tag (afi x) t = with_front t (with_afi t.front x)
unit_on_tag (dsfid x) t = with_front t (with_dsfid t.front x)
unit_on_tag (block_lock second) t = with_vault t (with_block_lock t.vault second)
unit_on_tag afi_lock t = with_front t (with_afi_locked t.front)
unit_on_tag dsfid_lock t = with_front t (with_dsfid_locked t.front)
unit_on_tag (password n w) t = with_vault t (with_keys t.vault (with_password t.vault.keys n w))

abbrev pub unit_on_memory : Unit → List ℕ → List ℕ
unit_on_memory (block b bytes) m = sets m (4 * b) bytes
unit_on_memory (register address x) m = m
unit_on_memory (afi x) m = m
unit_on_memory (dsfid x) m = m
unit_on_memory (block_lock second) m = m
unit_on_memory afi_lock m = m
unit_on_memory dsfid_lock m = m
unit_on_memory (password n w) m = m

-- units in their order
unfoldable pub apply_to_tag : List Unit → Tag → Tag
apply_to_tag [] t = t
apply_to_tag (u ∷ us) t = apply_to_tag us (unit_on_tag u t)

unfoldable pub apply_to_memory : List Unit → List ℕ → List ℕ
apply_to_memory [] m = m
apply_to_memory (u ∷ us) m = apply_to_memory us (unit_on_memory u m)

-- ---- the gate

pub record Done : Type 0 where
  pub answer : Answer
  pub tag : Tag
  pub memory : List ℕ

unfoldable pub perform : Tag → List ℕ → Act → Done
perform t m (says a) = record { answer = a; tag = t; memory = m }
perform t m (lists limit first count status) =
    record { answer = body (listing (view_of t.vault) m limit first count status); tag = t; memory = m }
perform t m (presents n w) =
    let p = present_of t.vault.keys n w in
    record { answer = verdict p.answer; tag = with_vault t (with_keys t.vault p.keys); memory = m }
perform t m (writes us) = record { answer = verdict (Ok tt); tag = apply_to_tag us t; memory = apply_to_memory us m }
perform t m closes = record { answer = silence; tag = with_vault t (sessionless t.vault); memory = m }
