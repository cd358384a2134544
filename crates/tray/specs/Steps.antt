-- What the functions of the search ask and promise one another. No caller outside sees these.
-- Assumes nothing.
use Rattle.std.specs.Prelude.{ℕ, zero, suc, min, ◌+◌, ◌*◌, ◌-◌, ◌/◌, ◌^◌, ◌≤◌, ◌<◌, ◌≡◌, List, [], ◌∷◌, length, Option, None, Some, if◌then◌else◌}
use Rattle.put.specs.Put.{Put}
use Rattle.tag.specs.Inventory.{next_four, fits}
use Rattle.tray.specs.Tray.{answering, longer, heard, found, total}

-- ---- the count as the walk makes it; that it is the number of the requests sent is the law `walk_counts`

-- the requests that a slot costs, by its answers
unfoldable pub costs : List ℕ → (ℕ → ℕ → ℕ) → ℕ → ℕ → ℕ
costs [] again mask bits = 0
costs (u ∷ []) again mask bits = 0
costs (u ∷ v ∷ us) again mask bits = again mask bits

unfoldable pub requests : ℕ → List ℕ → ℕ → ℕ → ℕ
requests zero uids mask bits = 0
requests (suc left) uids mask bits =
    1 + total (λ slot. costs (answering uids mask bits slot) (requests left uids) (longer mask bits slot) (bits + 4)) 16 0

-- ---- one slot of a request

-- the slot in which a UID answers, if the mask fits it
abbrev pub slot_in : ℕ → ℕ → ℕ → Option ℕ
slot_in mask bits u = if fits mask bits u then Some (next_four u bits) else None

-- so many groups of four bits are above a mask of so many bits
abbrev pub above : ℕ → ℕ
above bits = (64 - bits) / 4

abbrev pub slot_finds : List ℕ → ℕ → ℕ → ℕ → List ℕ
slot_finds uids mask bits slot = heard (answering uids mask bits slot) (found (above (bits + 4)) uids) (longer mask bits slot) (bits + 4)

abbrev pub slot_sends : List ℕ → ℕ → ℕ → ℕ → ℕ
slot_sends uids mask bits slot = costs (answering uids mask bits slot) (requests (above (bits + 4)) uids) (longer mask bits slot) (bits + 4)

-- ---- contracts

-- one answer more in a slot, where a slot's answers are counted, up to 15, in the four bits that have its number
pub record Counted (tally slot after : ℕ) : Type 0 where
  pub here : next_four after (4 * slot) ≡ min 15 (next_four tally (4 * slot) + 1)
  pub others : (s : ℕ) → (s ≡ slot → ⊥) → next_four after (4 * s) ≡ next_four tally (4 * s)

-- how many answer in each slot of a request, so counted
pub record Listened (uids : List ℕ) (mask bits tally : ℕ) : Type 0 where
  pub answers : (slot : ℕ) → next_four tally (4 * slot) ≡ min 15 (length (answering uids mask bits slot))

-- a request with a mask of so many bits, the groups of four bits above it, and room for what it finds
pub record Asks (uids : List ℕ) (mask bits : ℕ) (out : List ℕ) : Type 0 where
  pub span : bits + 4 * above bits ≡ 64
  pub low : mask < 2 ^ bits
  pub few : length uids ≤ 256
  pub room : length (found (above bits) uids mask bits) ≤ length out

pub record Asked (uids : List ℕ) (mask bits : ℕ) (out after : List ℕ) (count sent : ℕ) : Type 0 where
  pub put : Put (found (above bits) uids mask bits) out after count
  pub sends : sent ≡ requests (above bits) uids mask bits

-- one slot of it
pub record AsksSlot (uids : List ℕ) (mask bits slot tally : ℕ) (out : List ℕ) : Type 0 where
  pub span : bits + 4 * above (bits + 4) ≡ 60
  pub low : mask < 2 ^ bits
  pub few : length uids ≤ 256
  pub slots : slot < 16
  pub listened : Listened uids mask bits tally
  pub room : length (slot_finds uids mask bits slot) ≤ length out

pub record AskedSlot (uids : List ℕ) (mask bits slot : ℕ) (out after : List ℕ) (count sent : ℕ) : Type 0 where
  pub put : Put (slot_finds uids mask bits slot) out after count
  pub sends : sent ≡ slot_sends uids mask bits slot
