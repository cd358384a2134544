-- What is lent, and what a line changes of it.
-- Assumes nothing.
use Rattle.std.specs.Prelude.{ℕ, ◌≤◌, ◌≡◌, List, length, replicate, Option, Some}
use Rattle.caselines.specs.declared.lent.Lent.{Lent}
use Rattle.caselines.specs.Limits.{memory_most, room_most}
use Rattle.caselines.specs.Form.{Asked, Memory, Room}

-- "lends n (0 to 9,000) bytes of 0 as memory", "lends n (0 to 11,000) bytes of EEh as room"
abbrev pub lent_by : Option Asked → Lent → Lent
lent_by (Some (Memory n)) l = record { memory = n; room = l.room }
lent_by (Some (Room n)) l = record { memory = l.memory; room = n }
lent_by _ l = l

-- the buffers after it: the one that a part is lent of anew is filled, all of it
abbrev pub memory_by : Option Asked → List ℕ → List ℕ
memory_by (Some (Memory n)) m = replicate (length m) 0
memory_by _ m = m

abbrev pub room_by : Option Asked → List ℕ → List ℕ
room_by (Some (Room n)) x = replicate (length x) 0xEE
room_by _ x = x

-- what a line lends: how much, and every byte of the buffers
pub record Lends (asked : Option Asked) (lent : Lent) (m x m' x' : List ℕ) (r : Lent) : Type 0 where
  pub much : r ≡ lent_by asked lent
  pub memory : m' ≡ memory_by asked m
  pub room : x' ≡ room_by asked x

-- what is lent lies within the buffers
pub record Within (l : Lent) : Type 0 where
  pub memory : l.memory ≤ memory_most
  pub room : l.room ≤ room_most
