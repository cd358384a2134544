-- "The bench holds one tag record, and each event updates that record": what an event gives (g) where the record is lent.
-- Assumes nothing.
use Rattle.std.specs.Prelude.{ℕ, ◌≡◌, List, Result}
use Rattle.std.specs.Result.{result_err, result_unwrap_or}
use Rattle.record.specs.declared.Refusal.{Refusal}
use Rattle.record.specs.declared.Tag.{Tag}
use Rattle.tag.specs.Host.{number_of, EventGiven}

-- the call returns r, the length of the answer or a refusal, and leaves the record t', the memory m' and the room x'
pub record Updates (g : EventGiven) (t' : Tag) (m' x' : List ℕ) (r : Result ℕ Refusal) : Type 0 where
  pub number : number_of (result_err r) ≡ g.number
  pub length : result_unwrap_or r 0 ≡ g.length
  pub tag : t' ≡ g.tag
  pub memory : m' ≡ g.memory
  pub room : x' ≡ g.room
