-- What the functions of this crate promise, in the definition's terms.
-- Assumes nothing.
use Rattle.std.specs.Prelude.{ℕ, ◌+◌, ◌-◌, ◌*◌, ◌≤◌, Bool, ◌≡◌, List, [], ◌∷◌, ◌++◌, length, take, drop, Result, Ok, Err}
use Rattle.rights.specs.Verdict.{Verdict}
use Rattle.record.specs.declared.Tag.{Tag}
use Rattle.tag.specs.declared.Command.TheVariants.{Write}
use Rattle.tag.specs.declared.Entry.{Entry}
use Rattle.rights.specs.Vault.{view_of}
use Rattle.tag.specs.Rules.{blocks_of}
use Rattle.tag.specs.Table.{first_of, more_of, head_of, limit_of}
use Rattle.tag.specs.Blocks.{write_verdict}
use Rattle.tag.specs.Work.{Answer, silence, verdict, body, Act, Done, perform}
use Rattle.tag.specs.Step.{Stepped, sealed, settled}
use Rattle.record.specs.declared.Outcome.{Outcome}

-- what an event gives: the answer stands at the start of the room, which was x and is x', and the rest of it is as it was; r has its length, and
-- the record; the memory is m'
pub record Gives (s : Stepped) (x m' x' : List ℕ) (r : Outcome) : Type 0 where
  pub result : r ≡ record { length = length s.answer; tag = s.tag }
  pub memory : m' ≡ s.memory
  pub room : x' ≡ s.answer ++ drop (length s.answer) x

-- ---- unsealed: an answer before its CRC, which follows at one place, when all else is done

-- "Success begins 00h; an error is 01h, code"
abbrev pub unsealed_of : Answer → List ℕ
unsealed_of silence = []
unsealed_of (verdict (Ok tt)) = 0x00 ∷ []
unsealed_of (verdict (Err c)) = 0x01 ∷ c ∷ []
unsealed_of (body b) = 0x00 ∷ b

-- "CRC follows.", of an answer that is not silence
abbrev pub sealed_unless_silent : List ℕ → List ℕ
sealed_unless_silent [] = []
sealed_unless_silent (b ∷ bs) = sealed (b ∷ bs)

-- an answer less its last two bytes, the CRC; silence stays silence
abbrev pub unsealed : List ℕ → List ℕ
unsealed a = take (length a - 2) a

-- what an event gives before the CRC: as `Gives`, with the answer less its CRC
pub record GivesUnsealed (s : Stepped) (x m' x' : List ℕ) (r : Outcome) : Type 0 where
  pub result : r ≡ record { length = length (unsealed s.answer); tag = s.tag }
  pub memory : m' ≡ s.memory
  pub room : x' ≡ unsealed s.answer ++ drop (length (unsealed s.answer)) x

-- what is done, answered at once or held
abbrev pub concluded : Bool → Done → Stepped
concluded hold d = settled hold d.answer d.tag d.memory

-- an act done by a function that is not lent the memory, whatever that is
abbrev pub Does : Bool → Tag → Act → List ℕ → List ℕ → Outcome → Type 0
Does hold t act x x' r = (m : List ℕ) → GivesUnsealed (concluded hold (perform t m act)) x m x' r

-- the tag after what a command made of it, and the verdict of that
abbrev pub tag_after : Result Tag ℕ → Tag → Tag
tag_after (Ok next) t = next
tag_after (Err c) t = t

abbrev pub verdict_of : Result Tag ℕ → Verdict
verdict_of (Ok next) = Ok tt
verdict_of (Err c) = Err c

-- the verdict on a write, by its fields
abbrev pub verdict_on : Tag → Entry → List ℕ → List ℕ → Verdict
verdict_on t e fields m = write_verdict (view_of t.vault) (limit_of e (blocks_of m)) (first_of e fields) (more_of e fields)

-- the fields of a write have the bytes of all its blocks
abbrev pub DataThere : Entry → List ℕ → Type 0
DataThere e fields = e.command ≡ Write → head_of e + 4 * (more_of e fields + 1) ≤ length fields
