-- W-201, "Finding every tag on a tray." Quoted words are document 02's where nothing else is said. A tag is its UID, "all Ready and given by their
-- UIDs"; what a tag of document 01 says to these requests is in Tags.
-- Assumes nothing.
use Rattle.std.specs.Prelude.{◌≡◌, ℕ, zero, suc, ◌+◌, ◌*◌, ◌^◌, ◌<◌, Bool, true, false, ◌&&◌, ◌||◌, List, [], ◌∷◌, ◌++◌, length, take, drop, leb, ltb, eqb, if◌then◌else◌, Result, Ok, Err}
use Rattle.record.specs.declared.Refusal.{Refusal}
use Rattle.tag.specs.Inventory.{low_bits, next_four, fits}

-- ---- one request

-- a request: its mask, and of how many bits that is
pub record Request : Type 0 where
  pub mask : ℕ
  pub bits : ℕ

abbrev pub asks : ℕ → ℕ → Request
asks mask bits = record { mask = mask; bits = bits }

-- 01: "The lowest mask-length bits of the UID must match", "the next four UID bits are the slot"
unfoldable pub speaks_in : ℕ → ℕ → ℕ → ℕ → Bool
speaks_in mask bits slot u = fits mask bits u && eqb (next_four u bits) slot

-- those of a list that pass a test
unfoldable pub those : (ℕ → Bool) → List ℕ → List ℕ
those test [] = []
those test (u ∷ us) = if test u then u ∷ those test us else those test us

-- who answers in a slot of the request with a mask of so many bits
abbrev pub answering : List ℕ → ℕ → ℕ → ℕ → List ℕ
answering uids mask bits slot = those (speaks_in mask bits slot) uids

-- "The search asks with 16 slots": what each of so many slots gives, from one slot on, one after the other
unfoldable pub joined : {A : Type 0} → (ℕ → List A) → ℕ → ℕ → List A
joined f zero slot = []
joined f (suc k) slot = f slot ++ joined f k (slot + 1)

-- ".. the mask longer by that slot's four bits"
abbrev pub longer : ℕ → ℕ → ℕ → ℕ
longer mask bits slot = slot * 2 ^ bits + mask

-- ---- the search: "a slot with two or more answers is a collision, and the search goes again with the mask longer by that slot's four bits"

-- the UIDs that a slot gives, by its answers: none, the one, or what the search finds that goes again with a mask
unfoldable pub heard : List ℕ → (ℕ → ℕ → List ℕ) → ℕ → ℕ → List ℕ
heard [] again mask bits = []
heard (u ∷ []) again mask bits = u ∷ []
heard (u ∷ v ∷ us) again mask bits = again mask bits

-- the UIDs found by the request with a mask of so many bits, and by those that follow from it. So many groups of four bits are above the mask;
-- where none is, no request can be sent
unfoldable pub found : ℕ → List ℕ → ℕ → ℕ → List ℕ
found zero uids mask bits = []
found (suc left) uids mask bits = joined (λ slot. heard (answering uids mask bits slot) (found left uids) (longer mask bits slot) (bits + 4)) 16 0

-- the requests that follow from a slot, by its answers: none, or those of the search that goes again
unfoldable pub follow : List ℕ → (ℕ → ℕ → List Request) → ℕ → ℕ → List Request
follow [] again mask bits = []
follow (u ∷ []) again mask bits = []
follow (u ∷ v ∷ us) again mask bits = again mask bits

-- the request with a mask of so many bits, and those that follow from it, in the order sent: after its 16 slots the search goes again for each that
-- collided, slot 0 first
unfoldable pub sent : ℕ → List ℕ → ℕ → ℕ → List Request
sent zero uids mask bits = []
sent (suc left) uids mask bits =
    asks mask bits ∷ joined (λ slot. follow (answering uids mask bits slot) (sent left uids) (longer mask bits slot) (bits + 4)) 16 0

-- the whole search begins with the empty mask; a UID has 16 groups
abbrev pub search_finds : List ℕ → List ℕ
search_finds uids = found 16 uids 0 0

abbrev pub requests_sent : List ℕ → List Request
requests_sent uids = sent 16 uids 0 0

-- "the number of Inventory requests sent"
abbrev pub search_sends : List ℕ → ℕ
search_sends uids = length (requests_sent uids)

-- ---- the call

-- "7 if two UIDs are equal"
unfoldable pub is_in : ℕ → List ℕ → Bool
is_in u [] = false
is_in u (v ∷ vs) = eqb u v || is_in u vs

unfoldable pub any_equal : List ℕ → Bool
any_equal [] = false
any_equal (u ∷ us) = is_in u us || any_equal us

-- the number of the refusal (0: none), the number of requests, and the list's room as the call leaves it
pub record SearchGiven : Type 0 where
  pub number : ℕ
  pub requests : ℕ
  pub list : List ℕ

abbrev pub given : ℕ → ℕ → List ℕ → SearchGiven
given number requests list = record { number = number; requests = requests; list = list }

-- what is returned: the number of requests, or a refusal, of which none is sent
abbrev pub requests_in : Result ℕ Refusal → ℕ
requests_in (Ok n) = n
requests_in (Err r) = 0

-- "Refusals: 6 for more than 256 tags, then 7 if two UIDs are equal, then 18 if the list's room is too small for all; the list is unchanged
-- and the number is 0." The UIDs found fill the first entries of the room, and the rest stays
unfoldable pub search_given : List ℕ → List ℕ → SearchGiven
search_given uids room =
    if ltb 256 (length uids) then given 6 0 room else
    if any_equal uids then given 7 0 room else
    if ltb (length room) (length uids) then given 18 0 room else
    given 0 (search_sends uids) (search_finds uids ++ drop (length uids) room)

-- ---- words of the theorems

-- "ascending order of the UID's four-bit groups taken from the lowest": of the lowest group in which two differ, the lesser is the first's
pub record Before (u v : ℕ) : Type 0 where
  pub group : ℕ
  pub same : low_bits u (4 * group) ≡ low_bits v (4 * group)
  pub less : next_four u (4 * group) < next_four v (4 * group)

-- each of a list
pub data Each {A : Type 0} (P : A → Type 0) : List A → Type 0 where
  none : Each P []
  more : {u : A} {us : List A} → P u → Each P us → Each P (u ∷ us)

pub data Ascending : List ℕ → Type 0 where
  nobody : Ascending []
  first : {u : ℕ} {us : List ℕ} → Each (Before u) us → Ascending us → Ascending (u ∷ us)

-- how often a number stands in a list
unfoldable pub times_in : ℕ → List ℕ → ℕ
times_in u [] = 0
times_in u (v ∷ vs) = (if eqb u v then 1 else 0) + times_in u vs

-- a search that lists "each UID once, in ascending order of the UID's four-bit groups taken from the lowest", and nothing else
pub record Lists (uids room : List ℕ) (g : SearchGiven) : Type 0 where
  pub number : g.number ≡ 0
  pub requests : g.requests ≡ search_sends uids
  pub ascends : Ascending (take (length uids) g.list)
  pub once : (u : ℕ) → is_in u uids ≡ true → times_in u (take (length uids) g.list) ≡ 1
  pub nothing : (u : ℕ) → is_in u uids ≡ false → times_in u (take (length uids) g.list) ≡ 0
  pub rest : drop (length uids) g.list ≡ drop (length uids) room

-- the sum over so many numbers, from one on
unfoldable pub total : (ℕ → ℕ) → ℕ → ℕ → ℕ
total f zero at = 0
total f (suc k) at = f at + total f k (at + 1)

-- how many masks of so many bits two or more tags share
unfoldable pub shared_masks : List ℕ → ℕ → ℕ
shared_masks uids bits = total (λ mask. if leb 2 (length (those (fits mask bits) uids)) then 1 else 0) (2 ^ bits) 0
