-- The search's requests as frames, and what the tags of document 01 say to them.
-- Assumes nothing.
use Rattle.std.specs.Prelude.{ℕ, zero, suc, ◌+◌, ◌/◌, ◌^◌, ◌≤◌, ◌<◌, ◌≡◌, Bool, true, false, List, [], ◌∷◌, ◌++◌, if◌then◌else◌}
use Rattle.put.specs.Number.{bytes_of}
use Rattle.record.specs.declared.Front.{Front}
use Rattle.record.specs.declared.Tag.{Tag}
use Rattle.record.specs.declared.State.TheVariants.{Ready}
use Rattle.record.specs.Update.{with_front}
use Rattle.tag.specs.Step.{Event, end_of_frame, request, dropped, sealed, run}
use Rattle.tray.specs.Tray.{Request, speaks_in, requests_sent}

-- ---- frames and events

-- "The search asks with 16 slots": flags 06h (Inventory_flag and the high data rate; no AFI, 16 slots), code 01h, mask length, mask
abbrev pub ask_bytes : ℕ → List ℕ → List ℕ
ask_bytes bits mask = 0x06 ∷ 0x01 ∷ bits ∷ mask

-- .. and CRC
abbrev pub ask_frame : Request → List ℕ
ask_frame q = sealed (ask_bytes q.bits (bytes_of ((q.bits + 7) / 8) q.mask))

-- the frames of some requests, and of a search, in the order sent
unfoldable pub frames_of : List Request → List (List ℕ)
frames_of [] = []
frames_of (q ∷ qs) = ask_frame q ∷ frames_of qs

abbrev pub frames_sent : List ℕ → List (List ℕ)
frames_sent uids = frames_of (requests_sent uids)

-- a request that has 16 slots: "at most 60" (01), and no bit of its mask above its length
pub record Proper (q : Request) : Type 0 where
  pub short : q.bits ≤ 60
  pub low : q.mask < 2 ^ q.bits

-- so many ends of frame
unfoldable pub ends : ℕ → List Event
ends zero = []
ends (suc k) = end_of_frame ∷ ends k

-- a request up to a slot: "slot 0 speaks at once", "each end of frame moves one slot on" (01)
abbrev pub up_to : Request → ℕ → List Event
up_to q slot = request (ask_frame q) ∷ ends slot

-- some requests, each with all its 16 slots, one after the other
unfoldable pub rounds : List Request → List Event
rounds [] = []
rounds (q ∷ qs) = up_to q 15 ++ rounds qs

-- ---- one tag

-- in the field, Ready, and of this UID
pub record Waits (u : ℕ) (t : Tag) : Type 0 where
  pub field : t.front.field ≡ true
  pub state : t.front.state ≡ Ready
  pub uid : t.front.uid ≡ u

-- a tag but for its round and its held answer
abbrev pub still : Tag → Tag
still t = with_front t (dropped t.front)

-- what the search hears of a tag in a slot: "00h, DSFID, UID, CRC" (01), or silence
abbrev pub said_in : Front → Request → ℕ → List ℕ
said_in t q slot = if speaks_in q.mask q.bits slot t.uid then sealed (0x00 ∷ t.dsfid ∷ bytes_of 8 t.uid) else []

-- .. in each of so many slots from one on
unfoldable pub said_from : Front → Request → ℕ → ℕ → List (List ℕ)
said_from t q zero slot = []
said_from t q (suc k) slot = said_in t q slot ∷ said_from t q k (slot + 1)

-- the last of some answers: what was said in the slot that is running
unfoldable pub last_of : List (List ℕ) → List ℕ
last_of [] = []
last_of (a ∷ []) = a
last_of (a ∷ b ∷ rest) = last_of (b ∷ rest)

abbrev pub is_silence : List ℕ → Bool
is_silence [] = true
is_silence (b ∷ bs) = false

-- ---- a tray

-- a tag on it: its record and its memory
pub record Placed : Type 0 where
  pub tag : Tag
  pub memory : List ℕ

-- a tray's tags, "all Ready", have these UIDs in this order
pub data Holds : List Placed → List ℕ → Type 0 where
  empty : Holds [] []
  another : {p : Placed} {ps : List Placed} {u : ℕ} {us : List ℕ} → Waits u p.tag → Holds ps us → Holds (p ∷ ps) (u ∷ us)

-- the UIDs of those tags that are not silent to the last of some events
unfoldable pub speaking : List Event → List Placed → List ℕ
speaking es [] = []
speaking es (p ∷ ps) =
    if is_silence (last_of (run p.tag p.memory es).answers) then speaking es ps else p.tag.front.uid ∷ speaking es ps
