-- "Host calls and their numbers": what each call gives, for every input whatever.
-- Assumes nothing.
use Rattle.std.specs.Prelude.{ℕ, ◌+◌, Bool, not, ◌||◌, ◌&&◌, ◌≡◌, List, ◌++◌, length, drop, replicate, ltb, eqb, if◌then◌else◌, Option, Some, None, Result, Ok, Err}
use Rattle.std.specs.Result.{result_err}
use Rattle.record.specs.declared.Tag.{Tag}
use Rattle.record.specs.declared.Refusal.{Refusal}
use Rattle.record.specs.declared.Refusal.TheVariants as refusal
use Rattle.record.specs.declared.Outcome.{Outcome}
use Rattle.tag.specs.Rules.{blocks_of, last_end, sound}
use Rattle.tag.specs.Step.{Event, step}
use Rattle.tag.specs.Image.{header_length, tag_in, header_rule, image_of, factory}
use Rattle.tag.specs.Fault.{Fault, fault, header_fault}

-- the number of each refusal that the code names, 1 to 4 in 01 and the others in 02, 5a to 5e being 5Ah to 5Eh, 0 for none; what a call gives
-- is said by these numbers
abbrev pub number_of : Option Refusal → ℕ
number_of None = 0
number_of (Some refusal.Memory) = 1
number_of (Some refusal.Room) = 2
number_of (Some refusal.Record) = 3
number_of (Some refusal.Image) = 4
number_of (Some (refusal.Mark place)) = 0x5A
number_of (Some (refusal.Lock place)) = 0x5B
number_of (Some (refusal.Protection place)) = 0x5C
number_of (Some (refusal.End place)) = 0x5D
number_of (Some (refusal.Reserved place)) = 0x5E
number_of (Some refusal.Tags) = 6
number_of (Some refusal.Equal) = 7
number_of (Some refusal.Small) = 18

-- 02: ".. with the lowest offending byte's place", 0 for a refusal that has none
abbrev pub place_of : Option Refusal → ℕ
place_of None = 0
place_of (Some refusal.Memory) = 0
place_of (Some refusal.Room) = 0
place_of (Some refusal.Record) = 0
place_of (Some refusal.Image) = 0
place_of (Some (refusal.Mark place)) = place
place_of (Some (refusal.Lock place)) = place
place_of (Some (refusal.Protection place)) = place
place_of (Some (refusal.End place)) = place
place_of (Some (refusal.Reserved place)) = place
place_of (Some refusal.Tags) = 0
place_of (Some refusal.Equal) = 0
place_of (Some refusal.Small) = 0

-- number and place, as of a fault
abbrev pub fault_of : Option Refusal → Fault
fault_of r = fault (number_of r) (place_of r)

-- ---- what a call returns: an outcome, or a refusal. "A refusal returns its number and length 0; record and buffers stay."

abbrev pub Reply : Type 0
Reply = Result Outcome Refusal

abbrev pub length_in : Reply → ℕ
length_in (Ok o) = o.length
length_in (Err r) = 0

-- the record after a call made on a record
abbrev pub tag_after : Tag → Reply → Tag
tag_after t (Ok o) = o.tag
tag_after t (Err r) = t

-- 1: "user memory lent is not 2,048 or 8,192 bytes"
abbrev pub is_memory : List ℕ → Bool
is_memory m = eqb (length m) 2048 || eqb (length m) 8192

-- 1: ".. or does not fit the image's length"
abbrev pub fits_image : List ℕ → List ℕ → Bool
fits_image m i = is_memory m && eqb (length i) (header_length + length m)

-- 2: "answer room is below 10,243 bytes"
abbrev pub least_room : ℕ
least_room = 10243

-- 4: "image is not 2,112 or 8,256 bytes"
abbrev pub is_image : List ℕ → Bool
is_image i = eqb (length i) 2112 || eqb (length i) 8256

-- ---- an event

-- the number, the length of the answer, the next record; memory and room as the call leaves them
pub record EventGiven : Type 0 where
  pub number : ℕ
  pub length : ℕ
  pub tag : Tag
  pub memory : List ℕ
  pub room : List ℕ

-- "A refusal returns its number and length 0; record and buffers stay."
abbrev pub event_refused : ℕ → Tag → List ℕ → List ℕ → EventGiven
event_refused number t m x = record { number = number; length = 0; tag = t; memory = m; room = x }

-- "An answer of n bytes fills the first n bytes of the room, the rest unchanged. Silence is length 0 with no number."
abbrev pub event_done : Tag → Event → List ℕ → List ℕ → EventGiven
event_done t e m x =
    let s = step t m e in
    record { number = 0; length = length s.answer; tag = s.tag; memory = s.memory; room = s.answer ++ drop (length s.answer) x }

-- "An event checks 1, 2, 3 in that order."
unfoldable pub event_given : Tag → Event → List ℕ → List ℕ → EventGiven
event_given t e m x =
    if not (is_memory m) then event_refused 1 t m x else
    if ltb (length x) least_room then event_refused 2 t m x else
    if not (sound (blocks_of m) t) then event_refused 3 t m x else
    event_done t e m x

-- a call at entry (t, e, m, x), x the room, that leaves m' and x' and returns r
pub record EventGives (t : Tag) (e : Event) (m x m' x' : List ℕ) (r : Reply) : Type 0 where
  pub number : number_of (result_err r) ≡ (event_given t e m x).number
  pub length : length_in r ≡ (event_given t e m x).length
  pub tag : tag_after t r ≡ (event_given t e m x).tag
  pub memory : m' ≡ (event_given t e m x).memory
  pub room : x' ≡ (event_given t e m x).room

-- ---- loading

-- of a call that fills the memory: its number, and the place that goes with it
pub record LoadGiven : Type 0 where
  pub number : ℕ
  pub place : ℕ
  pub length : ℕ
  pub tag : Tag
  pub memory : List ℕ

-- a call on the record t that is to give g leaves the memory m' and returns r
pub record Fills (g : LoadGiven) (t : Tag) (m' : List ℕ) (r : Reply) : Type 0 where
  pub number : number_of (result_err r) ≡ g.number
  pub place : place_of (result_err r) ≡ g.place
  pub length : length_in r ≡ g.length
  pub tag : tag_after t r ≡ g.tag
  pub memory : m' ≡ g.memory

abbrev pub load_refused : ℕ → ℕ → Tag → List ℕ → LoadGiven
load_refused number place t m = record { number = number; place = place; length = 0; tag = t; memory = m }

-- 01: "Loading checks 4, then 1, then 5"; "Loading fills the memory and returns the record, length 0". 02: "5a to 5e stand where 5 stood."
unfoldable pub load_given : Tag → List ℕ → List ℕ → LoadGiven
load_given t i m =
    if not (is_image i) then load_refused 4 0 t m else
    if not (fits_image m i) then load_refused 1 0 t m else
    let f = header_fault (blocks_of m) i in
    if not (header_rule (blocks_of m) i) then load_refused f.number f.place t m else
    record { number = 0; place = 0; length = 0; tag = tag_in i; memory = drop header_length i }

abbrev pub LoadGives : Tag → List ℕ → List ℕ → List ℕ → Reply → Type 0
LoadGives t i m m' r = Fills (load_given t i m) t m' r

-- ---- saving

pub record SaveGiven : Type 0 where
  pub number : ℕ
  pub length : ℕ
  pub tag : Tag
  pub image : List ℕ

abbrev pub save_refused : ℕ → Tag → List ℕ → SaveGiven
save_refused number t i = record { number = number; length = 0; tag = t; image = i }

-- "saving checks 4, 1, 3"; "saving fills the image and returns its length"
unfoldable pub save_given : Tag → List ℕ → List ℕ → SaveGiven
save_given t m i =
    if not (is_image i) then save_refused 4 t i else
    if not (fits_image m i) then save_refused 1 t i else
    if not (sound (blocks_of m) t) then save_refused 3 t i else
    record { number = 0; length = header_length + length m; tag = t; image = image_of t m }

pub record SaveGives (t : Tag) (m i i' : List ℕ) (r : Reply) : Type 0 where
  pub number : number_of (result_err r) ≡ (save_given t m i).number
  pub length : length_in r ≡ (save_given t m i).length
  pub tag : tag_after t r ≡ (save_given t m i).tag
  pub image : i' ≡ (save_given t m i).image

-- ---- making a factory tag

-- "A factory tag has zero memory, passwords, locks, AFI, DSFID and RFAiSS, and all ends at E." The size is that of the memory lent, which is
-- filled; where that is not 2,048 or 8,192 bytes, number 1, and record and memory stay
unfoldable pub factory_given : Tag → ℕ → List ℕ → LoadGiven
factory_given t uid m =
    if not (is_memory m) then load_refused 1 0 t m else
    record { number = 0; place = 0; length = 0; tag = factory (last_end (blocks_of m)) uid; memory = replicate (length m) 0 }

abbrev pub FactoryGives : Tag → ℕ → List ℕ → List ℕ → Reply → Type 0
FactoryGives t uid m m' r = Fills (factory_given t uid m) t m' r
