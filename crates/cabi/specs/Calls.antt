-- The calls of the C boundary: what each returns, and every byte that it leaves, for every input whatever.
-- Assumes nothing.
use Rattle.std.specs.Prelude.{ℕ, ◌+◌, not, ◌≡◌, List, length, ltb, eqb, if◌then◌else◌, Some, Result, Ok, Err}
use Rattle.record.specs.declared.Kind.{Kind}
use Rattle.record.specs.declared.Kind.TheVariants.{FieldOn, FieldOff, EndOfFrame, Request}
use Rattle.tag.specs.Step.{event_of}
use Rattle.tag.specs.Image.{header_length, image_of}
use Rattle.record.specs.declared.Refusal.{Refusal}
use Rattle.tag.specs.Host.{number_of, place_of, is_memory, fits_image, least_room, is_image, event_done, LoadGiven, load_given, factory_given}
use Rattle.tray.specs.Tray.{search_given}
use Rattle.packed.specs.Bytes.{record_in, is_record, record_of}
use Rattle.packed.specs.Result.{result_of}

-- the result of a call that returns a length, or is refused
abbrev pub returned : Result ℕ Refusal → ℕ
returned (Ok l) = result_of 0 0 l
returned (Err q) = result_of (place_of (Some q)) (number_of (Some q)) 0

-- ---- an event

-- the kinds: 0 on, 1 off, 2 end of frame, 3 request
abbrev pub kind_in : ℕ → Kind
kind_in k = if eqb k 0 then FieldOn else if eqb k 1 then FieldOff else if eqb k 2 then EndOfFrame else Request

-- the result, and record, memory and room as the call leaves them
pub record EventLeft : Type 0 where
  pub result : ℕ
  pub bytes : List ℕ
  pub memory : List ℕ
  pub room : List ℕ

-- a number, length 0, and all as it was
abbrev pub event_stays : ℕ → List ℕ → List ℕ → List ℕ → EventLeft
event_stays number r m x = record { result = result_of 0 number 0; bytes = r; memory = m; room = x }

-- 01: "An event checks 1, 2, 3 in that order." Another kind is no event: after the checks, silence and nothing changed
unfoldable pub event_left : ℕ → List ℕ → List ℕ → List ℕ → List ℕ → EventLeft
event_left k frame r m x =
    if not (is_memory m) then event_stays 1 r m x else
    if ltb (length x) least_room then event_stays 2 r m x else
    if not (is_record m r) then event_stays 3 r m x else
    if ltb 3 k then event_stays 0 r m x else
    let g = event_done (record_in r) (event_of (kind_in k) frame) m x in
    record { result = result_of 0 0 g.length; bytes = record_of (length m) g.tag; memory = g.memory; room = g.room }

-- a call at entry (k, frame, r, m, x) that leaves r', m' and x' and returns n
pub record EventLeaves (k : ℕ) (frame r m x r' m' x' : List ℕ) (n : ℕ) : Type 0 where
  pub result : n ≡ (event_left k frame r m x).result
  pub bytes : r' ≡ (event_left k frame r m x).bytes
  pub memory : m' ≡ (event_left k frame r m x).memory
  pub room : x' ≡ (event_left k frame r m x).room

-- ---- loading, and making a factory tag

pub record LoadLeft : Type 0 where
  pub result : ℕ
  pub bytes : List ℕ
  pub memory : List ℕ

-- a call that is to leave g leaves the record's bytes r' and the memory m' and returns n
pub record FillLeaves (g : LoadLeft) (r' m' : List ℕ) (n : ℕ) : Type 0 where
  pub result : n ≡ g.result
  pub bytes : r' ≡ g.bytes
  pub memory : m' ≡ g.memory

-- what was refused stays, what was not is new
abbrev pub unless_refused : ℕ → List ℕ → List ℕ → List ℕ
unless_refused number new old = if eqb number 0 then new else old

-- as the host's call, whose length is 0, and which does not look at the record that was there
abbrev pub filled : LoadGiven → List ℕ → List ℕ → LoadLeft
filled g r m = record { result = result_of g.place g.number 0; bytes = unless_refused g.number (record_of (length m) g.tag) r; memory = g.memory }

unfoldable pub load_left : List ℕ → List ℕ → List ℕ → LoadLeft
load_left i r m = filled (load_given (record_in r) i m) r m

abbrev pub LoadLeaves : List ℕ → List ℕ → List ℕ → List ℕ → List ℕ → ℕ → Type 0
LoadLeaves i r m r' m' n = FillLeaves (load_left i r m) r' m' n

-- "the size is the memory's; fills it with zeros; refusal 1, or result 0"
unfoldable pub factory_left : ℕ → List ℕ → List ℕ → LoadLeft
factory_left uid r m = filled (factory_given (record_in r) uid m) r m

abbrev pub FactoryLeaves : ℕ → List ℕ → List ℕ → List ℕ → List ℕ → ℕ → Type 0
FactoryLeaves uid r m r' m' n = FillLeaves (factory_left uid r m) r' m' n

-- ---- saving

pub record SaveLeft : Type 0 where
  pub result : ℕ
  pub image : List ℕ

abbrev pub save_stays : ℕ → List ℕ → SaveLeft
save_stays number i = record { result = result_of 0 number 0; image = i }

-- "SAVE 4, 1 or 3 in 01's order"
unfoldable pub save_left : List ℕ → List ℕ → List ℕ → SaveLeft
save_left r m i =
    if not (is_image i) then save_stays 4 i else
    if not (fits_image m i) then save_stays 1 i else
    if not (is_record m r) then save_stays 3 i else
    record { result = result_of 0 0 (header_length + length m); image = image_of (record_in r) m }

pub record SaveLeaves (r m i i' : List ℕ) (n : ℕ) : Type 0 where
  pub result : n ≡ (save_left r m i).result
  pub image : i' ≡ (save_left r m i).image

-- ---- finding every tag on a tray

pub record SearchLeft : Type 0 where
  pub result : ℕ
  pub list : List ℕ

-- "the length of the result is the number of requests"
unfoldable pub search_left : List ℕ → List ℕ → SearchLeft
search_left uids x =
    let g = search_given uids x in
    record { result = result_of 0 g.number g.requests; list = g.list }

pub record SearchLeaves (uids x x' : List ℕ) (n : ℕ) : Type 0 where
  pub result : n ≡ (search_left uids x).result
  pub list : x' ≡ (search_left uids x).list
