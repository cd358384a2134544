-- What a line asks for. "A line of no such form answers `?` and changes nothing".
-- Assumes nothing.
use Rattle.std.specs.Prelude.{ℕ, ◌+◌, ◌-◌, ◌*◌, ◌%◌, ◌≤◌, ◌==◌, Bool, ◌&&◌, List, [], ◌∷◌, length, take, drop, get_or, leb, ltb, eqb, if◌then◌else◌}
use Rattle.std.specs.Prelude.{Option, Some, None, option_map, option_and_then, position, bytes_eq, codes}
use Rattle.std.specs.Bool.{then_some}
use Rattle.text.specs.Text.{is_figure, all_digits}
use Rattle.packed.specs.Bytes.{record_length}
use Rattle.record.specs.declared.Kind.{Kind}
use Rattle.record.specs.declared.Kind.TheVariants.{FieldOn, FieldOff, EndOfFrame, Request}
use Rattle.caselines.specs.declared.form.Form.{Form}
use Rattle.caselines.specs.declared.form.Form.TheVariants as form
use Rattle.caselines.specs.Limits.{memory_most, room_most, image_most, frame_most, uid_length, entries_most, tags_most}

-- what a line can ask for: a number that it names, and the digits that end it
pub data Asked : Type 0 where
  Memory : ℕ → Asked
  Room : ℕ → Asked
  Save : ℕ → Asked
  Record : List ℕ → Asked
  Load : List ℕ → Asked
  Factory : List ℕ → Asked
  Bytes : ℕ → List ℕ → Asked
  Event : Kind → List ℕ → Asked
  Search : ℕ → List ℕ → Asked

-- the same of the code's value, whose digits are a part of the line
abbrev pub asked : Form → Asked
asked (form.Memory n) = Memory n
asked (form.Room n) = Room n
asked (form.Save n) = Save n
asked (form.Record digits) = Record digits.now
asked (form.Load digits) = Load digits.now
asked (form.Factory digits) = Factory digits.now
asked (form.Bytes at digits) = Bytes at digits.now
asked (form.Event kind digits) = Event kind digits.now
asked (form.Search n digits) = Search n digits.now

-- a line that begins with a word and what follows it
abbrev pub begins : List ℕ → List ℕ → Bool
begins l word = bytes_eq (take (length word) l) word

-- ---- "numbers decimal"

-- the figures that are left, after those that stand for n
unfoldable pub number_from : ℕ → ℕ → List ℕ → Option ℕ
number_from most n [] = Some n
number_from most n (d ∷ ds) =
    if is_figure d && leb (10 * n + (d - 0x30)) most
    then number_from most (10 * n + (d - 0x30)) ds
    else None

-- a number of the range of its line: "Numbers have no leading zero"
unfoldable pub number_in : ℕ → List ℕ → Option ℕ
number_in most s =
    if eqb (length s) 0 then None else
    if ltb 1 (length s) && eqb (get_or s 0 0) 0x30 then None else number_from most 0 s

-- ---- "hex upper case"

-- pairs of digits, at most so many digits
abbrev pub is_hex : ℕ → List ℕ → Bool
is_hex most s = (eqb (length s % 2) 0 && leb (length s) most) && all_digits s

-- "REC hex": "the record, exactly 72 bytes"
abbrev pub record_form : List ℕ → Option Asked
record_form s = then_some (eqb (length s) (2 * record_length) && is_hex (2 * record_length) s) (Record s)

-- "REQ hex": "a frame of 0 to 1,100 bytes"
abbrev pub request_form : List ℕ → Option Asked
request_form s = then_some (is_hex (2 * frame_most) s) (Event Request s)

-- "LOAD hex": "an image of 0 to 8,300 bytes"
abbrev pub load_form : List ℕ → Option Asked
load_form s = then_some (is_hex (2 * image_most) s) (Load s)

-- "FACTORY hex": "8 bytes, a UID as it travels"
abbrev pub factory_form : List ℕ → Option Asked
factory_form s = then_some (eqb (length s) (2 * uid_length) && is_hex (2 * uid_length) s) (Factory s)

-- ---- a number, and digits after a space

-- how many bytes stand before the first space
abbrev pub space_in : List ℕ → Option ℕ
space_in s = position (λ b. b == 0x20) s

-- a number of its range, and what follows the space after it
unfoldable pub number_and_digits : ℕ → List ℕ → Option (ℕ × List ℕ)
number_and_digits most s = option_and_then (λ k. option_map (λ n. (n, drop (k + 1) s)) (number_in most (take k s))) (space_in s)

-- "PUT at hex": "bytes into the memory, within it"
abbrev pub placed_form : ℕ → ℕ × List ℕ → Option Asked
placed_form memory p = then_some (is_hex (2 * (memory - p.0)) p.1) (Bytes p.0 p.1)

unfoldable pub bytes_form : ℕ → List ℕ → Option Asked
bytes_form memory s = option_and_then (placed_form memory) (number_and_digits memory s)

-- "SEARCH n hex": "a list of n entries (0 to 300), .. and tags given by their UIDs, 8 bytes each as they travel, 0 to 300 of them"
abbrev pub tags_form : ℕ × List ℕ → Option Asked
tags_form p = then_some (eqb (length p.1 % (2 * uid_length)) 0 && is_hex (2 * (uid_length * tags_most)) p.1) (Search p.0 p.1)

unfoldable pub search_form : List ℕ → Option Asked
search_form s = option_and_then tags_form (number_and_digits entries_most s)

-- ---- a line, beside a memory of so many bytes

unfoldable pub hex_form : ℕ → List ℕ → Option Asked
hex_form memory l =
    if begins l (codes "REC ") then record_form (drop 4 l) else
    if begins l (codes "PUT ") then bytes_form memory (drop 4 l) else
    if begins l (codes "REQ ") then request_form (drop 4 l) else
    if begins l (codes "LOAD ") then load_form (drop 5 l) else
    if begins l (codes "FACTORY ") then factory_form (drop 8 l) else
    if begins l (codes "SEARCH ") then search_form (drop 7 l) else None

-- "MEM n", "ROOM n" and "SAVE n", with their ranges
unfoldable pub number_form : ℕ → List ℕ → Option Asked
number_form memory l =
    if begins l (codes "MEM ") then option_map Memory (number_in memory_most (drop 4 l)) else
    if begins l (codes "ROOM ") then option_map Room (number_in room_most (drop 5 l)) else
    if begins l (codes "SAVE ") then option_map Save (number_in image_most (drop 5 l)) else hex_form memory l

unfoldable pub form_of : ℕ → List ℕ → Option Asked
form_of memory l =
    if bytes_eq l (codes "ON") then Some (Event FieldOn []) else
    if bytes_eq l (codes "OFF") then Some (Event FieldOff []) else
    if bytes_eq l (codes "EOF") then Some (Event EndOfFrame []) else number_form memory l

-- what a form says of its numbers and digits, beside a memory of so many bytes
abbrev pub Fits : ℕ → Asked → Type 0
Fits memory (Memory n) = n ≤ memory_most
Fits memory (Room n) = n ≤ room_most
Fits memory (Save n) = n ≤ image_most
Fits memory (Record digits) = length digits ≤ 2 * record_length
Fits memory (Load digits) = length digits ≤ 2 * image_most
Fits memory (Factory digits) = length digits ≤ 2 * uid_length
Fits memory (Bytes at digits) = (at ≤ memory) × (length digits ≤ 2 * (memory - at))
Fits memory (Event kind digits) = length digits ≤ 2 * frame_most
Fits memory (Search n digits) = (n ≤ entries_most) × (length digits ≤ 2 * (uid_length * tags_most))
