-- The answer line of a call: "`number length answer record memory room`", and of a search: "`number requests list room`".
-- Assumes nothing.
use Rattle.std.specs.Prelude.{ℕ, ◌+◌, ◌-◌, ◌/◌, ◌%◌, ◌≤◌, Bool, ◌&&◌, List, [], ◌∷◌, ◌++◌, take, leb, eqb, if◌then◌else◌}
use Rattle.crc.specs.Crc.{crc_of}
use Rattle.text.specs.Text.{hex_or, decimal_of}
use Rattle.packed.specs.Result.{refusal_in, place_in, length_in}
use Rattle.caselines.specs.Limits.{room_most, row_most, entries_most}
use Rattle.caselines.specs.Entries.{entry_bytes}

-- "in hex, or `-` where length is 0"
abbrev pub shown : List ℕ → List ℕ
shown bytes = hex_or 0x2D bytes

-- a text, and the space or newline after it
abbrev pub field : ℕ → List ℕ → List ℕ
field end text = text ++ (end ∷ [])

-- "the CRC of all their bytes as four hex digits, high first"
abbrev pub crc_high : List ℕ → List ℕ
crc_high bytes = crc_of bytes / 256 ∷ crc_of bytes % 256 ∷ []

-- a fault of a header, "with their place, also where it is 0: `5a:0`, `5d:15`": 5Ah to 5Eh have the letters a to e
abbrev pub fault_text : ℕ → ℕ → List ℕ
fault_text letter place = 0x35 ∷ letter ∷ 0x3A ∷ decimal_of place

abbrev pub is_lettered : ℕ → Bool
is_lettered number = leb 0x5A number && leb number 0x5E

-- the number and its place: "all others have none"
unfoldable pub column_text : ℕ → ℕ → List ℕ
column_text number place = if is_lettered number then fault_text (0x61 + (number - 0x5A)) place else decimal_of number

-- number, with its place, and length of a result
unfoldable pub numbers_text : ℕ → List ℕ
numbers_text result = field 0x20 (column_text (refusal_in result) (place_in result)) ++ field 0x20 (decimal_of (length_in result))

unfoldable pub pair_text : ℕ → List ℕ → List ℕ → List ℕ
pair_text end a b = field 0x20 (shown a) ++ field end (shown b)

abbrev pub sums_text : List ℕ → List ℕ → List ℕ
sums_text memory room = pair_text 0x0A (crc_high memory) (crc_high room)

abbrev pub rest_text : List ℕ → List ℕ → List ℕ → List ℕ → List ℕ
rest_text answer tag memory room = pair_text 0x20 answer tag ++ sums_text memory room

unfoldable pub row_text : ℕ → List ℕ → List ℕ → List ℕ → List ℕ → List ℕ
row_text result answer tag memory room = numbers_text result ++ rest_text answer tag memory room

-- the line of a call: what it answered stands at the start of room
unfoldable pub call_text : ℕ → List ℕ → List ℕ → List ℕ → List ℕ
call_text result tag memory room = row_text result (take (length_in result) room) tag memory room

-- room that a line can lend, and room in out for the longest answer line
pub record Suits (room out : ℕ) : Type 0 where
  pub of_room : room ≤ room_most
  pub of_out : row_most ≤ out

-- ---- a search

-- "the UIDs found as they travel, `-` for none; the CRC of all bytes of the list"
abbrev pub list_text : List ℕ → List ℕ → List ℕ
list_text found list = pair_text 0x0A (entry_bytes found) (crc_high (entry_bytes list))

unfoldable pub search_row_text : ℕ → List ℕ → List ℕ → List ℕ
search_row_text result found list = numbers_text result ++ list_text found list

-- the UIDs found stand at the start of the list, as many as tags were given; "Refused: `6 0 - room`"
abbrev pub found_in : ℕ → ℕ → List ℕ → List ℕ
found_in number tags list = if eqb number 0 then take tags list else []

-- the line of a search over so many tags: the length of its result is the number of requests
unfoldable pub search_text : ℕ → ℕ → List ℕ → List ℕ
search_text result tags list = search_row_text result (found_in (refusal_in result) tags list) list

-- the UIDs found and the list are no longer than a line can ask for
pub record SuitsLists (found list : ℕ) : Type 0 where
  pub of_found : found ≤ entries_most
  pub of_list : list ≤ entries_most

-- a list that a line can ask for, and room in out for the longest answer line
pub record SuitsSearch (list out : ℕ) : Type 0 where
  pub of_list : list ≤ entries_most
  pub of_out : row_most ≤ out
