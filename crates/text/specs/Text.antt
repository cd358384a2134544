-- Bytes as text: bytes in hex, numbers in decimal, and the bytes of a quoted text.
-- Assumes nothing.
use Rattle.std.specs.Prelude.{ℕ, zero, suc, ◌+◌, ◌-◌, ◌*◌, ◌/◌, ◌%◌, Bool, true, false, ◌&&◌, ◌||◌, List, [], ◌∷◌, ◌++◌, length, leb, ltb, eqb, if◌then◌else◌}
use Prim.Native.Char.{code}
use Prim.Native.String.{String, [] as end, ◌∷◌ as ◌before◌}

-- the bytes of a quoted text of ASCII characters
unfoldable pub bytes_of_text : String → List ℕ
bytes_of_text end = []
bytes_of_text (c before s) = code c ∷ bytes_of_text s

-- ---- hex in upper case: 0 to 9 are 30h to 39h, A to F are 41h to 46h

abbrev pub hex_digit : ℕ → ℕ
hex_digit n = if ltb n 10 then 0x30 + n else 0x37 + n

-- two digits a byte, the high one first
unfoldable pub hex_of : List ℕ → List ℕ
hex_of [] = []
hex_of (b ∷ bs) = hex_digit (b / 16) ∷ hex_digit (b % 16) ∷ hex_of bs

-- bytes in hex, or a mark where there are none
unfoldable pub hex_or : ℕ → List ℕ → List ℕ
hex_or mark bytes = if eqb (length bytes) 0 then mark ∷ [] else hex_of bytes

abbrev pub is_figure : ℕ → Bool
is_figure d = leb 0x30 d && leb d 0x39

abbrev pub is_letter : ℕ → Bool
is_letter d = leb 0x41 d && leb d 0x46

abbrev pub is_digit : ℕ → Bool
is_digit d = is_figure d || is_letter d

unfoldable pub all_digits : List ℕ → Bool
all_digits [] = true
all_digits (d ∷ ds) = is_digit d && all_digits ds

-- the value of a digit, 0 for a byte that is none
unfoldable pub value_of : ℕ → ℕ
value_of d = if is_figure d then d - 0x30 else if is_letter d then d - 0x37 else 0

-- the bytes that pairs of digits stand for
unfoldable pub bytes_in : List ℕ → List ℕ
bytes_in [] = []
bytes_in (h ∷ []) = []
bytes_in (h ∷ l ∷ ds) = (16 * value_of h + value_of l) ∷ bytes_in ds

-- ---- decimal

-- the last digit, and before it, where there are any, the digits of a tenth, at most so many
unfoldable pub decimal : ℕ → ℕ → List ℕ
decimal zero n = (0x30 + n) ∷ []
decimal (suc k) n = if ltb n 10 then (0x30 + n) ∷ [] else decimal k (n / 10) ++ ((0x30 + n % 10) ∷ [])

-- a number of 64 bits has at most 20 digits
abbrev pub decimal_of : ℕ → List ℕ
decimal_of n = decimal 19 n
