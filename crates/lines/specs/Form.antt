-- "Each input line is ON, OFF, EOF, or a request in upper-case hex without CRC, 2 to 128 digits, an even number; the program adds the CRC."
-- Assumes nothing.
use Rattle.std.specs.Prelude.{ℕ, ◌%◌, Bool, ◌&&◌, List, [], ◌∷◌, ◌++◌, length, leb, eqb, if◌then◌else◌, Option, Some, None, bytes_eq, codes}
use Rattle.record.specs.declared.Kind.{Kind}
use Rattle.record.specs.declared.Kind.TheVariants.{FieldOn, FieldOff, EndOfFrame, Request}
use Rattle.tag.specs.Step.{event_of, sealed}
use Rattle.tag.specs.Step as step
use Rattle.text.specs.Text.{all_digits, bytes_in}

-- "Lines end in a newline; a last one may lack it"
abbrev pub last_line : List ℕ → List (List ℕ)
last_line [] = []
last_line (b ∷ bs) = (b ∷ bs) ∷ []

-- the lines of an input whose first line has begun with some bytes
unfoldable pub lines_from : List ℕ → List ℕ → List (List ℕ)
lines_from line [] = last_line line
lines_from line (b ∷ bs) = if eqb b 0x0A then line ∷ lines_from [] bs else lines_from (line ++ (b ∷ [])) bs

abbrev pub lines_of : List ℕ → List (List ℕ)
lines_of input = lines_from [] input

unfoldable pub is_request : List ℕ → Bool
is_request l = (leb 2 (length l) && leb (length l) 128) && (eqb (length l % 2) 0 && all_digits l)

-- the kind of event that a line is, or none for "a line of no such form"
unfoldable pub form_of : List ℕ → Option Kind
form_of l =
    if bytes_eq l (codes "ON") then Some FieldOn else
    if bytes_eq l (codes "OFF") then Some FieldOff else
    if bytes_eq l (codes "EOF") then Some EndOfFrame else
    if is_request l then Some Request else None

-- the event of a line of a kind; a request's frame is its bytes and their CRC
abbrev pub event_in : Kind → List ℕ → step.Event
event_in k l = event_of k (sealed (bytes_in l))
