-- "Inventory": its fields, one slot and sixteen, the round, and the end of a frame.
-- Assumes nothing.
use Rattle.std.specs.Prelude.{ℕ, ◌+◌, ◌-◌, ◌/◌, ◌%◌, ◌^◌, Bool, not, ◌&&◌, ◌||◌, List, ◌∷◌, get_or, ltb, eqb, if◌then◌else◌, None}
use Rattle.put.specs.Number.{number_at, bytes_of}
use Rattle.record.specs.declared.Front.{Front}
use Rattle.record.specs.Update.{with_round, running}
use Rattle.record.specs.Tests.{is_quiet}
use Rattle.tag.specs.Frame.{flag_bit, end_of, fields_from}
use Rattle.tag.specs.Work.{Answer, silence, body, Work, work, says}

-- "AFI if bit 5 is set"
abbrev pub afi_flag : List ℕ → Bool
afi_flag f = flag_bit 5 f

-- "Bit 6 set means 1 slot"
abbrev pub one_slot : List ℕ → Bool
one_slot f = flag_bit 6 f

-- the fields: "AFI if bit 5 is set, mask length, then mask bytes"
abbrev pub inventory_fields : List ℕ → List ℕ
inventory_fields f = fields_from 2 f

-- the mask length's place
abbrev pub mask_at : List ℕ → ℕ
mask_at f = if afi_flag f then 1 else 0

abbrev pub mask_length : List ℕ → ℕ
mask_length f = get_or (inventory_fields f) (mask_at f) 0

-- "1 slot, mask length at most 64; clear means 16 slots, at most 60"
unfoldable pub mask_too_long : List ℕ → Bool
mask_too_long f = ltb (if one_slot f then 64 else 60) (mask_length f)

-- the mask bytes: "length over 8, rounded up"; "wrong frame length: silence"
unfoldable pub wrong_length : List ℕ → Bool
wrong_length f = not (eqb (end_of f - 2) (mask_at f + 1 + (mask_length f + 7) / 8))

-- the halves of a byte XYh: X is the upper one, Y the lower
abbrev pub upper_half : ℕ → ℕ
upper_half b = b / 16

abbrev pub lower_half : ℕ → ℕ
lower_half b = b % 16

-- 02: "a request of X0h, with X not 0"
abbrev pub asks_family : ℕ → Bool
asks_family asked = not (eqb (upper_half asked) 0) && eqb (lower_half asked) 0

-- 02: "ISO/IEC 15693-3 lets a request of X0h, with X not 0, match every stored AFI whose upper half is X. 00h still matches all, and 0Yh only
-- itself." Of every other request 01's rule stays: "Request AFI matches if it is 00h or equals the stored AFI."
unfoldable pub afi_matches : ℕ → ℕ → Bool
afi_matches asked stored =
    if asks_family asked then eqb (upper_half stored) (upper_half asked) else
    eqb asked 0x00 || eqb asked stored

unfoldable pub afi_fits : Front → List ℕ → Bool
afi_fits t f = not (afi_flag f) || afi_matches (get_or (inventory_fields f) 0 0) t.afi

-- the lowest bits of a number, so many; and the four bits after them
abbrev pub low_bits : ℕ → ℕ → ℕ
low_bits n bits = n % 2 ^ bits

abbrev pub next_four : ℕ → ℕ → ℕ
next_four n bits = n / 2 ^ bits % 16

-- "The lowest mask-length bits of the UID must match": a mask of so many bits, and a UID
unfoldable pub fits : ℕ → ℕ → ℕ → Bool
fits mask bits u = eqb (low_bits u bits) mask

-- ".. spare bits not compared"
unfoldable pub mask_fits : Front → List ℕ → Bool
mask_fits t f = fits (low_bits (number_at 8 (inventory_fields f) (mask_at f + 1)) (mask_length f)) (mask_length f) t.uid

-- "the next four UID bits are the slot", after so many bits of mask
unfoldable pub slot_of : Front → ℕ → ℕ
slot_of t bits = next_four t.uid bits

-- "Answer: 00h, DSFID, UID, CRC."
abbrev pub inventory_answer : Front → Answer
inventory_answer t = body (t.dsfid ∷ bytes_of 8 t.uid)

-- the answer of a tag whose slot is that of the round
unfoldable pub in_slot : Front → ℕ → ℕ → Answer
in_slot t slot mask = if eqb (slot_of t mask) slot then inventory_answer t else silence

-- "Longer, or wrong frame length: silence. Quiet: silence." "Where either differs: silence"
unfoldable pub unheard : Front → List ℕ → Bool
unheard t f = (mask_too_long f || wrong_length f) || (is_quiet t.state || not (afi_fits t f && mask_fits t f))

-- ".. and no round opens. With 16 slots, the next four UID bits are the slot; slot 0 speaks at once"
unfoldable pub inventory_of : Front → List ℕ → Work
inventory_of t f =
    if unheard t f then work t (says silence) else
    if one_slot f then work t (says (inventory_answer t)) else
    work (with_round t (running 0 (mask_length f))) (says (in_slot t 0 (mask_length f)))

-- "each end of frame moves one slot on; an end of frame in slot 15 closes the round"
unfoldable pub next_slot : Front → ℕ → ℕ → Work
next_slot t slot mask =
    if ltb slot 15
    then work (with_round t (running (slot + 1) mask)) (says (in_slot t (slot + 1) mask))
    else work (with_round t None) (says silence)
