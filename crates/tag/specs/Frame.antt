-- "From frame to command": "Checks, first match wins". A check is true where it matches, and so stops the frame. Check 1 is where events are (Step).
-- Assumes nothing.
use Rattle.std.specs.Prelude.{ℕ, ◌+◌, ◌-◌, ◌/◌, ◌%◌, ◌^◌, ◌≡◌, Bool, true, false, not, ◌&&◌, ◌||◌, List, length, get_or, take, drop, leb, ltb, eqb, if◌then◌else◌}
use Rattle.put.specs.Number.{number_at}
use Rattle.crc.specs.Crc.{crc_of}
use Rattle.record.specs.declared.Front.{Front}
use Rattle.record.specs.Tests.{is_quiet, is_selected}
use Rattle.tag.specs.declared.Command.{Command}
use Rattle.tag.specs.declared.Command.TheVariants.{StayQuiet, Read, Write, Lock, Select, ResetToReady, WriteAfi, LockAfi, WriteDsfid, LockDsfid, Status, ReadRegister, WriteRegister, WritePassword, Present, Unlisted}
use Rattle.tag.specs.declared.OptionRule.{OptionRule}
use Rattle.tag.specs.declared.OptionRule.TheVariants.{Refused, Taken, Holds}
use Rattle.tag.specs.declared.Heard.{Heard}
use Rattle.tag.specs.declared.Heard.TheVariants as heard
use Rattle.tag.specs.Table.{entry_of, length_of}

-- bit k of a byte, counting from 0, and flag bit k, "counting from 1"
abbrev pub bit : ℕ → ℕ → Bool
bit k b = eqb (b / 2 ^ k % 2) 1

abbrev pub flag_bit : ℕ → List ℕ → Bool
flag_bit k f = bit (k - 1) (get_or f 0 0)

abbrev pub select_flag : List ℕ → Bool
select_flag f = flag_bit 5 f

abbrev pub address_flag : List ℕ → Bool
address_flag f = flag_bit 6 f

abbrev pub option_flag : List ℕ → Bool
option_flag f = flag_bit 7 f

abbrev pub code_of : List ℕ → ℕ
code_of f = get_or f 1 0

-- where the CRC begins
abbrev pub end_of : List ℕ → ℕ
end_of f = length f - 2

-- 2. "Under 4 bytes, or wrong CRC: silence."
unfoldable pub check2 : List ℕ → Bool
check2 f = ltb (length f) 4 || not (eqb (crc_of (take (end_of f) f)) (number_at 2 (drop (end_of f) f) 0))

-- 3. "Flag bit 4 or bit 8 set (counting from 1): silence."
unfoldable pub check3 : List ℕ → Bool
check3 f = flag_bit 4 f || flag_bit 8 f

-- 4. "Inventory_flag (bit 3) set and code not 01h, or clear and code 01h: silence. Inventory goes to its own section."
unfoldable pub check4 : List ℕ → Bool
check4 f = (flag_bit 3 f && not (eqb (code_of f) 0x01)) || (not (flag_bit 3 f) && eqb (code_of f) 0x01)

-- 5. "Codes A0h to DFh carry manufacturer code 02h after the code; another or none: silence."
unfoldable pub custom : ℕ → Bool
custom code = leb 0xA0 code && leb code 0xDF

unfoldable pub check5 : List ℕ → Bool
check5 f = custom (code_of f) && not (ltb 2 (end_of f) && eqb (get_or f 2 0) 0x02)

-- what stands after code and manufacturer code: the UID where the frame is addressed, then the fields
unfoldable pub after_code : List ℕ → ℕ
after_code f = if custom (code_of f) then 3 else 2

unfoldable pub fields_at : List ℕ → ℕ
fields_at f = if address_flag f then after_code f + 8 else after_code f

-- "handled as the rest of the frame from there on"
abbrev pub fields_from : ℕ → List ℕ → List ℕ
fields_from start f = take (end_of f - start) (drop start f)

-- "UID missing or not ours"
unfoldable pub other_uid : Front → List ℕ → Bool
other_uid t f = ltb (end_of f) (fields_at f) || not (eqb (number_at 8 (drop (after_code f) f) 0) t.uid)

-- 6. "Select_flag (bit 5) and Address_flag (bit 6) both set: silence. Addressed: UID missing or not ours is silence .. Select only: silence
-- unless Selected. Neither: silence in Quiet."
unfoldable pub check6 : Front → List ℕ → Bool
check6 t f =
    if address_flag f then select_flag f || other_uid t f else
    if select_flag f then not (is_selected t.state) else is_quiet t.state

-- "but a Select of another UID, of the right length and without Option_flag, turns Selected into Ready". It is asked where check 6 matches: of a frame
-- with these flags and this length it does so for another UID alone
unfoldable pub select_of_another : Front → List ℕ → Bool
select_of_another t f =
    ((eqb (code_of f) 0x25 && eqb (end_of f) 10) && (address_flag f && not (select_flag f)))
    && (not (option_flag f) && is_selected t.state)

-- 7. "Code not listed below: error 02h."
abbrev pub unlisted : Command → Bool
unlisted StayQuiet = false
unlisted Read = false
unlisted Write = false
unlisted Lock = false
unlisted Select = false
unlisted ResetToReady = false
unlisted WriteAfi = false
unlisted LockAfi = false
unlisted WriteDsfid = false
unlisted LockDsfid = false
unlisted Status = false
unlisted ReadRegister = false
unlisted WriteRegister = false
unlisted WritePassword = false
unlisted Present = false
unlisted Unlisted = true

unfoldable pub check7 : List ℕ → Bool
check7 f = unlisted (entry_of (code_of f)).command

-- 8. "Length not the command's: silence."
unfoldable pub check8 : List ℕ → Bool
check8 f = not (eqb (end_of f - fields_at f) (length_of (entry_of (code_of f)) (fields_from (fields_at f) f)))

-- 9. "Select and Stay Quiet not addressed: silence."
abbrev pub addressed_only : Command → Bool
addressed_only StayQuiet = true
addressed_only Read = false
addressed_only Write = false
addressed_only Lock = false
addressed_only Select = true
addressed_only ResetToReady = false
addressed_only WriteAfi = false
addressed_only LockAfi = false
addressed_only WriteDsfid = false
addressed_only LockDsfid = false
addressed_only Status = false
addressed_only ReadRegister = false
addressed_only WriteRegister = false
addressed_only WritePassword = false
addressed_only Present = false
addressed_only Unlisted = false

unfoldable pub check9 : List ℕ → Bool
check9 f = addressed_only (entry_of (code_of f)).command && not (address_flag f)

-- 10. "Option_flag (bit 7) on a command that takes none: 03h."
abbrev pub takes_none : OptionRule → Bool
takes_none Refused = true
takes_none Taken = false
takes_none Holds = false

unfoldable pub check10 : List ℕ → Bool
check10 f = option_flag f && takes_none (entry_of (code_of f)).option

-- "a frame that passes all checks": none of 2 to 10 matches
pub record Passes (t : Front) (f : List ℕ) : Type 0 where
  pub two : check2 f ≡ false
  pub three : check3 f ≡ false
  pub four : check4 f ≡ false
  pub five : check5 f ≡ false
  pub six : check6 t f ≡ false
  pub seven : check7 f ≡ false
  pub eight : check8 f ≡ false
  pub nine : check9 f ≡ false
  pub ten : check10 f ≡ false

-- what a frame is heard as
unfoldable pub heard_of : Front → List ℕ → Heard
heard_of t f =
    if check2 f then heard.Silence else
    if check3 f then heard.Silence else
    if check4 f then heard.Silence else
    if flag_bit 3 f then heard.Inventory else
    if check5 f then heard.Silence else
    if check6 t f then (if select_of_another t f then heard.Deselected else heard.Silence) else
    if check7 f then heard.Error 0x02 else
    if check8 f then heard.Silence else
    if check9 f then heard.Silence else
    if check10 f then heard.Error 0x03 else
    heard.Request (entry_of (code_of f)) (option_flag f) (fields_at f)
