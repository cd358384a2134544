-- The command table: for each listed code its work, the width of its block numbers, whether it has a count, the length of its fields and
-- what it does with Option_flag. Option_flag "is taken by 02h, 20h, 23h, 30h, 33h and the write-like ones below"
-- Assumes nothing.
use Rattle.std.specs.Prelude.{ℕ, ◌+◌, ◌*◌, true, false, List, get_or, drop, ltb, eqb, if◌then◌else◌}
use Rattle.put.specs.Number.{number_at}
use Rattle.tag.specs.declared.Command.{Command}
use Rattle.tag.specs.declared.Command.TheVariants.{StayQuiet, Read, Write, Lock, Select, ResetToReady, WriteAfi, LockAfi, WriteDsfid, LockDsfid, Status, ReadRegister, WriteRegister, WritePassword, Present, Unlisted}
use Rattle.tag.specs.declared.Length.{Length}
use Rattle.tag.specs.declared.Length.TheVariants.{Fixed, PerBlock}
use Rattle.tag.specs.declared.OptionRule.{OptionRule}
use Rattle.tag.specs.declared.OptionRule.TheVariants.{Refused, Taken, Holds}
use Rattle.tag.specs.declared.Entry.{Entry}

-- a row of a command with no block number, or one of one byte; with a count; with a block number of two bytes; with both
abbrev pub plain : Command → Length → OptionRule → Entry
plain c l o = record { command = c; wide = false; many = false; length = l; option = o }

abbrev pub counted : Command → Length → OptionRule → Entry
counted c l o = record { command = c; wide = false; many = true; length = l; option = o }

abbrev pub wide : Command → Length → OptionRule → Entry
wide c l o = record { command = c; wide = true; many = false; length = l; option = o }

abbrev pub wide_counted : Command → Length → OptionRule → Entry
wide_counted c l o = record { command = c; wide = true; many = true; length = l; option = o }

unfoldable pub entry_of : ℕ → Entry
entry_of code =
    if eqb code 0x02 then plain StayQuiet (Fixed 0) Taken else
    if eqb code 0x20 then plain Read (Fixed 1) Taken else
    if eqb code 0x21 then plain Write (Fixed 5) Holds else
    if eqb code 0x22 then plain Lock (Fixed 1) Holds else
    if eqb code 0x23 then counted Read (Fixed 2) Taken else
    if eqb code 0x24 then counted Write (PerBlock 2) Holds else
    if eqb code 0x25 then plain Select (Fixed 0) Refused else
    if eqb code 0x26 then plain ResetToReady (Fixed 0) Refused else
    if eqb code 0x27 then plain WriteAfi (Fixed 1) Holds else
    if eqb code 0x28 then plain LockAfi (Fixed 0) Holds else
    if eqb code 0x29 then plain WriteDsfid (Fixed 1) Holds else
    if eqb code 0x2A then plain LockDsfid (Fixed 0) Holds else
    if eqb code 0x2C then counted Status (Fixed 2) Refused else
    if eqb code 0x30 then wide Read (Fixed 2) Taken else
    if eqb code 0x31 then wide Write (Fixed 6) Holds else
    if eqb code 0x32 then wide Lock (Fixed 2) Holds else
    if eqb code 0x33 then wide_counted Read (Fixed 4) Taken else
    if eqb code 0x34 then wide_counted Write (PerBlock 4) Holds else
    if eqb code 0x3C then wide_counted Status (Fixed 4) Refused else
    if eqb code 0xA0 then plain ReadRegister (Fixed 1) Refused else
    if eqb code 0xA1 then plain WriteRegister (Fixed 2) Holds else
    if eqb code 0xB1 then plain WritePassword (Fixed 9) Holds else
    if eqb code 0xB3 then plain Present (Fixed 9) Refused else
    plain Unlisted (Fixed 0) Refused

-- ---- the fields of a command on blocks: "first block, then count less one, same width"; of a write the data after them

unfoldable pub first_of : Entry → List ℕ → ℕ
first_of e fields = if e.wide then number_at 2 fields 0 else get_or fields 0 0

-- the count less one; 0 where the command has none
unfoldable pub more_of : Entry → List ℕ → ℕ
more_of e fields = if e.many then (if e.wide then number_at 2 fields 2 else get_or fields 1 0) else 0

-- how many bytes first block and count take; the data of a write follow them
unfoldable pub head_of : Entry → ℕ
head_of e = if e.wide then (if e.many then 4 else 2) else (if e.many then 2 else 1)

abbrev pub data_of : Entry → List ℕ → List ℕ
data_of e fields = drop (head_of e) fields

-- "For one-byte commands, outside begins also at block 100h."
unfoldable pub limit_of : Entry → ℕ → ℕ
limit_of e blocks = if e.wide then blocks else if ltb blocks 0x100 then blocks else 0x100

-- the length that the fields must have
abbrev pub length_by : Length → ℕ → ℕ
length_by (Fixed n) count = n
length_by (PerBlock n) count = n + 4 * count

unfoldable pub length_of : Entry → List ℕ → ℕ
length_of e fields = length_by e.length (more_of e fields + 1)
