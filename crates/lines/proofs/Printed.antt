-- The session that document 01 prints, and readings of docs/DECISIONS.md: the definition gives the whole output of each input. One claim,
-- which antt computes.
-- Assumes nothing.
use mathlib.Core.Path.{◌≡◌, refl}
use Prim.Native.Nat.{ℕ}
use mathlib.Core.List.{List, [], ◌∷◌, map}
use lib.ListN.{replicate}
use Rattle.std.specs.Prelude.{codes}
use Rattle.put.specs.Number.{number_at, bytes_of}
use Rattle.crc.specs.Crc.{crc_bit, crc_bits, crc_byte, crc_from, crc_of, crc_bytes}
use Rattle.rights.specs.Passwords.{session_of, is_open, present_of, change_verdict}
use Rattle.rights.specs.Blocks.{area_of, register_of, serves, may_read, may_write, readable_at, writable_at, locked_at, barred_at, status_at, crosses_at, any_barred}
use Rattle.rights.specs.Registers.{register_at, is_register, allows, permits, register_verdict, with_register}
use Rattle.tag.specs.Table.{entry_of, first_of, more_of, head_of, limit_of, length_of}
use Rattle.tag.specs.Frame.{check2, check3, check4, custom, check5, after_code, fields_at, other_uid, check6, select_of_another, check7, check8, check9, check10, heard_of}
use Rattle.tag.specs.Work.{listing, apply_to_tag, apply_to_memory, perform}
use Rattle.tag.specs.Inventory.{mask_too_long, wrong_length, afi_matches, afi_fits, fits, mask_fits, slot_of, in_slot, unheard, inventory_of, next_slot}
use Rattle.tag.specs.Blocks.{read_verdict, statuses, status_verdict, write_verdict, block_units, lock_verdict}
use Rattle.tag.specs.Commands.{act_of, request_of}
use Rattle.tag.specs.Step.{frame_of, work_of, step}
use Rattle.tag.specs.Image.{factory}
use Rattle.text.specs.Text.{hex_of, hex_or, all_digits, value_of, bytes_in, decimal, decimal_of}
use Rattle.lines.specs.Form.{lines_from, is_request, form_of}
use Rattle.lines.specs.Output.{at_first, next_number, text_of, output_from, output_of}

-- an input, and its whole output
pub samples : List (List ℕ × List ℕ)
samples = (
  codes "ON\n260100\n022000\n02300002\n02B302010000000000000001\n02B302000000000000000000\n",
  codes "1 -\n2 0000F0C8D601042302E064A3\n3 000000000077CF\n4 01101E06\n5 010F68EE\n6 0078F0\n",
)
    -- "a last one may lack it", and no line follows a last newline
    ∷ ([], [])
    ∷ (codes "ON\n260100", codes "1 -\n2 0000F0C8D601042302E064A3\n")
    -- lines of no form: an empty one, lower case, a space, CR, an odd number of digits; and it "is no event"
    ∷ (codes "\non\nON \n26010a\n00\r\n0\nON\n?\n260100\n", codes "1 ?\n2 ?\n3 ?\n4 ?\n5 ?\n6 ?\n7 -\n8 ?\n9 0000F0C8D601042302E064A3\n")
    ∷ (codes "ON\nOFF\n260100\nEOF\n", codes "1 -\n2 -\n3 -\n4 -\n")
    -- "2 to 128 digits"
    ∷ (replicate 128 0x30, codes "1 -\n")
    ∷ (replicate 129 0x30, codes "1 ?\n")
    ∷ (replicate 130 0x30, codes "1 ?\n")
    ∷ []

pub samples_hold : map (λ (v : List ℕ × List ℕ). output_of v.0) samples ≡ map (λ (v : List ℕ × List ℕ). v.1) samples
unfolding samples number_at bytes_of crc_bit crc_bits crc_byte crc_from crc_of crc_bytes session_of is_open present_of change_verdict area_of register_of serves may_read may_write readable_at writable_at locked_at barred_at status_at crosses_at any_barred register_at is_register allows permits register_verdict with_register entry_of first_of more_of head_of limit_of length_of check2 check3 check4 custom check5 after_code fields_at other_uid check6 select_of_another check7 check8 check9 check10 heard_of listing apply_to_tag apply_to_memory perform mask_too_long wrong_length afi_matches afi_fits fits mask_fits slot_of in_slot unheard inventory_of next_slot read_verdict statuses status_verdict write_verdict block_units lock_verdict act_of request_of frame_of work_of step factory hex_of hex_or all_digits value_of bytes_in decimal lines_from is_request form_of at_first next_number text_of output_from output_of
samples_hold = refl

-- "line number from 1 in decimal": the line after a number, as it is written; the greatest number of 64 bits stays
pub numbers_hold : map (λ (n : ℕ). decimal_of (next_number n)) (0 ∷ 8 ∷ 9 ∷ 99 ∷ 18446744073709551614 ∷ 18446744073709551615 ∷ []) ≡ map codes ("1" ∷ "9" ∷ "10" ∷ "100" ∷ "18446744073709551615" ∷ "18446744073709551615" ∷ [])
unfolding decimal next_number
numbers_hold = refl
