-- The claims over the bench cases (specs/Cases), which antt computes.
-- Assumes nothing.
use mathlib.Core.Path.{◌≡◌, refl}
use lib.ListN.{replicate}
use Rattle.put.specs.Number.{number_at, bytes_of}
use Rattle.crc.specs.Crc.{crc_bit, crc_bits, crc_byte, crc_from, crc_of, crc_bytes}
use Rattle.rights.specs.Passwords.{session_of, is_open, present_of, change_verdict}
use Rattle.rights.specs.Blocks.{area_of, register_of, serves, may_read, may_write, readable_at, writable_at, locked_at, barred_at, status_at, crosses_at, any_barred}
use Rattle.rights.specs.Registers.{register_at, is_register, allows, permits, register_verdict, with_register}
use Rattle.tag.specs.Table.{entry_of, first_of, more_of, head_of, limit_of, length_of}
use Rattle.tag.specs.Frame.{check2, check3, check4, custom, check5, after_code, fields_at, other_uid, check6, select_of_another, check7, check8, check9, check10, heard_of}
use Rattle.tag.specs.Work.{listing, apply_to_tag, apply_to_memory, perform}
use Rattle.tag.specs.Inventory.{mask_too_long, wrong_length, afi_matches, afi_fits, fits, mask_fits, slot_of, in_slot, unheard, inventory_of, next_slot}
use Rattle.tag.specs.Blocks.{read_verdict, statuses, status_verdict, write_verdict, block_units, lock_verdict}
use Rattle.tag.specs.Commands.{act_of, request_of}
use Rattle.tag.specs.Step.{frame_of, work_of, step, run}
use Rattle.tag.specs.Image.{factory}
use Rattle.tag.specs.Cases.{bytes, Fact, Hold, end, case, ends, ours, low, with_areas, split, split_hidden, with_field, in_session, in_round, filled, cases, errors, session, printed}

pub starred : Hold 0 cases
unfolding cases Fact ends ours low with_areas split split_hidden with_field in_session in_round filled bytes number_at bytes_of crc_bit crc_bits crc_byte crc_from crc_of crc_bytes session_of is_open present_of change_verdict area_of register_of serves may_read may_write readable_at writable_at locked_at barred_at status_at crosses_at any_barred register_at is_register allows permits register_verdict with_register entry_of first_of more_of head_of limit_of length_of check2 check3 check4 custom check5 after_code fields_at other_uid check6 select_of_another check7 check8 check9 check10 heard_of listing apply_to_tag apply_to_memory perform mask_too_long wrong_length afi_matches afi_fits fits mask_fits slot_of in_slot unheard inventory_of next_slot read_verdict statuses status_verdict write_verdict block_units lock_verdict act_of request_of frame_of work_of step run factory
starred =
    case 0 refl
    (case 1 refl
    (case 2 refl
    (case 3 refl
    (case 4 refl
    (case 5 refl
    (case 6 refl
    (case 7 refl
    (case 8 refl
    (case 9 refl
    (case 10 refl
    (case 11 refl
    (case 12 refl
    (case 13 refl
    (case 14 refl
    end))))))))))))))

pub errors_shut_out : Hold 0 errors
unfolding errors Fact ours with_field bytes number_at bytes_of crc_bit crc_bits crc_byte crc_from crc_of crc_bytes session_of is_open present_of change_verdict area_of register_of serves may_read may_write readable_at writable_at locked_at barred_at status_at crosses_at any_barred register_at is_register allows permits register_verdict with_register entry_of first_of more_of head_of limit_of length_of check2 check3 check4 custom check5 after_code fields_at other_uid check6 select_of_another check7 check8 check9 check10 heard_of listing apply_to_tag apply_to_memory perform mask_too_long wrong_length afi_matches afi_fits fits mask_fits slot_of in_slot unheard inventory_of next_slot read_verdict statuses status_verdict write_verdict block_units lock_verdict act_of request_of frame_of work_of step run factory
errors_shut_out = case 0 refl (case 1 refl end)

pub session_answered : (run (factory 63 ours) (replicate 2048 0) session).answers ≡ printed
unfolding session printed ours bytes number_at bytes_of crc_bit crc_bits crc_byte crc_from crc_of crc_bytes session_of is_open present_of change_verdict area_of register_of serves may_read may_write readable_at writable_at locked_at barred_at status_at crosses_at any_barred register_at is_register allows permits register_verdict with_register entry_of first_of more_of head_of limit_of length_of check2 check3 check4 custom check5 after_code fields_at other_uid check6 select_of_another check7 check8 check9 check10 heard_of listing apply_to_tag apply_to_memory perform mask_too_long wrong_length afi_matches afi_fits fits mask_fits slot_of in_slot unheard inventory_of next_slot read_verdict statuses status_verdict write_verdict block_units lock_verdict act_of request_of frame_of work_of step run factory
session_answered = refl
