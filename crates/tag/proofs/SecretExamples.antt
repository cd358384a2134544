-- The theorem of demand 3 is not empty: pairs of different tags and lists of events that meet its premises, and what it says of them. And
-- what it asks of sessions and presentations is needed: where it does not hold, the answers differ. Frames and expected bytes are literals
-- of the second model.
-- Assumes nothing.
use Prim.Native.Nat.{ℕ, zero, suc, ◌+◌, ◌/◌, ◌≤◌, ◌<◌}
use mathlib.Core.Path.{◌≡◌, refl, sym, ap, ◌∙◌}
use mathlib.Core.Logic.{◌≢◌}
use mathlib.Core.Bool.{Bool, true, false}
use mathlib.Core.List.{List, [], ◌∷◌, ◌++◌, map}
use native.Mathlib.Omega.{arith}
use lib.ListN.{length, get_or, take, replicate}
use Rattle.std.specs.Prelude.{Option, Some, None}
use Rattle.put.specs.Number.{number_at, bytes_of}
use Rattle.crc.specs.Crc.{crc_bit, crc_bits, crc_byte, crc_from, crc_of, crc_bytes}
use Rattle.rights.specs.declared.Session.{Session}
use Rattle.rights.specs.declared.Session.TheVariants.{Configuration, User1}
use Rattle.rights.specs.Vault.{view_of}
use Rattle.rights.specs.Passwords.{session_of, is_open, password_of, present_of, change_verdict}
use Rattle.rights.specs.Blocks.{area_of, register_of, serves, may_read, may_write, readable_at, writable_at, locked_at, barred_at, status_at, crosses_at, any_barred, hidden_by}
use Rattle.rights.specs.Registers.{register_at, is_register, allows, permits, register_verdict, with_register, possible}
use Rattle.rights.proofs.HiddenBlocks.{none_open, hidden_by_one}
use Rattle.record.specs.declared.Tag.{Tag}
use Rattle.tag.specs.Rules.{blocks_of, off_rule, round_rule, held_rule, together_rule, sound}
use Rattle.tag.specs.Table.{entry_of, first_of, more_of, head_of, limit_of, length_of}
use Rattle.tag.specs.Frame.{check2, check3, check4, custom, check5, after_code, fields_at, other_uid, check6, select_of_another, check7, check8, check9, check10, heard_of}
use Rattle.tag.specs.Work.{listing, apply_to_tag, apply_to_memory, perform}
use Rattle.tag.specs.Inventory.{mask_too_long, wrong_length, afi_matches, afi_fits, fits, mask_fits, slot_of, in_slot, unheard, inventory_of, next_slot}
use Rattle.tag.specs.Blocks.{read_verdict, statuses, status_verdict, write_verdict, block_units, lock_verdict}
use Rattle.tag.specs.Commands.{act_of, request_of}
use Rattle.tag.specs.Step.{Event, field_on, field_off, end_of_frame, request, frame_of, work_of, step, run}
use Rattle.tag.specs.Image.{factory}
use Rattle.tag.specs.Host.{event_given}
use Rattle.tag.specs.Demand3.{Untold, Call, Seen, served, UntoldIn}
use Rattle.tag.specs.Secrecy.{SameBut, Alike, Shut, presented, unopened, only, unopened_calls}
use Rattle.tag.specs.Cases.{bytes, ours, with_field}
use Rattle.tag.proofs.Secret.{shut_too}
use Rattle.tag.proofs.Demand3.{except_is, closed_is, is_unopened, is_calls_unopened, demanded, demanded_in}

-- ---- lists that differ in one part

one_place : (apart : ℕ → Bool) (x y : ℕ) (xs ys : List ℕ) → (apart 0 ≡ false → x ≡ y) → SameBut (λ i. apart (suc i)) xs ys → SameBut apart (x ∷ xs) (y ∷ ys)
one_place apart x y xs ys here s = record { size = ap suc s.size; at = places }
  where
    places : (i : ℕ) → apart i ≡ false → get_or (x ∷ xs) i 0 ≡ get_or (y ∷ ys) i 0
    places zero e = here e
    places (suc i) e = s.at i e

one_part : (apart : ℕ → Bool) (c xs ys d : List ℕ) → length xs ≡ length ys → ((i : ℕ) → length c ≤ i → i < length c + length xs → apart i ≡ true)
    → SameBut apart (c ++ (xs ++ d)) (c ++ (ys ++ d))
one_part apart (x ∷ c) xs ys d n h =
    one_place apart x x (c ++ (xs ++ d)) (c ++ (ys ++ d)) (λ e. refl)
    (one_part (λ i. apart (suc i)) c xs ys d n (λ i k l. h (suc i) (omega arith) (omega arith)))
one_part apart [] (x ∷ xs) (y ∷ ys) d n h =
    one_place apart x y (xs ++ d) (ys ++ d) (λ e. let z : ◌≡◌ {A = ℕ} 0 1 = cc (h 0 (omega arith) (omega arith)) in absurd (omega arith))
    (one_part (λ i. apart (suc i)) [] xs ys d (omega arith) (λ i k l. h (suc i) (omega arith) (omega arith)))
one_part apart [] [] [] d n h = record { size = refl; at = λ i e. refl }
one_part apart [] [] (y ∷ ys) d n h = absurd (omega arith)
one_part apart [] (x ∷ xs) [] d n h = absurd (omega arith)

-- ---- a pair that meets the premises of demand 3, with a list of events, and what its first tag answers

pub record Met (p : ℕ) (t u : Tag) (m o : List ℕ) (es : List Event) (said : List (List ℕ)) : Type 0 where
  pub sound : sound (blocks_of m) t ≡ true
  pub alike : Alike (only p) t u m o
  pub shut : Shut (only p) t.vault.keys.session
  pub met : unopened (only p) t m es ≡ true
  pub met' : unopened (only p) u o es ≡ true
  pub answered : (run t m es).answers ≡ said
  -- they are two
  pub passwords : password_of t.vault.keys p ≢ password_of u.vault.keys p
  pub memory : m ≢ o

module _ {p : ℕ} {t u : Tag} {m o : List ℕ} {es : List Event} {said : List (List ℕ)} (some_p : p ≢ 0) (x : Met p t u m o es said) where
  -- the theorem holds of it
  pub untold : Untold p t u m o es
  untold =
      demanded p some_p t u m o es (except_is p some_p x.alike)
      (closed_is p some_p x.shut) (closed_is p some_p (shut_too (only p) t u m o x.alike x.shut))
      (is_unopened p some_p x.met) (is_unopened p some_p x.met')

  -- so the second tag answers as the first
  pub answered_too : (run u o es).answers ≡ said
  answered_too = sym untold.answers ∙ x.answered

-- ---- a pair that differs in password 1 and Area 2

-- a 16 Kbit tag. Area 1 is blocks 0 to 7; Area 2, blocks 8 to 15, is read and written in the session of password 1; Area 3, the rest, is
-- written in that of password 2, whose value is that of the first tag's password 1
pub tag_of : Option Session → ℕ → Tag
tag_of s p = record {
  front = (factory 63 ours).front;
  vault = record {
    areas = record { rfa1ss = 0x00; enda1 = 0; rfa2ss = 0x09; enda2 = 1; rfa3ss = 0x06; enda3 = 63; rfa4ss = 0x00 };
    lock0 = false;
    lock1 = false;
    lockcfg = false;
    keys = record { passwords = 0x0706050403020100 ∷ p ∷ 0x1111111111111111 ∷ 0x3333333333333333 ∷ []; session = s };
  };
}

-- 2,048 bytes, zero but for block 7, and block 8, the first hidden one
pub lowest : List ℕ
lowest = replicate 28 0 ++ bytes 4 0x01020304

pub memory_of : ℕ → List ℕ
memory_of b = lowest ++ (bytes 4 b ++ replicate 2012 0)

pub first : Tag
first = tag_of None 0x1111111111111111

pub second : Tag
second = tag_of None 0x2222222222222222

pub first_memory : List ℕ
first_memory = memory_of 0xA1A2A3A4

pub second_memory : List ℕ
second_memory = memory_of 0xB1B2B3B4

-- ---- events that meet the premises, and what the first tag answers

pub events : List Event
events =
    -- the field comes
    field_on
    -- reads up to the hidden area: five blocks from 6 on, and the same with status
    ∷ request (bytes 6 0x02230604033B)
    ∷ request (bytes 6 0x42230604B42D)
    -- and into it: block 8 read, blocks 7 and 8 asked for status, block 8 written
    ∷ request (bytes 5 0x0220080FDC)
    ∷ request (bytes 6 0x022C0701B13F)
    ∷ request (bytes 9 0x022108DEADBEEFB579)
    -- a write that is granted
    ∷ request (bytes 9 0x022100DEADBEEF9523)
    -- wrong values under the chosen number and under 0
    ∷ request (bytes 14 0x02B3020133333333333333335A0C)
    ∷ request (bytes 14 0x02B3020011111111111111111A41)
    -- the value of password 1 under number 2, whose session opens; a write in it, and its password changed, the answer held
    ∷ request (bytes 14 0x02B302021111111111111111E0DA)
    ∷ request (bytes 9 0x022110CAFEF00D7552)
    ∷ request (bytes 14 0x42B102025555555555555555D827)
    ∷ end_of_frame
    -- in that session: password 1 written, a register written, block 8 read
    ∷ request (bytes 14 0x02B102015555555555555555BFA6)
    ∷ request (bytes 7 0x02A10206001186)
    ∷ request (bytes 5 0x0220080FDC)
    -- password 1 of each tag in frames that present nothing: another UID, wrong CRC, wrong length, Option_flag
    ∷ request (bytes 22 0x22B302F1C8D601042302E00111111111111111113F97)
    ∷ request (bytes 14 0x02B302011111111111111111E70D)
    ∷ request (bytes 15 0x02B302012222222222222222228C38)
    ∷ request (bytes 14 0x02B3020122222222222222220C89)
    ∷ request (bytes 14 0x42B302011111111111111111875B)
    -- and in Quiet, not addressed
    ∷ request (bytes 12 0x2202F0C8D601042302E065CC)
    ∷ request (bytes 14 0x02B302011111111111111111E70C)
    -- the field goes and comes; an inventory
    ∷ field_off
    ∷ field_on
    ∷ request (bytes 5 0x260100F60A)
    ∷ []

pub answers : List (List ℕ)
answers =
    []
    ∷ (bytes 11 0x000000000001020304A874)
    ∷ (bytes 13 0x00000000000000010203049BCA)
    ∷ (bytes 4 0x0115B351)
    ∷ (bytes 5 0x00000145D7)
    ∷ (bytes 4 0x01120C25)
    ∷ (bytes 3 0x0078F0)
    ∷ (bytes 4 0x010F68EE)
    ∷ (bytes 4 0x010F68EE)
    ∷ (bytes 3 0x0078F0)
    ∷ (bytes 3 0x0078F0)
    ∷ []
    ∷ (bytes 3 0x0078F0)
    ∷ (bytes 4 0x010F68EE)
    ∷ (bytes 4 0x010F68EE)
    ∷ (bytes 4 0x0115B351)
    ∷ []
    ∷ []
    ∷ []
    ∷ []
    ∷ (bytes 4 0x01030424)
    ∷ []
    ∷ []
    ∷ []
    ∷ []
    ∷ (bytes 12 0x0000F0C8D601042302E064A3)
    ∷ []

-- ---- the right values with the field off

-- 01: "Field off: silence, no change." So nothing is presented
pub unpowered : List Event
unpowered =
    request (bytes 14 0x02B302011111111111111111E70C)
    ∷ request (bytes 14 0x02B3020122222222222222220C88)
    ∷ field_on
    ∷ request (bytes 5 0x0220080FDC)
    ∷ []

-- ---- the right values in calls that are refused

-- a room of 0 bytes is refused by number 2, so nothing is presented either
pub enough : List ℕ
enough = replicate 10243 0

pub calls : List Call
calls =
    record { event = field_on; room = enough }
    ∷ record { event = request (bytes 14 0x02B302011111111111111111E70C); room = [] }
    ∷ record { event = request (bytes 14 0x02B3020122222222222222220C88); room = [] }
    ∷ record { event = request (bytes 5 0x0220080FDC); room = enough }
    ∷ []

-- number and answer of each
pub told : List Seen → List (List ℕ)
told = map (λ (s : Seen). s.number ∷ take s.length s.room)

pub numbers : List (List ℕ)
numbers = (0 ∷ []) ∷ (2 ∷ []) ∷ (2 ∷ []) ∷ (0 ∷ bytes 4 0x0115B351) ∷ []

-- ---- a pair that differs in password 3 and Area 4

-- a 64 Kbit tag whose Area 4, blocks 2,040 to 2,047, is read in the session of password 3, and written never
pub large_of : ℕ → Tag
large_of p = record {
  front = (factory 255 ours).front;
  vault = record {
    areas = record { rfa1ss = 0x00; enda1 = 63; rfa2ss = 0x00; enda2 = 127; rfa3ss = 0x00; enda3 = 254; rfa4ss = 0x0F };
    lock0 = false;
    lock1 = false;
    lockcfg = false;
    keys = record { passwords = 0x0706050403020100 ∷ 0x1111111111111111 ∷ 0x2222222222222222 ∷ p ∷ []; session = None };
  };
}

-- 8,192 bytes, zero but for block 2,039, and block 2,047, the last hidden one
pub large_lowest : List ℕ
large_lowest = replicate 8156 0 ++ bytes 4 0x01020304 ++ replicate 28 0

pub large_memory_of : ℕ → List ℕ
large_memory_of b = large_lowest ++ (bytes 4 b ++ [])

pub third : Tag
third = large_of 0x3333333333333333

pub fourth : Tag
fourth = large_of 0x4444444444444444

pub third_memory : List ℕ
third_memory = large_memory_of 0xA1A2A3A4

pub fourth_memory : List ℕ
fourth_memory = large_memory_of 0xB1B2B3B4

-- three blocks from 2,039 on read, block 2,047 read; blocks 2,039 and 2,040 asked for status; block 2,047 written; a wrong value under
-- the chosen number, and block 2,047 read again
pub at_the_end : List Event
at_the_end =
    field_on
    ∷ request (bytes 8 0x0233F70702007BA9)
    ∷ request (bytes 6 0x0230FF0779C8)
    ∷ request (bytes 8 0x023CF7070100EFE9)
    ∷ request (bytes 10 0x0231FF07DEADBEEF6015)
    ∷ request (bytes 14 0x02B3020355555555555555556796)
    ∷ request (bytes 6 0x0230FF0779C8)
    ∷ []

pub answers_at_the_end : List (List ℕ)
answers_at_the_end =
    []
    ∷ bytes 7 0x0001020304380A
    ∷ bytes 4 0x0115B351
    ∷ bytes 5 0x00000145D7
    ∷ bytes 4 0x01120C25
    ∷ bytes 4 0x010F68EE
    ∷ bytes 4 0x0115B351
    ∷ []

-- ---- lists that break a premise, for the pair in the field

-- the pair in the field, with a session open
pub first_in : Option Session → Tag
first_in s = with_field (tag_of s 0x1111111111111111)

pub second_in : Option Session → Tag
second_in s = with_field (tag_of s 0x2222222222222222)

-- block 8 is read
pub reading : List Event
reading = request (bytes 5 0x0220080FDC) ∷ []

-- the register of Area 2 is written, then block 8 read
pub writing : List Event
writing = request (bytes 7 0x02A10206001186) ∷ reading

-- password 1 of the first tag is presented, then block 8 read; and that of the second tag
pub opening : List Event
opening = request (bytes 14 0x02B302011111111111111111E70C) ∷ reading

pub opening_other : List Event
opening_other = request (bytes 14 0x02B3020122222222222222220C88) ∷ reading

-- the configuration password is presented, the register of Area 2 written, then block 8 read
pub configuring : List Event
configuring = request (bytes 14 0x02B3020000010203040506073D24) ∷ writing

-- what they say of block 8; and that a command is done, a value wrong, a block not readable
pub first_eight : List ℕ
first_eight = bytes 7 0x00A1A2A3A427AD

pub second_eight : List ℕ
second_eight = bytes 7 0x00B1B2B3B4036E

pub success : List ℕ
success = bytes 3 0x0078F0

pub wrong : List ℕ
wrong = bytes 4 0x010F68EE

pub unreadable : List ℕ
unreadable = bytes 4 0x0115B351

-- ---- what antt computes of them

-- a sound tag, password p being chosen: whether the events present none of its own that guard, and what it answers
pub record Plays (p : ℕ) (t : Tag) (m : List ℕ) (es : List Event) (b : Bool) (said : List (List ℕ)) : Type 0 where
  pub sound : sound (blocks_of m) t ≡ true
  pub met : unopened (only p) t m es ≡ b
  pub answers : (run t m es).answers ≡ said

pub record Computed : Type 0 where
  pub small : Plays 1 first first_memory events true answers
  pub small' : unopened (only 1) second second_memory events ≡ true
  pub off : Plays 1 first first_memory unpowered true ([] ∷ [] ∷ [] ∷ unreadable ∷ [])
  pub off' : unopened (only 1) second second_memory unpowered ≡ true
  pub met : unopened_calls (only 1) first first_memory calls ≡ true
  pub met' : unopened_calls (only 1) second second_memory calls ≡ true
  pub said : told (served first first_memory calls).seen ≡ numbers
  pub large : Plays 3 third third_memory at_the_end true answers_at_the_end
  pub large' : unopened (only 3) fourth fourth_memory at_the_end ≡ true
  pub its : Plays 1 (first_in (Some User1)) first_memory reading true (first_eight ∷ [])
  pub its' : Plays 1 (second_in (Some User1)) second_memory reading true (second_eight ∷ [])
  pub configuration : Plays 1 (first_in (Some Configuration)) first_memory writing true (success ∷ first_eight ∷ [])
  pub configuration' : Plays 1 (second_in (Some Configuration)) second_memory writing true (success ∷ second_eight ∷ [])
  pub opened : Plays 1 (first_in None) first_memory opening false (success ∷ first_eight ∷ [])
  pub opened' : Plays 1 (second_in None) second_memory opening true (wrong ∷ unreadable ∷ [])
  pub other : Plays 1 (first_in None) first_memory opening_other true (wrong ∷ unreadable ∷ [])
  pub other' : Plays 1 (second_in None) second_memory opening_other false (success ∷ second_eight ∷ [])
  pub configured : Plays 1 (first_in None) first_memory configuring false (success ∷ success ∷ first_eight ∷ [])
  pub configured' : Plays 1 (second_in None) second_memory configuring false (success ∷ success ∷ second_eight ∷ [])

pub computed : Computed
unfolding first second with_field first_in second_in first_memory second_memory tag_of memory_of lowest events answers unpowered enough calls told numbers event_given served unopened_calls third fourth third_memory fourth_memory large_of large_memory_of large_lowest at_the_end answers_at_the_end reading writing opening opening_other configuring first_eight second_eight success wrong unreadable sound off_rule round_rule held_rule together_rule possible presented unopened bytes ours number_at bytes_of crc_bit crc_bits crc_byte crc_from crc_of crc_bytes session_of is_open present_of change_verdict area_of register_of serves may_read may_write readable_at writable_at locked_at barred_at status_at crosses_at any_barred register_at is_register allows permits register_verdict with_register entry_of first_of more_of head_of limit_of length_of check2 check3 check4 custom check5 after_code fields_at other_uid check6 select_of_another check7 check8 check9 check10 heard_of listing apply_to_tag apply_to_memory perform mask_too_long wrong_length afi_matches afi_fits fits mask_fits slot_of in_slot unheard inventory_of next_slot read_verdict statuses status_verdict write_verdict block_units lock_verdict act_of request_of frame_of work_of step run factory
computed =
    record {
      small = record { sound = refl; met = refl; answers = refl };
      small' = refl;
      off = record { sound = refl; met = refl; answers = refl };
      off' = refl;
      met = refl;
      met' = refl;
      said = refl;
      large = record { sound = refl; met = refl; answers = refl };
      large' = refl;
      its = record { sound = refl; met = refl; answers = refl };
      its' = record { sound = refl; met = refl; answers = refl };
      configuration = record { sound = refl; met = refl; answers = refl };
      configuration' = record { sound = refl; met = refl; answers = refl };
      opened = record { sound = refl; met = refl; answers = refl };
      opened' = record { sound = refl; met = refl; answers = refl };
      other = record { sound = refl; met = refl; answers = refl };
      other' = record { sound = refl; met = refl; answers = refl };
      configured = record { sound = refl; met = refl; answers = refl };
      configured' = record { sound = refl; met = refl; answers = refl };
    }

-- ---- they meet the premises, and what follows

one : ◌≢◌ {A = ℕ} 1 0
one e = omega arith

shut_none : (p : ℕ) → Shut (only p) None
shut_none p = record { closed = λ n g. none_open n }

alike_small : (s : Option Session) → Alike (only 1) (tag_of s 0x1111111111111111) (tag_of s 0x2222222222222222) first_memory second_memory
unfolding tag_of first_memory second_memory memory_of lowest bytes bytes_of hidden_by area_of register_of
alike_small s = record {
  front = refl;
  view = refl;
  passwords = one_part (only 1) (_ ∷ []) (_ ∷ []) (_ ∷ []) _ refl (λ i k l. let e : i ≡ 1 = omega arith in rw e);
  memory = one_part _ lowest (bytes 4 0xA1A2A3A4) (bytes 4 0xB1B2B3B4) _ refl (λ i k l. let e : i / 4 ≡ 8 = omega arith in rw e);
}

-- of any events that present neither tag its own passwords
small_meets : {es : List Event} {said : List (List ℕ)} → Plays 1 first first_memory es true said → unopened (only 1) second second_memory es ≡ true
    → Met 1 first second first_memory second_memory es said
unfolding first second first_memory second_memory tag_of memory_of lowest bytes bytes_of
small_meets x met' = record {
  sound = x.sound;
  alike = alike_small None;
  shut = shut_none 1;
  met = x.met;
  met' = met';
  answered = x.answers;
  passwords = λ e. omega arith;
  memory = λ e. let z : ◌≡◌ {A = ℕ} 0xA1 0xB1 = ap (λ (m : List ℕ). get_or m 32 0) e in omega arith;
}

pub small_met : Met 1 first second first_memory second_memory events answers
small_met = small_meets computed.small computed.small'

pub off_met : Met 1 first second first_memory second_memory unpowered ([] ∷ [] ∷ [] ∷ unreadable ∷ [])
off_met = small_meets computed.off computed.off'

-- and the calls meet them
pub calls_met : UntoldIn 1 first second first_memory second_memory calls
unfolding first second tag_of
calls_met =
    demanded_in 1 one first second first_memory second_memory calls (except_is 1 one (alike_small None))
    (closed_is 1 one (shut_none 1)) (closed_is 1 one (shut_none 1))
    (is_calls_unopened 1 one computed.met) (is_calls_unopened 1 one computed.met')

pub called_too : told (served second second_memory calls).seen ≡ numbers
called_too = sym (ap told calls_met.seen) ∙ computed.said

pub large_met : Met 3 third fourth third_memory fourth_memory at_the_end answers_at_the_end
unfolding third fourth third_memory fourth_memory large_of large_memory_of large_lowest bytes bytes_of hidden_by area_of register_of
large_met = record {
  sound = computed.large.sound;
  alike = record {
    front = refl;
    view = refl;
    passwords = one_part (only 3) (_ ∷ _ ∷ _ ∷ []) (_ ∷ []) (_ ∷ []) [] refl (λ i k l. let e : i ≡ 3 = omega arith in rw e);
    memory = one_part _ large_lowest (bytes 4 0xA1A2A3A4) (bytes 4 0xB1B2B3B4) [] refl (λ i k l. let e : i / 4 ≡ 2047 = omega arith in rw e);
  };
  shut = shut_none 3;
  met = computed.large.met;
  met' = computed.large';
  answered = computed.large.answers;
  passwords = λ e. omega arith;
  memory = λ e. let z : ◌≡◌ {A = ℕ} 0xA1 0xB1 = ap (λ (m : List ℕ). get_or m 8188 0) e in omega arith;
}

-- what the theorem says of the end: block 8 of each tag begins as it did, and password 1 is its own
pub record Still (t u : Tag) (m o : List ℕ) : Type 0 where
  pub block : get_or m 32 0 ≡ 0xA1
  pub block' : get_or o 32 0 ≡ 0xB1
  pub password : password_of t.vault.keys 1 ≡ 0x1111111111111111
  pub password' : password_of u.vault.keys 1 ≡ 0x2222222222222222

pub still : Still
    (run first first_memory events).tag (run second second_memory events).tag
    (run first first_memory events).memory (run second second_memory events).memory
unfolding first second tag_of first_memory second_memory memory_of lowest bytes bytes_of hidden_by area_of register_of
still =
    let s = untold one small_met in
    record {
      block = s.unaltered.bytes 32 ((hidden_by_one 1 one (view_of first.vault) 8).0 refl);
      block' = s.unaltered'.bytes 32 ((hidden_by_one 1 one (view_of second.vault) 8).0 refl);
      password = s.unaltered.its;
      password' = s.unaltered'.its;
    }

-- ---- what is asked of sessions and presentations is needed

-- the two tags with session s open at the start are alike; whether each of them hears none of its own passwords that guard; and their
-- answers differ
pub record Broken (s : Option Session) (es : List Event) (b c : Bool) : Type 0 where
  pub sound : sound (blocks_of first_memory) (first_in s) ≡ true
  pub alike : Alike (only 1) (first_in s) (second_in s) first_memory second_memory
  pub met : unopened (only 1) (first_in s) first_memory es ≡ b
  pub met' : unopened (only 1) (second_in s) second_memory es ≡ c
  pub differ : (run (first_in s) first_memory es).answers ≢ (run (second_in s) second_memory es).answers

-- byte j of answer i
byte : ℕ → ℕ → List (List ℕ) → ℕ
byte i j said = get_or (get_or said i []) j 0

broken : {s : Option Session} {es : List Event} {b c : Bool} {x y : List (List ℕ)} (i j : ℕ) → byte i j x ≢ byte i j y
    → Plays 1 (first_in s) first_memory es b x → Plays 1 (second_in s) second_memory es c y → Broken s es b c
unfolding with_field first_in second_in tag_of
broken {s} i j d p q = record {
  sound = p.sound;
  alike = record { front = refl; view = refl; passwords = (alike_small s).passwords; memory = (alike_small s).memory };
  met = p.met;
  met' = q.met;
  differ = λ e. d (ap (byte i j) (sym p.answers ∙ e ∙ q.answers));
}

pub record EachNeeded : Type 0 where
  -- "In neither is its session or the configuration session open": its own is; the configuration session is
  pub its_session : Broken (Some User1) reading true true
  pub configuration_session : Broken (Some Configuration) writing true true
  -- "neither tag's chosen password .. is presented": the first tag's is; the second tag's is
  pub first_presented : Broken None opening false true
  pub other_presented : Broken None opening_other true false
  -- "nor its configuration password": it is one and the same in both
  pub configuration_presented : Broken None configuring false false

pub each_needed : EachNeeded
unfolding byte bytes bytes_of first_eight second_eight success wrong unreadable
each_needed = record {
  its_session = broken 0 1 (λ e. omega arith) computed.its computed.its';
  configuration_session = broken 1 1 (λ e. omega arith) computed.configuration computed.configuration';
  first_presented = broken 1 0 (λ e. omega arith) computed.opened computed.opened';
  other_presented = broken 1 0 (λ e. omega arith) computed.other computed.other';
  configuration_presented = broken 2 1 (λ e. omega arith) computed.configured computed.configured';
}
