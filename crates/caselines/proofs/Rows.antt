-- How long an answer line is at most.
-- Assumes nothing.
use mathlib.Core.Path.{◌≡◌}
use mathlib.Core.List.{List}
use Prim.Native.Nat.{ℕ, ◌*◌, ◌≤◌}
use native.Mathlib.Omega.{arith}
use lib.ListN.{length, length-append}
use Rattle.std.proofs.lemmas.Grind.{common_steps}
use Rattle.text.proofs.Texts.{hex_or_most, decimal_length}
use Rattle.rights.proofs.Cases.{if_one}
use Rattle.packed.specs.Bytes.{record_length}
use Rattle.packed.specs.Result.{refusal_in, place_in, length_in}
use Rattle.caselines.specs.Limits.{room_most, row_most, uid_length, entries_most}
use Rattle.caselines.specs.Entries.{entry_bytes}
use Rattle.caselines.specs.Row.{crc_high, is_lettered, column_text, numbers_text, pair_text, row_text, search_row_text}
use Rattle.caselines.proofs.Eights.{entry_bytes_length}

-- the number column
column_most : (number place : ℕ) → length (column_text number place) ≤ 23
unfolding column_text
column_most number place =
    if_one (λ (s : List ℕ). length s ≤ 23) (is_lettered number)
    (λ q. omega (arith, decimal_length 19 place))
    (λ q. omega (arith, decimal_length 19 number))

-- it has room in row_most bytes, where the answer is no longer than the room can be
pub row_most_lem : (result : ℕ) (answer tag memory room : List ℕ)
    → length answer ≤ room_most → length tag ≡ record_length → length (row_text result answer tag memory room) ≤ row_most
unfolding row_text numbers_text pair_text
row_most_lem result answer tag memory room h e =
    simp length-append
    (omega (
      arith,
      column_most (refusal_in result) (place_in result),
      decimal_length 19 (length_in result),
      hex_or_most 0x2D answer room_most (omega arith) h,
      hex_or_most 0x2D tag record_length (omega arith) (omega arith),
      hex_or_most 0x2D (crc_high memory) 2 (omega arith) (omega arith),
      hex_or_most 0x2D (crc_high room) 2 (omega arith) (omega arith),
    ))

-- and so has that of a search, where no more UIDs are found than a list has entries
pub search_row_most : (result : ℕ) (found list : List ℕ) → length found ≤ entries_most → length (search_row_text result found list) ≤ row_most
unfolding search_row_text numbers_text pair_text
search_row_most result found list h =
    simp length-append
    (omega (
      arith,
      column_most (refusal_in result) (place_in result),
      decimal_length 19 (length_in result),
      hex_or_most 0x2D (entry_bytes found) (uid_length * entries_most) (omega arith) (omega (arith, entry_bytes_length found)),
      hex_or_most 0x2D (crc_high (entry_bytes list)) 2 (omega arith) (omega arith),
    ))

-- what `put_call` and `put_search` cite
pub ruleset longest = (common_steps, row_most_lem, search_row_most)
