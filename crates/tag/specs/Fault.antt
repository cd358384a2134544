-- 02, "Where a header is wrong": the first fault of an image's header, in the order of its bytes. The rules are those of 01, `header_rule`, one by
-- one; E comes from the memory's size, which at this check fits the image's length.
-- Assumes nothing.
use Rattle.std.specs.Prelude.{ℕ, zero, suc, ◌+◌, ◌-◌, Bool, false, not, ◌&&◌, ◌||◌, List, get_or, leb, eqb, if◌then◌else◌}
use Rattle.rights.specs.declared.Areas.{Areas}
use Rattle.rights.specs.Registers.{register_rule, end_rule, pair_rule}
use Rattle.tag.specs.Rules.{last_end}
use Rattle.tag.specs.Image.{areas_in, mark_rule, lock_rule}

-- the number, 5a to 5e as 5Ah to 5Eh, "with the lowest offending byte's place", from 0; both are 0 where no byte offends
pub record Fault : Type 0 where
  pub number : ℕ
  pub place : ℕ

abbrev pub fault : ℕ → ℕ → Fault
fault number place = record { number = number; place = place }

-- "5e reserved byte": the first of k bytes from a place on that is not zero
unfoldable pub reserved_fault : ℕ → List ℕ → ℕ → Fault
reserved_fault zero i at = fault 0 0
reserved_fault (suc k) i at = if not (eqb (get_or i at 0) 0) then fault 0x5E at else reserved_fault k i (at + 1)

-- "5a size mark, 5b lock byte, 5c protection byte, 5d area end, 5e reserved byte"; "An end above E is charged to its own byte, a wrong pair to
-- the later byte." By whether mark and locks are right, the area registers a, and the fault of the reserved bytes
unfoldable pub first_fault : ℕ → Bool → Bool → Areas → Fault → Fault
first_fault e mark locks a reserved =
    if not mark then fault 0x5A 0 else
    if not locks then fault 0x5B 11 else
    if not (register_rule a.rfa1ss) then fault 0x5C 12 else
    if not (end_rule e a.enda1) then fault 0x5D 13 else
    if not (register_rule a.rfa2ss) then fault 0x5C 14 else
    if not (end_rule e a.enda2 && pair_rule e a.enda1 a.enda2) then fault 0x5D 15 else
    if not (register_rule a.rfa3ss) then fault 0x5C 16 else
    if not (end_rule e a.enda3 && pair_rule e a.enda2 a.enda3) then fault 0x5D 17 else
    if not (register_rule a.rfa4ss) then fault 0x5C 18 else reserved

unfoldable pub header_fault : ℕ → List ℕ → Fault
header_fault blocks i = first_fault (last_end blocks) (mark_rule i) (lock_rule i) (areas_in i) (reserved_fault 13 i 51)

-- ---- what is shown of it: no byte before the named place offends, the named one does, and the letter is that of its place

-- 01: "12 to 18 RFA1SS, ENDA1, RFA2SS, ENDA2, RFA3SS, ENDA3, RFA4SS", of which each RFAiSS is a protection byte and each ENDAi an end
abbrev pub is_protection : ℕ → Bool
is_protection n = (eqb n 12 || eqb n 14) || (eqb n 16 || eqb n 18)

abbrev pub is_end : ℕ → Bool
is_end n = eqb n 13 || (eqb n 15 || eqb n 17)

-- 01: "51 to 63 zero"
abbrev pub is_reserved : ℕ → Bool
is_reserved n = leb 51 n && leb n 63

-- the letter of each place, 0 for the bytes that have no rule: 1 to 10, 19 to 50, and all after the header
unfoldable pub letter_of : ℕ → ℕ
letter_of n =
    if eqb n 0 then 0x5A else
    if eqb n 11 then 0x5B else
    if is_protection n then 0x5C else
    if is_end n then 0x5D else
    if is_reserved n then 0x5E else 0

-- whether the byte at a place offends: alone, or, an end, as the later of a wrong pair, whose earlier end stands two bytes before it
unfoldable pub offends : ℕ → List ℕ → ℕ → Bool
offends blocks i n =
    let e = last_end blocks in
    let byte = get_or i n 0 in
    let letter = letter_of n in
    if eqb letter 0x5A then not (mark_rule i) else
    if eqb letter 0x5B then not (lock_rule i) else
    if eqb letter 0x5C then not (register_rule byte) else
    if eqb letter 0x5D then (if eqb n 13 then not (end_rule e byte) else not (end_rule e byte && pair_rule e (get_or i (n - 2) 0) byte)) else
    if eqb letter 0x5E then not (eqb byte 0) else false
