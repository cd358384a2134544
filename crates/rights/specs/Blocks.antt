-- "Blocks and areas": which area a block is in, and what its register lets the open session do there.
-- Assumes nothing.
use Rattle.std.specs.Prelude.{ℕ, zero, suc, ◌+◌, ◌*◌, ◌/◌, ◌%◌, ◌≡◌, Bool, true, false, not, ◌&&◌, ◌||◌, leb, ltb, eqb, if◌then◌else◌, Option}
use Rattle.rights.specs.declared.Areas.{Areas}
use Rattle.rights.specs.declared.Session.{Session}
use Rattle.rights.specs.declared.View.{View}
use Rattle.rights.specs.Passwords.{session_of, is_open}

-- 003, 4.2.1: "Last block address of area = 8 x ENDA_i + 7"
abbrev pub last_block : ℕ → ℕ
last_block e = 8 * e + 7

-- "Area i is the lowest i with block at most 8 × ENDAi + 7; Area 4 takes the rest."
unfoldable pub area_of : Areas → ℕ → ℕ
area_of a b =
    if leb b (last_block a.enda1) then 1 else
    if leb b (last_block a.enda2) then 2 else
    if leb b (last_block a.enda3) then 3 else 4

-- RFAiSS of area i
unfoldable pub register_of : Areas → ℕ → ℕ
register_of a i =
    if eqb i 1 then a.rfa1ss else
    if eqb i 2 then a.rfa2ss else
    if eqb i 3 then a.rfa3ss else a.rfa4ss

-- "RFAiSS bits 1-0 name password 1, 2 or 3, or none (00); bits 3-2 give protection."
abbrev pub named : ℕ → ℕ
named f = f % 4

abbrev pub protection : ℕ → ℕ
protection f = f / 4 % 4

-- "With password bits 00 no session serves."
unfoldable pub serves : Option Session → ℕ → Bool
serves s n = if eqb n 0 then false else is_open s n

-- "Area 1 is always readable"; "Areas 2 to 4: 00 read and write always; 01 read always, write in session; 10 both in session; 11 read in
-- session, write never."
unfoldable pub may_read : ℕ → ℕ → Option Session → Bool
may_read i f s =
    if eqb i 1 then true else
    if ltb (protection f) 2 then true else serves s (named f)

-- Area 1, "write: 00 always, 01 and 10 in session, 11 never", and so in Areas 2 to 4
unfoldable pub may_write : ℕ → Option Session → Bool
may_write f s =
    if eqb (protection f) 0 then true else
    if eqb (protection f) 3 then false else serves s (named f)

unfoldable pub readable_at : View → ℕ → Bool
readable_at v b = may_read (area_of v.areas b) (register_of v.areas (area_of v.areas b)) v.session

unfoldable pub writable_at : View → ℕ → Bool
writable_at v b = may_write (register_of v.areas (area_of v.areas b)) v.session

-- the lock bits of blocks 0 and 1; no other block has one
unfoldable pub locked_at : View → ℕ → Bool
locked_at v b =
    if eqb b 0 then v.lock0 else
    if eqb b 1 then v.lock1 else false

-- "locked or not writable now"
unfoldable pub barred_at : View → ℕ → Bool
barred_at v b = locked_at v b || not (writable_at v b)

-- "a status byte precedes each block: 01h if it is locked or not writable now, else 00h"
unfoldable pub status_at : View → ℕ → ℕ
status_at v b = if barred_at v b then 1 else 0

-- "area border crossed", by a run of the first block and so many more
unfoldable pub crosses_at : Areas → ℕ → ℕ → Bool
crosses_at a first more = not (eqb (area_of a first) (area_of a (first + more)))

-- "any block not writable or locked", of n blocks from b on
unfoldable pub any_barred : View → ℕ → ℕ → Bool
any_barred v b zero = false
any_barred v b (suc n) = barred_at v b || any_barred v (b + 1) n

-- ---- what a set of passwords guards

-- a block that only a password of the set makes readable: of Areas 2 to 4, protection 10 or 11, and its register names the password
unfoldable pub hidden_by : (ℕ → Bool) → Areas → ℕ → Bool
hidden_by chosen a b =
    not (eqb (area_of a b) 1)
    && (leb 2 (protection (register_of a (area_of a b))) && chosen (named (register_of a (area_of a b))))

-- the same registers and locks, with another session open
abbrev pub in_session : View → Option Session → View
in_session v s = record { areas = v.areas; lock0 = v.lock0; lock1 = v.lock1; lockcfg = v.lockcfg; session = s }

-- block b is readable in the session of password p, and in no session that is not p's. Of one password p, 1 to 3, `hidden_by` says just this, by
-- the law hidden_by_one
pub record OnlyThis (p : ℕ) (v : View) (b : ℕ) : Type 0 where
  pub opens : readable_at (in_session v (session_of p)) b ≡ true
  pub others : (s : Option Session) → is_open s p ≡ false → readable_at (in_session v s) b ≡ false

-- the same of a set of passwords 1 to 3: in the session of one of them, and in no session that is none of theirs; by the law hidden_only
pub record OnlyThese (chosen : ℕ → Bool) (v : View) (b : ℕ) : Type 0 where
  pub by : ℕ
  pub one : chosen by ≡ true
  pub opens : readable_at (in_session v (session_of by)) b ≡ true
  pub others : (s : Option Session) → ((n : ℕ) → chosen n ≡ true → is_open s n ≡ false) → readable_at (in_session v s) b ≡ false
