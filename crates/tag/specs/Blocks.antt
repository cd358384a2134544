-- "Blocks and areas": reads, status, writes and locks, as they are decided.
-- Assumes nothing.
use Rattle.std.specs.Prelude.{ℕ, zero, suc, ◌+◌, Bool, not, List, [], ◌∷◌, take, drop, leb, ltb, eqb, if◌then◌else◌, Ok, Err}
use Rattle.rights.specs.declared.View.{View}
use Rattle.rights.specs.Verdict.{Verdict}
use Rattle.rights.specs.Blocks.{readable_at, writable_at, locked_at, status_at, crosses_at, any_barred}
use Rattle.tag.specs.Work.{body, error, Unit, block, block_lock, Act, says, lists, writes}

-- what is refused says so, and what is granted is done
abbrev pub granted : Verdict → Act → Act
granted (Ok tt) a = a
granted (Err c) a = says (error c)

-- "First block outside: 10h. First block not readable: 15h. Otherwise the list"
unfoldable pub read_verdict : View → ℕ → ℕ → Verdict
read_verdict v limit first =
    if leb limit first then Err 0x10 else
    if not (readable_at v first) then Err 0x15 else Ok tt

abbrev pub read_of : View → ℕ → ℕ → ℕ → Bool → Act
read_of v limit first count status = granted (read_verdict v limit first) (lists limit first count status)

-- "status bytes alone: outside answers 10h or cuts as above, readability does not"
unfoldable pub statuses : View → ℕ → ℕ → ℕ → List ℕ
statuses v limit b zero = []
statuses v limit b (suc n) = if ltb b limit then status_at v b ∷ statuses v limit (b + 1) n else []

unfoldable pub status_verdict : ℕ → ℕ → Verdict
status_verdict limit first = if leb limit first then Err 0x10 else Ok tt

abbrev pub status_of : View → ℕ → ℕ → ℕ → Act
status_of v limit first count = granted (status_verdict limit first) (says (body (statuses v limit first count)))

-- "count over 4 is 0Fh; any block outside 10h; area border crossed 0Fh; any block not writable or locked 12h". Of the first block and so many
-- more: the last one is outside where any is
unfoldable pub write_verdict : View → ℕ → ℕ → ℕ → Verdict
write_verdict v limit first more =
    if ltb 4 (more + 1) then Err 0x0F else
    if leb limit (first + more) then Err 0x10 else
    if crosses_at v.areas first more then Err 0x0F else
    if any_barred v first (more + 1) then Err 0x12 else Ok tt

-- the blocks of a write, ascending
unfoldable pub block_units : ℕ → ℕ → List ℕ → List Unit
block_units b zero bytes = []
block_units b (suc n) bytes = block b (take 4 bytes) ∷ block_units (b + 1) n (drop 4 bytes)

abbrev pub write_of : View → ℕ → ℕ → ℕ → List ℕ → Act
write_of v limit first more bytes = granted (write_verdict v limit first more) (writes (block_units first (more + 1) bytes))

-- "block over 1 is 10h; already locked 11h; not writable 14h"
unfoldable pub lock_verdict : View → ℕ → Verdict
lock_verdict v b =
    if ltb 1 b then Err 0x10 else
    if locked_at v b then Err 0x11 else
    if not (writable_at v b) then Err 0x14 else Ok tt

abbrev pub lock_of : View → ℕ → Act
lock_of v b = granted (lock_verdict v b) (writes (block_lock (eqb b 1) ∷ []))
