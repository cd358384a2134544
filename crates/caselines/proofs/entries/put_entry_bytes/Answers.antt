-- `caselines::entries::put_entry_bytes` meets its contract: what is written, and the bytes of the entries that are left, are all the bytes.
-- Assumes nothing.
use Rattle.put.proofs.Written.{more}
use Rattle.caselines.proofs.Eights.{eight, eight_room, entry_bytes_end}
use Rattle.caselines.proofs.entries.put_entry_bytes.Goals as goal

-- the bytes of an entry have room in what is lent
pub put_number-at-requires : goal.put_number-at-requires
put_number-at-requires c = eight_room _ _ c.loop-entry.invariant c.loop-entry-test.true

-- they are the next of the list's
pub loop-entry-preserved : goal.loop-entry-preserved
loop-entry-preserved c = more (eight _ _ c.loop-entry.invariant c.loop-entry-test.true) c.put_number-at.ensures

-- no entry is left
pub returns : goal.returns
returns c = entry_bytes_end _ _ c.loop-entry.invariant c.loop-entry-test.false
