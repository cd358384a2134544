-- `caselines::entries::put_entries` meets its contract: what is written, and the entries of the bytes that are left, are all the entries.
-- Assumes nothing.
use Prim.Native.Nat.{◌-◌, ◌*◌, ◌/◌}
use lib.ListN.{length}
use Rattle.put.proofs.Written.{Written}
use Rattle.caselines.specs.Limits.{uid_length}
use Rattle.caselines.specs.Entries.{entries_from, entries_in}
use Rattle.caselines.proofs.entries.put_entries.Given as goal

abbrev pub invariant-loop-i : goal.invariant-loop-i
invariant-loop-i l = Written (entries_in l.bytes) (entries_from (length l.bytes / uid_length - l.i) (uid_length * l.i) l.bytes) l.initial.out l.out l.i
