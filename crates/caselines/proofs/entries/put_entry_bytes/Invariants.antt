-- `caselines::entries::put_entry_bytes` meets its contract: what is written, and the bytes of the entries that are left, are all the bytes.
-- Assumes nothing.
use lib.ListN.{drop}
use Rattle.put.proofs.Written.{Written}
use Rattle.caselines.specs.Entries.{entry_bytes}
use Rattle.caselines.proofs.entries.put_entry_bytes.Given as goal

abbrev pub invariant-loop-entry : goal.invariant-loop-entry
invariant-loop-entry l = Written (entry_bytes l.list) (entry_bytes (drop l.entry-index l.list)) l.initial.out l.out l.at
