-- `tray::Tray::listen` meets its contract.
-- Assumes nothing.
use Rattle.tray.proofs.Hearing.{Listening}
use Rattle.tray.proofs.Tray.listen.Given as goal

abbrev pub invariant-loop-uid : goal.invariant-loop-uid
invariant-loop-uid l = Listening l.uid-items l.mask.value l.mask.bits l.tally.counts l.uid-index
