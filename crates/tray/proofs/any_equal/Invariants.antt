-- `tray::any_equal` meets its contract.
-- Assumes nothing.
use mathlib.Core.Path.{◌≡◌}
use lib.ListN.{drop}
use Rattle.tray.specs.Tray.{any_equal}
use Rattle.tray.proofs.any_equal.Given as goal

abbrev pub invariant-loop-i : goal.invariant-loop-i
invariant-loop-i l = any_equal (drop l.i l.uids) ≡ any_equal l.uids
