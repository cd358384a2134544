-- `caselines::form::number_from` meets its contract: what is left to look at gives the answer of the whole.
-- Assumes nothing.
use mathlib.Core.Path.{◌≡◌}
use Prim.Native.Nat.{◌≤◌}
use lib.ListN.{drop}
use Rattle.caselines.specs.Form.{number_from}
use Rattle.caselines.proofs.form.number_from.Given as goal

abbrev pub invariant-loop-figure : goal.invariant-loop-figure
invariant-loop-figure l =
    (l.n ≤ l.most) × (number_from l.most l.n (drop l.figure-index l.figures) ≡ number_from l.most 0 l.figures)
