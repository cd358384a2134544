-- `tray::any_equal` meets its contract.
-- Assumes nothing.
use mathlib.Core.Path.{sym, ◌∙◌}
use Rattle.tray.proofs.Hearing.{equal_next, equal_none}
use Rattle.tray.proofs.any_equal.Goals as goal

-- this one comes again
pub returns-then-is_in : goal.returns-then-is_in
returns-then-is_in c = sym (equal_next _ _ c.loop-i-test.true c.if-is_in.ensures) ∙ c.loop-i.invariant

-- it does not: a later one, if any
pub loop-i-preserved : goal.loop-i-preserved
loop-i-preserved c = sym (equal_next _ _ c.loop-i-test.true c.if-is_in.ensures) ∙ c.loop-i.invariant

-- none does
pub returns : goal.returns
returns c = sym (equal_none _ _ c.loop-i-test.false) ∙ c.loop-i.invariant
