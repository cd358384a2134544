-- `tray::search` meets its contract: each number in its order, and what `ask` promised.
-- Assumes nothing.
use Rattle.tray.proofs.Given.{each_fits, too_many, two_equal, too_small, search_asks, searched}
use Rattle.tray.proofs.Weigh.{apart}
use Rattle.tray.proofs.search.Goals as goal

-- 6: more than 256 tags
pub returns-then-uids-gt256 : goal.returns-then-uids-gt256
returns-then-uids-gt256 c = too_many _ _ c.if-uids-gt256.true

-- 7: two UIDs are equal
pub returns-then-any_equal : goal.returns-then-any_equal
returns-then-any_equal c =
    two_equal _ _ c.if-uids-gt256.false c.if-any_equal.ensures

-- 18: the list's room is too small
pub returns-then-list-uids : goal.returns-then-list-uids
returns-then-list-uids c =
    too_small _ _ c.if-uids-gt256.false c.if-any_equal.ensures c.if-list-uids.true

-- a tray with no two alike
pub invariant_of-tray-clause-differ : goal.invariant_of-tray-clause-differ
invariant_of-tray-clause-differ c =
    apart _ (each_fits _ c.type_inv.uids) c.if-any_equal.ensures

-- the first request: the mask is empty, and the room is large enough
pub ask-found-requires : goal.ask-found-requires
ask-found-requires c =
    search_asks _ _ c.if-uids-gt256.false c.if-any_equal.ensures c.if-list-uids.false
    (each_fits _ c.type_inv.uids)

-- none of these: the list and the number that `ask` promised
pub returns : goal.returns
returns c =
    searched _ _ c.if-uids-gt256.false c.if-any_equal.ensures c.if-list-uids.false
    (each_fits _ c.type_inv.uids)
    c.ask-found.ensures
