-- `cabi::uistermo_search` meets its contract: number and requests of `tray::search`, as one result.
-- Assumes nothing.
use native.Mathlib.Omega.{arith}
use Rattle.std.specs.Prelude.{Ok, Err}
use Rattle.cabi.proofs.Left.{search_returned}
use Rattle.cabi.proofs.uistermo_search.Goals as goal

-- the number of requests
pub returns-in-Ok : goal.returns-in-Ok
returns-in-Ok c = search_returned _ _ (Ok c.in-Ok.requests) c.in-Ok.ensures (omega arith)

-- or the refusal
pub returns-in-Err : goal.returns-in-Err
returns-in-Err c = search_returned _ _ (Err c.in-Err.refusal) c.in-Err.ensures c.refused.ensures
