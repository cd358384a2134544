-- `rights::blocks::any_barred` meets its contract: the test of each block is the definition's.
-- Assumes nothing.
use native.Mathlib.Nat.{add-zero}
use Rattle.std.proofs.Common.{arith, refl, rules, ◌+◌}
use Rattle.std.proofs.lemmas.Iterator.{YieldsList-from_range}
use Rattle.std.proofs.lemmas.Iterator.Search.{any_from_yields_List}
use Rattle.rights.specs.Blocks.{barred_at}
use Rattle.rights.proofs.Runs.{any_as_list}
use Rattle.rights.proofs.blocks.any_barred.Goals as goal

-- the chain's answer, in the words of the library
pub returns : goal.returns
returns c =
    let v = c.args.v in
    let b = c.args.first in
    let n = c.args.count in
    rw (← add-zero b, any_as_list v b 0 n)
    (any_from_yields_List (λ k. barred_at v (b + k)) _ _ _ c.any.ensures.ran (YieldsList-from_range _ _ n refl (omega arith)) (λ x b q called. search rules))
