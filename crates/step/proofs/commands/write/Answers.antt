-- `step::commands::write` meets its contract.
-- Assumes nothing.
use mathlib.Core.Path.{sym, ◌∙◌}
use Prim.Native.Nat.{◌/◌}
use lib.ListN.{length}
use Rattle.tag.proofs.Writes.{write_granted}
use Rattle.tag.proofs.Listing.{limit_within}
use native.Mathlib.Omega.{arith}
use Rattle.step.proofs.commands.write.Goals as goal

-- the blocks lie in the memory
pub write_blocks-requires-clause-more_in_bounds : goal.write_blocks-requires-clause-more_in_bounds
write_blocks-requires-clause-more_in_bounds c =
    let within = (write_granted _ _ _ _ (sym c.write_verdict.ensures ∙ c.in_ok-write_verdict.was)).within in
    omega (arith, within, limit_within c.args.e (length c.args.memory.now / 4), c.limit-limit.ensures)
