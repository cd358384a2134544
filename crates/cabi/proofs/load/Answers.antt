-- `cabi::load` meets its contract: 5a to 5e, the fault that was found of the header.
-- Assumes nothing.
use Rattle.std.proofs.Common.{arith}
use Rattle.std.proofs.lemmas.Grind.{common_steps}
use Rattle.std.proofs.lemmas.Result.{err_from_is_err_and}
use Rattle.tag.specs.Host.{load_given}
use Rattle.host.proofs.Lent.{blocks_by_end, some_number, header_broken}
use Rattle.cabi.specs.Calls.{load_left}
use Rattle.cabi.proofs.load.Goals as goal

pub returns-in_err-header_fault : goal.returns-in_err-header_fault
unfolding load_left load_given
returns-in_err-header_fault c =
    let p = err_from_is_err_and c.from_residual.result c.from_residual.ensures.1 in
    rw (p.1, p.2) (grind (arith, common_steps, blocks_by_end, some_number, header_broken))
