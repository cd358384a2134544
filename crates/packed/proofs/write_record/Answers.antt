-- `packed::write_record` meets its contract.
-- Assumes nothing.
use Rattle.packed.proofs.Written.{record_put}
use Rattle.packed.proofs.write_record.Goals as goal

-- the header, and the passing parts after it
pub returns : goal.returns
returns c =
    record_put c.args.size c.args.t c.write_header.ensures c.write_passing.ensures.is
