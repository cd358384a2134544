-- `packed::write_passing` meets its contract.
-- Assumes nothing.
use mathlib.Core.Path.{◌∙◌}
use Rattle.packed.proofs.Written.{passing_put, header_stood}
use Rattle.packed.proofs.write_passing.Goals as goal

-- the eight bytes are the last ones, and what was lent are bytes
pub returns : goal.returns
returns c =
    let t = c.args.t in
    let r = c.args.bytes.now in
    let is = passing_put t r (rw c.passing.ensures at c.copy.ensures) c.told-bytes in
    record { is = is; whole = λ size blocks rule same. is ∙ header_stood size blocks t r c.fits-bytes c.told-bytes rule same }
