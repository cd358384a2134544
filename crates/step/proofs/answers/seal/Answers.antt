-- `step::answers::seal` meets its contract.
-- Assumes nothing.
use native.Mathlib.Omega.{arith}
use Rattle.step.proofs.Room.{seal_put}
use Rattle.step.proofs.answers.seal.Goals as goal

-- the CRC stands after the first n bytes
pub returns : goal.returns
returns c = seal_put c.args.room.now c.args.n (omega (arith, c.if-n-eq0.false)) (omega arith) c.crc_bytes-c.ensures
