-- `step::answers::put_inventory` meets its contract.
-- Assumes nothing.
use native.Mathlib.Omega.{arith}
use Rattle.step.proofs.Room.{room_put}
use Rattle.step.proofs.answers.put_inventory.Goals as goal

pub returns : goal.returns
returns c = room_put c.args.room.now (omega arith) c.put_identity-n.ensures c.put_success.ensures
