-- `step::commands::put_listing` meets its contract.
-- Assumes nothing.
use native.Mathlib.Omega.{arith}
use Rattle.step.proofs.Room.{room_put}
use Rattle.step.proofs.commands.put_listing.Goals as goal

pub returns : goal.returns
returns c = room_put c.args.room.now (omega arith) c.read_blocks-n.ensures c.put_success.ensures
