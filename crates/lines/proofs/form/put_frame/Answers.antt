-- `lines::form::put_frame` meets its contract.
-- Assumes nothing.
use Rattle.lines.proofs.Sealed.{sealed_put}
use Rattle.lines.proofs.form.put_frame.Goals as goal

-- the bytes and their CRC are the frame
pub returns : goal.returns
returns c = sealed_put c.put_bytes-n.ensures c.requires c.crc_bytes-crc.ensures
