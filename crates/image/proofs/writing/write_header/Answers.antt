-- `image::writing::write_header` meets its contract: its parts, one after the other.
-- Assumes nothing.
use mathlib.Core.Path.{refl}
use native.Mathlib.Omega.{arith}
use Rattle.put.specs.Number.{bytes_of}
use Rattle.tag.specs.Image.{header_of}
use Rattle.put.proofs.Lists.{put_after, put_then}
use Rattle.image.proofs.writing.write_header.Goals as goal

pub returns : goal.returns
unfolding header_of bytes_of
returns c =
    rw (← c.mark.ensures, ← c.lock_byte.ensures)
    (put_then refl
    (put_then refl
    (put_then refl (put_after c.mark.result (omega arith) c.put_number.ensures) c.copy.ensures)
    c.write_passwords.ensures)
    c.copy-2.ensures)
