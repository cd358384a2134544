-- `casebook::desk::search` is safe and ends: UIDs and list lie within their buffers.
-- Assumes nothing.
use native.Mathlib.Omega.{arith}
use Rattle.text.specs.Text.{bytes_in}
use Rattle.text.proofs.Pieces.{put_there}
use Rattle.text.proofs.Texts.{bytes_length}
use Rattle.caselines.proofs.Eights.{entries_most_lem}
use Rattle.casebook.proofs.desk.search.Goals as goal

-- the UIDs have room in their buffer
pub put_entries-tags-requires : goal.put_entries-tags-requires
put_entries-tags-requires c =
    let digits = c.args.digits.now in
    rw (put_there c.put_bytes-k.ensures) (entries_most_lem (bytes_in digits) (omega (arith, bytes_length digits)))
