-- `image::writing::save` meets its contract.
-- Assumes nothing.
use mathlib.Core.Path.{sym}
use lib.ListN.{length-append}
use Rattle.tag.specs.Image.{image_of}
use Rattle.tag.proofs.Headers.{header_length_lem}
use Rattle.put.proofs.Lists.{put_then, put_all}
use borrow.Author.Rules.{rules}
use Rattle.image.proofs.writing.save.Goals as goal

-- the header, and the memory after it, are all of the image
pub returns : goal.returns
unfolding image_of
returns c =
    let both = put_then (sym (header_length_lem _ _)) c.write_header.ensures
    c.copy_all.ensures in
    (search rules, put_all both (simp (length-append, header_length_lem) c.requires))
