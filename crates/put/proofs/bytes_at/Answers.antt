-- `put::bytes_at` meets its contract: each byte is the one at its place, so they are one number.
-- Assumes nothing.
use borrow.Author.Rules.{rules}
use Rattle.std.proofs.Common.{◌+◌, get_or, refl, zero-add}
use Rattle.put.proofs.Numbers.{number_same, pure_calls}
use Rattle.put.proofs.bytes_at.Goals as goal

-- byte by byte
pub returns : goal.returns
returns g c =
    let s = c.args.s.now in
    let at = c.args.at in
    let each = pure_calls _ _ (λ i. get_or s (at + i) 0) (λ r i y call. search rules) _ g.row.N 0 _ refl c.from_fn.ensures.items.each in
    number_same g.row.N _ s 0 at (λ k l. simp zero-add (simp zero-add at (each k l)))
