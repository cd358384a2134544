-- `casebook::keep` meets its contract.
-- Assumes nothing.
use Rattle.std.proofs.Common.{arith, sym, ◌≡◌, ◌≤◌, ◌+◌, length, [], ◌∷◌}
use Rattle.std.proofs.Math.Seq.{take_all, take-append_seam}
use Rattle.std.proofs.lemmas.List.{length-append}
use Rattle.caselines.specs.Limits.{line_most}
use Rattle.casebook.proofs.keep.Goals as goal

-- a line that is not full takes the byte, and is not too long then
pub returns-then-not-is_full : goal.returns-then-not-is_full
returns-then-not-is_full c =
    let room : length c.args.line.now.items + 1 ≤ line_most = grind arith in
    rw c.push.ensures.items (sym (take_all line_most _ (simp length-append room)))

-- a full one stays: it is the first line_most bytes, whatever comes
pub returns-else-not-is_full : goal.returns-else-not-is_full
returns-else-not-is_full c =
    let full : length c.args.line.now.items ≡ line_most = grind arith in
    sym (rw full at (take-append_seam c.args.line.now.items (c.args.byte ∷ [])))
