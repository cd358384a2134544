-- `text::put_bytes` meets its contract: the bytes of as many pairs as were passed are written.
-- Assumes nothing.
use Rattle.std.proofs.Common.{◌≡◌, ◌*◌, ◌++◌, take, drop}
use Rattle.text.specs.Text.{bytes_in}
use Rattle.text.proofs.put_bytes.Given as goal

abbrev pub invariant-loop-i : goal.invariant-loop-i
invariant-loop-i l = l.out ≡ bytes_in (take (2 * l.i) l.digits) ++ drop l.i l.initial.out
