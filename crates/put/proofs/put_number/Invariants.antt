-- `put::put_number` meets its contract: what is written, and the bytes of the rest of the number, are all its bytes.
-- Assumes nothing.
use Rattle.std.proofs.Common.{◌≡◌, ◌-◌, ◌++◌, take}
use Rattle.put.specs.Number.{bytes_of}
use Rattle.put.proofs.put_number.Given as goal

abbrev pub invariant-loop-byte : goal.invariant-loop-byte
invariant-loop-byte l = take l.byte-index l.byte-items ++ bytes_of (l.width - l.byte-index) l.rest ≡ bytes_of l.width l.n
