-- `image::writing::write_passwords` meets its contract: the passwords before the n-th are written.
-- Assumes nothing.
use Rattle.image.proofs.Passwords.{Written}
use Rattle.image.proofs.writing.write_passwords.Given as goal

abbrev pub invariant-loop-n : goal.invariant-loop-n
invariant-loop-n l = Written l.fn.passwords l.n l.initial.out l.out
