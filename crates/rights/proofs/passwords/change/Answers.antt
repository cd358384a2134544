-- `rights::passwords::change` meets its contract.
-- Assumes nothing.
use mathlib.Core.Path.{sym}
use native.Mathlib.Omega.{arith}
use Rattle.rights.proofs.Sessions.{change_open}
use Rattle.rights.proofs.passwords.change.Goals as goal

-- a password that is replaced is one of the four
pub bounds-keys-n : goal.bounds-keys-n
bounds-keys-n c = omega (arith, (change_open _ _ (sym c.in_ok-change_verdict.ensures)).0)
