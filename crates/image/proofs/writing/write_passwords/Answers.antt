-- `image::writing::write_passwords` meets its contract: each password is written after the ones before it.
-- Assumes nothing.
use mathlib.Core.Path.{◌≡◌}
use native.Mathlib.Omega.{arith}
use Rattle.put.specs.Number.{bytes_of}
use Rattle.image.proofs.Passwords.{next_written}
use Rattle.image.proofs.writing.write_passwords.Goals as goal

pub loop-n-preserved : goal.loop-n-preserved
loop-n-preserved c = next_written _ _ c.loop-n-test.true c.loop-n.invariant c.put_number.ensures

-- all four
pub returns : goal.returns
unfolding bytes_of
returns c = let end : c.loop-n.n ≡ 4 = omega arith in rw end at c.loop-n.invariant
