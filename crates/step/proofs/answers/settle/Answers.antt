-- `step::answers::settle` meets its contract.
-- Assumes nothing.
use mathlib.Core.Path.{refl}
use Rattle.tag.specs.Work.{verdict, perform}
use Rattle.step.proofs.Acts.{told}
use Rattle.step.proofs.answers.settle.Goals as goal

-- the answer is held
pub returns-then-hold : goal.returns-then-hold
unfolding perform
returns-then-hold c m =
    rw c.if-hold.true
    (record { result = rw (c.silent.ensures, c.set_front.ensures, c.set_held-front.ensures); memory = refl; room = refl })

-- it is given at once
pub returns : goal.returns
returns c m =
    let a = c.args in
    rw c.if-hold.false (told a.t (verdict a.v) c.put_verdict-length.ensures m)
