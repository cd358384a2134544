-- `lines::end_line` meets its contract, where the line is an event.
-- Assumes nothing.
use mathlib.Core.Path.{◌≡◌, ◌∙◌}
use lib.ListN.{take}
use native.Mathlib.Omega.{arith}
use Rattle.std.proofs.lemmas.Grind.{common_steps}
use Rattle.lines.specs.Calls.{ended}
use Rattle.lines.proofs.Answered.{answer_of, answered}
use Rattle.lines.proofs.end_line.Goals as goal

-- the answer is what the line is answered with; as much of the line is there as its length says
pub returns-in-Some-clause-given : goal.returns-in-Some-clause-given
unfolding ended
returns-in-Some-clause-given c =
    let p = c.args.p in
    let same : take c.min.result p.line ≡ take p.length p.line = grind (arith, common_steps) in
    let outcome = c.unwrap_or-outcome.ensures ∙ answer_of p.tag c.happen.result in
    rw (← same, ← c.form_of.ensures, c.in-Some.is) (answered c.in-Some.kind p _ c.happen.ensures.given (rw outcome at c.say.ensures.given))
