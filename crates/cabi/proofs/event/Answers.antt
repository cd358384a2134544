-- `cabi::event` meets its contract: where no number is due and the event is no frame, the passing parts alone are written.
-- Assumes nothing.
use mathlib.Core.Path.{◌≡◌}
use mathlib.Core.Logic.{◌≢◌}
use mathlib.Core.Bool.{true}
use Rattle.std.proofs.Common.{rules, arith}
use Rattle.std.proofs.lemmas.Grind.{common_steps}
use Rattle.record.specs.declared.Kind.TheVariants.{Request}
use Rattle.host.proofs.Lent.{blocks_by_end}
use Rattle.packed.specs.Bytes.{is_record}
use Rattle.cabi.specs.Calls.{event_left}
use Rattle.cabi.proofs.Left.{passing_left}
use Rattle.cabi.proofs.event.Goals as goal

pub returns-in_default-kind : goal.returns-in_default-kind
unfolding event_left
returns-in_default-kind c =
    let right : is_record c.args.memory.now c.args.bytes.now ≡ true = grind (arith, common_steps, blocks_by_end) in
    let other : c.in-Some.kind ≢ Request = search rules in
    let whole = passing_left c.args.frame.now c.args.memory.now other right (rw c.read_record.ensures at c.step-length.ensures) c.write_passing.ensures in
    grind (arith, common_steps, blocks_by_end)
