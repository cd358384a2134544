-- `lines::start` meets its contract: a memory of 2,048 bytes is not refused.
-- Assumes nothing.
use mathlib.Core.Path.{◌≡◌, refl}
use lib.ListN.{length}
use Rattle.std.specs.Prelude.{Ok, Err}
use Rattle.std.specs.Result.{IsOk, result_err}
use Rattle.tag.specs.Host.{number_of, Reply, factory_given}
use Rattle.lines.specs.Calls.{started}
use Rattle.host.proofs.Lent.{some_number}
use borrow.Author.Rules.{rules}
use Rattle.lines.proofs.start.Goals as goal

-- a call whose number is 0 is done
is_done : (r : Reply) → number_of (result_err r) ≡ 0 → IsOk r
is_done (Ok o) h = refl
is_done (Err q) h = absurd (some_number q h)

pub unwrap-made-requires : goal.unwrap-made-requires
unfolding factory_given
unwrap-made-requires c =
    let size : length c.args.memory.now ≡ 2048 = search rules in
    is_done _ (rw size at c.factory-2.ensures.number)

-- the record and the memory are what it gives
pub returns : goal.returns
unfolding started factory_given
returns c =
    let size : length c.args.memory.now ≡ 2048 = search rules in
    let tag = rw c.unwrap-made.ensures at c.factory-2.ensures.tag in
    (rw (tag, size), rw size at c.factory-2.ensures.memory)
