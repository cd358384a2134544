-- `bench::through` meets its contract.
-- Assumes nothing.
use Prim.Native.Nat.{ℕ}
use mathlib.Core.Path.{◌≡◌, refl}
use mathlib.Core.Logic.{◌≢◌}
use mathlib.Core.Bool.{not}
use mathlib.Core.List.{List}
use lib.Dec.{ltb}
use lib.ListN.{length}
use Rattle.std.proofs.Common.{arith}
use Rattle.std.proofs.lemmas.Grind.{common_steps}
use Rattle.std.proofs.lemmas.Result.{err_from_is_err_and}
use Rattle.rights.proofs.Cases.{if_one}
use Rattle.record.specs.declared.Tag.{Tag}
use Rattle.tag.specs.Rules.{blocks_of, sound}
use Rattle.tag.specs.Step.{Event}
use Rattle.tag.specs.Host.{is_memory, least_room, EventGiven, event_given}
use Rattle.host.proofs.Lent.{some_number}
use Rattle.bench.proofs.through.Goals as goal

-- "A refusal returns its number and length 0; record and buffers stay.": the record, of an event
abbrev Stays : Tag → EventGiven → Type 0
Stays t g = g.number ≢ 0 → g.tag ≡ t

record_stays : (t : Tag) (e : Event) (m x : List ℕ) → Stays t (event_given t e m x)
unfolding event_given
record_stays t e m x =
    if_one (Stays t) (not (is_memory m)) (λ p h. refl) (λ p.
    if_one (Stays t) (ltb (length x) least_room) (λ q h. refl) (λ q.
    if_one (Stays t) (not (sound (blocks_of m) t)) (λ r h. refl) (λ r h. absurd (h refl))))

-- where the event is refused
pub returns-in_err-length : goal.returns-in_err-length
returns-in_err-length c =
    let p = err_from_is_err_and c.from_residual.result c.from_residual.ensures.1 in
    rw (p.1, p.2) (grind (arith, common_steps, some_number, record_stays))
