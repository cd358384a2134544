-- `step::rounds::take_inventory` meets its contract.
-- Assumes nothing.
use mathlib.Core.Bool.{false}
use Rattle.step.proofs.Acts.{shown, quiet}
use Rattle.tag.specs.Inventory.{inventory_of}
use Rattle.step.proofs.rounds.take_inventory.Goals as goal

-- not heard: silence
pub returns-then-unheard_inventory : goal.returns-then-unheard_inventory
unfolding inventory_of
returns-then-unheard_inventory c m =
    rw (← c.unheard_inventory.ensures, c.if-unheard_inventory.true, c.silent.ensures) (quiet false c.args.t m)

-- one slot: the answer
pub returns-then-one_slot : goal.returns-then-one_slot
unfolding inventory_of
returns-then-one_slot c m =
    rw (← c.unheard_inventory.ensures, c.if-unheard_inventory.false, ← c.one_slot.ensures, c.if-one_slot.true)
    (shown false c.args.t _ c.put_inventory.ensures m)

-- sixteen: the round opens at slot 0
pub returns : goal.returns
unfolding inventory_of
returns c m =
    rw (
      ← c.unheard_inventory.ensures,
      c.if-unheard_inventory.false,
      ← c.one_slot.ensures,
      c.if-one_slot.false,
      ← c.mask_length-mask.ensures,
    )
    (c.go_to.ensures m)
