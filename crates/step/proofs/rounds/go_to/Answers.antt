-- `step::rounds::go_to` meets its contract.
-- Assumes nothing.
use borrow.Author.Tests.{eq-eqb, ne_eqb}
use mathlib.Core.Path.{refl}
use Rattle.put.specs.Put.{Put}
use Rattle.tag.specs.Inventory.{slot_of, in_slot}
use Rattle.step.specs.Gives.{unsealed_of}
use Rattle.step.proofs.Acts.{told}
use Rattle.step.proofs.rounds.go_to.Goals as goal

-- the slot is the tag's own: it answers
pub returns-then-own_slot-round : goal.returns-then-own_slot-round
unfolding slot_of in_slot
returns-then-own_slot-round c m =
    let r = c.args.round in
    let f = c.set_round-front.result in
    let put : Put (unsealed_of (in_slot f r.slot r.mask)) c.args.room.now c.put_inventory.new.room c.put_inventory.result =
    rw (← c.own_slot.ensures, eq-eqb _ _ c.if-own_slot-round.true) c.put_inventory.ensures in
    let said = told c.set_front-tag.result (in_slot f r.slot r.mask) put m in
    rw (c.set_front-tag.ensures, c.set_round-front.ensures) (rw (c.set_front-tag.ensures, c.set_round-front.ensures) at said)

-- it is another's
pub returns : goal.returns
unfolding slot_of in_slot
returns c m =
    let r = c.args.round in
    let f = c.set_round-front.result in
    let put : Put (unsealed_of (in_slot f r.slot r.mask)) c.args.room.now c.args.room.now 0 =
    rw (← c.own_slot.ensures, ne_eqb _ _ c.if-own_slot-round.false) (record { count = refl; is = refl }) in
    let said = told c.set_front-tag.result (in_slot f r.slot r.mask) put m in
    rw (c.silent.ensures, c.set_front-tag.ensures, c.set_round-front.ensures) (rw (c.set_front-tag.ensures, c.set_round-front.ensures) at said)
