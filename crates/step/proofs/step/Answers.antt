-- `step::step` meets its contract: the event with its answer before the CRC, and the CRC after it.
-- Assumes nothing.
use Rattle.tag.specs.Step.{event_of, step}
use Rattle.tag.proofs.Lengths.{answer_most, answer_sealed}
use Rattle.step.proofs.Unsealed.{below, sealed_gives, whole_gives}
use Rattle.step.proofs.step.Goals as goal

-- the longest answer has room
pub seal-requires : goal.seal-requires
seal-requires c =
    let t = c.args.t in
    let m = c.args.memory.now in
    let e = event_of c.args.kind c.args.frame.now in
    below (step t m e) c.take_event-s.ensures (answer_most t m e c.requires.memory_value)

-- the CRC follows, or silence stays silence; and after the longest answer's end the room is as it was
pub returns : goal.returns
returns c =
    let t = c.args.t in
    let m = c.args.memory.now in
    let e = event_of c.args.kind c.args.frame.now in
    let lent = (rw c.unwrap-room.ensures at c.first_chunk_mut.ensures.cases).same in
    let given = sealed_gives (step t m e) c.take_event-s.ensures (answer_sealed t m e) c.seal.ensures in
    whole_gives c.args.room.now (answer_most t m e c.requires.memory_value) c.requires.in_bounds (rw lent at given)
