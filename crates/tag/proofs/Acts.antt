-- What a request does to a tag with neither round nor held answer leaves it so, with registers that are possible, and what it answers may
-- be held.
-- Assumes nothing.
use mathlib.Core.Path.{◌≡◌, refl}
use mathlib.Core.Bool.{true, false}
use mathlib.Core.List.{List}
use Prim.Native.Nat.{ℕ, zero, suc, ◌+◌}
use lib.ListN.{get_or, drop}
use Rattle.rights.specs.Vault.{view_of}
use Rattle.rights.proofs.Possible.{done_possible}
use Rattle.record.specs.declared.Tag.{Tag}
use Rattle.tag.specs.declared.Command.{Command}
use Rattle.tag.specs.Rules.{last_end, is_code, held_rule}
use Rattle.tag.specs.Work.{Answer, silence, verdict, body, Act, apply_to_tag, Done, perform}
use Rattle.tag.specs.Blocks.{block_units}
use Rattle.tag.proofs.Codes.{Coded, present_coded}
use Rattle.tag.proofs.Live.{Clear}
use Rattle.tag.proofs.Came.{Asked}
use Rattle.tag.proofs.Came as shape

-- an answer that may be held
abbrev pub Sayable : Answer → Type 0
Sayable silence = record {}
Sayable (verdict v) = Coded v
Sayable (body b) = record {}

-- what an act may come to
abbrev pub Fine : ℕ → Done → Type 0
Fine e d = record { tag : Clear e d.tag; answer : Sayable d.answer }

-- written blocks are no part of the record
pub blocks_leave : (b n : ℕ) (bytes : List ℕ) (t : Tag) → apply_to_tag (block_units b n bytes) t ≡ t
unfolding apply_to_tag block_units
blocks_leave b zero bytes t = refl
blocks_leave b (suc n) bytes t = blocks_leave (b + 1) n (drop 4 bytes) t

-- an act on a tag with neither round nor held answer
pub act_fine : (blocks : ℕ) (u : Tag) (m : List ℕ) {fields : List ℕ} {k : Command} {a : Act}
    → Clear (last_end blocks) u → Asked (view_of u.vault) blocks fields k a → Fine (last_end blocks) (perform u m a)
unfolding perform apply_to_tag held_rule is_code
act_fine blocks u m c shape.quiet = record { tag = c; answer = record {} }
act_fine blocks u m c (shape.told d h) = record { tag = c; answer = h }
act_fine blocks u m c (shape.shows address x h) = record { tag = c; answer = record {} }
act_fine blocks u m c (shape.listed limit first count status h) = record { tag = c; answer = record {} }
act_fine blocks u m c (shape.states limit first count h) = record { tag = c; answer = record {} }
act_fine blocks u m c shape.presented = record { tag = c; answer = present_coded u.vault.keys _ _ }
act_fine blocks u m c (shape.blocks_written e first n h) = record { tag = rw (blocks_leave first n _ u) c; answer = refl }
act_fine blocks u m c (shape.block_locked true) = record { tag = c; answer = refl }
act_fine blocks u m c (shape.block_locked false) = record { tag = c; answer = refl }
act_fine blocks u m c shape.afi_written = record { tag = c; answer = refl }
act_fine blocks u m c shape.afi_locked = record { tag = c; answer = refl }
act_fine blocks u m c shape.dsfid_written = record { tag = c; answer = refl }
act_fine blocks u m c shape.dsfid_locked = record { tag = c; answer = refl }
act_fine blocks u m {fields} c (shape.register_written address h) =
    let possible = done_possible (last_end blocks) u.vault address (get_or fields 1 0) c.registers h in
    record { tag = record { registers = possible; field = c.field; round = c.round; held = c.held }; answer = refl }
act_fine blocks u m c (shape.password_written n h) = record { tag = c; answer = refl }
