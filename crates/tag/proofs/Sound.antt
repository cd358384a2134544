-- A sound record stays sound: what any event gives of it, with the memory after it, keeps every record rule.
-- Assumes nothing.
use mathlib.Core.Path.{◌≡◌, refl}
use mathlib.Core.Bool.{Bool, true, false, ◌&&◌, ◌||◌}
use mathlib.Core.List.{List, [], ◌∷◌}
use Prim.Native.Nat.{ℕ, ◌+◌}
use native.Mathlib.Omega.{arith}
use lib.Dec.{leb}
use borrow.Author.Tests.{ltb-false, le-leb}
use Rattle.rights.specs.Vault.{view_of}
use Rattle.rights.specs.Registers.{possible}
use Rattle.rights.proofs.Cases.{both, join, neither}
use Rattle.rights.proofs.Possible.{all_at_end}
use Rattle.record.specs.declared.Front.{Front}
use Rattle.record.specs.declared.Tag.{Tag}
use Rattle.record.specs.declared.State.TheVariants.{Ready}
use Rattle.record.specs.Update.{with_state, with_front, passing_cleared, sessionless}
use Rattle.record.specs.Tests.{is_quiet, no_round, none_held}
use Rattle.tag.specs.Rules.{blocks_of, last_end, off_rule, round_rule, held_rule, together_rule, sound}
use Rattle.tag.specs.Table.{entry_of}
use Rattle.tag.specs.Frame.{code_of, option_flag}
use Rattle.tag.specs.Work.{Answer, silence, verdict, body, Work, perform}
use Rattle.tag.specs.Inventory.{mask_length, mask_too_long, wrong_length, unheard}
use Rattle.tag.specs.Commands.{front_after, is_holding, request_of}
use Rattle.tag.specs.Step.{Event, dropped, settled, performed, step, run}
use Rattle.tag.specs.Image.{factory}
use Rattle.tag.proofs.Sizes.{memory_kept}
use Rattle.tag.proofs.Live.{Live, Clear, registers_possible, sound_live, live_sound, clear_live}
use Rattle.tag.proofs.Acts.{Sayable, act_fine}
use Rattle.tag.proofs.Came.{front_by, InField, Came, came}
use Rattle.tag.proofs.Came as shape

-- ---- the end of a request: its answer is given or held

settled_live : (e : ℕ) (hold : Bool) (a : Answer) (t : Tag) (m : List ℕ) → Clear e t → Sayable a → Live e (settled hold a t m).tag
unfolding together_rule
settled_live e true silence t m c h = clear_live e t c
settled_live e true (verdict v) t m c h =
    record { registers = c.registers; field = c.field; round = (clear_live e t c).round; held = h; together = rw c.round }
settled_live e true (body b) t m c h = clear_live e t c
settled_live e false a t m c h = clear_live e t c

-- ---- in the field

without_held : (a b c : Bool) → (a || (b && c)) ≡ true → (a || c) ≡ true
without_held true b c h = refl
without_held false b c h = (both b c h).1

module _ (blocks : ℕ) (t : Tag) (m : List ℕ) (l : Live (last_end blocks) t) where
  abbrev e : ℕ
  e = last_end blocks

  -- "any frame first drops a round and a held answer"
  clear : Clear e (with_front t (dropped t.front))
  clear = record { registers = l.registers; field = l.field; round = refl; held = refl }

  still : Live e (with_front t (dropped t.front))
  still = clear_live e (with_front t (dropped t.front)) clear

  field_live : {x : Event} {w : Work} → InField t.front (view_of t.vault) blocks x w → Live e (performed t m w).tag
  unfolding perform request_of unheard mask_too_long round_rule held_rule together_rule
  field_live shape.unmoved = l
  field_live (shape.given d h) = record {
    registers = l.registers;
    field = l.field;
    round = l.round;
    held = refl;
    together = without_held (no_round t.front.round) (none_held t.front.held) _ l.together;
  }
  field_live (shape.moved slot mask r h) =
      let small : (leb slot 15 && leb mask 60) ≡ true = rw r at l.round in
      record {
        registers = l.registers;
        field = l.field;
        round = join (le-leb (slot + 1) 15 (omega arith)) (both (leb slot 15) _ small).1;
        held = l.held;
        together = rw r at l.together;
      }
  field_live shape.closed = record { registers = l.registers; field = l.field; round = refl; held = l.held; together = refl }
  field_live shape.ignored = still
  field_live shape.deselected = clear_live e (with_front t (with_state (dropped t.front) Ready)) clear
  field_live (shape.refused c h) = still
  field_live shape.found = still
  field_live (shape.opened {f} u o) =
      let parts = neither (mask_too_long f || wrong_length f) _ u in
      let short = (neither (mask_too_long f) _ parts.0).0 in
      let awake = (neither (is_quiet t.front.state) _ parts.1).0 in
      record {
        registers = l.registers;
        field = l.field;
        round = le-leb (mask_length f) 60 (ltb-false 60 (mask_length f) (rw o at short));
        held = refl;
        together = rw awake;
      }
  field_live (shape.done {f} p a) =
      let n = entry_of (code_of f) in
      let after = front_by (λ (g : Front). Clear e (with_front t g)) clear (λ s. clear) n.command in
      let d = act_fine blocks (with_front t (front_after n.command (dropped t.front))) m after a in
      settled_live e (option_flag f && is_holding n.option) _ _ _ d.tag d.answer

-- ---- any event

-- "Field off clears passing parts; field on gives Ready": whatever was set before
cleared_sound : (blocks : ℕ) (t : Tag) (on : Bool) → possible (last_end blocks) t.vault.areas ≡ true
    → sound blocks (record { front = passing_cleared t.front on; vault = sessionless t.vault }) ≡ true
unfolding sound off_rule round_rule held_rule together_rule
cleared_sound blocks t true p = join p refl
cleared_sound blocks t false p = join p refl

came_sound : (blocks : ℕ) (t : Tag) (m : List ℕ) {e : Event} {w : Work}
    → sound blocks t ≡ true → Came t.front (view_of t.vault) blocks e w → sound blocks (performed t m w).tag ≡ true
unfolding perform
came_sound blocks t m h shape.nothing = h
came_sound blocks t m h (shape.cleared on) = cleared_sound blocks t on (registers_possible blocks t h)
came_sound blocks t m h (shape.inside on i) = live_sound blocks _ (field_live blocks t m (sound_live blocks t h on) i)

pub step_sound : (t : Tag) (m : List ℕ) (e : Event) → sound (blocks_of m) t ≡ true → sound (blocks_of m) (step t m e).tag ≡ true
unfolding step
step_sound t m e h = came_sound (blocks_of m) t m h (came t.front (view_of t.vault) (blocks_of m) e)

-- the theorem, and over a list of events of any length
pub stays_sound : (t : Tag) (m : List ℕ) (e : Event) → sound (blocks_of m) t ≡ true
    → sound (blocks_of (step t m e).memory) (step t m e).tag ≡ true
stays_sound t m e h = rw (memory_kept t m e) (step_sound t m e h)

pub run_sound : (t : Tag) (m : List ℕ) (es : List Event) → sound (blocks_of m) t ≡ true
    → sound (blocks_of (run t m es).memory) (run t m es).tag ≡ true
unfolding run
run_sound t m [] h = h
run_sound t m (e ∷ es) h = run_sound (step t m e).tag (step t m e).memory es (stays_sound t m e h)

-- a factory tag is sound, for any number of blocks
pub factory_sound : (blocks uid : ℕ) → sound blocks (factory (last_end blocks) uid) ≡ true
unfolding sound off_rule round_rule held_rule together_rule factory
factory_sound blocks uid = join (all_at_end (last_end blocks)) refl
