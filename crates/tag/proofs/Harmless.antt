-- Whatever a tag is asked for, while the chosen sessions and the configuration session are shut, it is to write nothing that is hidden, no
-- register, and no password that guards.
-- Assumes nothing.
use Prim.Native.Nat.{ℕ, zero, suc, ◌+◌}
use mathlib.Core.Path.{◌≡◌, refl, sym, ap, ◌∙◌}
use mathlib.Core.Bool.{Bool, true, false, not, ◌&&◌}
use mathlib.Core.List.{List, [], ◌∷◌}
use native.Mathlib.Omega.{arith}
use lib.ListN.{length, take, drop, length-take}
use lib.Dec.{leb}
use borrow.Author.Tests.{le-leb}
use Rattle.put.specs.Number.{number_at}
use Rattle.rights.specs.declared.Areas.{Areas}
use Rattle.rights.specs.declared.View.{View}
use Rattle.rights.specs.Passwords.{is_open}
use Rattle.rights.specs.Blocks.{any_barred, hidden_by}
use Rattle.rights.proofs.Cases.{or_true, join}
use Rattle.rights.proofs.HiddenBlocks.{other_false, writable_unhidden, none_barred, written_open}
use Rattle.record.specs.declared.Front.{Front}
use Rattle.tag.specs.declared.Command.{Command}
use Rattle.tag.specs.Work.{Unit, block, register, afi, dsfid, block_lock, afi_lock, dsfid_lock, password, Act, says, lists, presents, writes, closes, Work}
use Rattle.tag.specs.Blocks.{block_units}
use Rattle.tag.specs.Commands.{request_of}
use Rattle.tag.specs.Step.{Event, work_of}
use Rattle.tag.specs.Secrecy.{guards, Shut}
use Rattle.tag.proofs.Came.{Asked, InField, Came, came}
use Rattle.tag.proofs.Came as shape

-- a unit that writes nothing of what is to stay, of areas with these registers
unfoldable pub harmless : (ℕ → Bool) → Areas → Unit → Bool
harmless chosen a (block b bytes) = not (hidden_by chosen a b) && leb (length bytes) 4
harmless chosen a (register address x) = false
harmless chosen a (afi x) = true
harmless chosen a (dsfid x) = true
harmless chosen a (block_lock second) = true
harmless chosen a afi_lock = true
harmless chosen a dsfid_lock = true
harmless chosen a (password n w) = not (guards chosen n)

unfoldable pub all_harmless : (ℕ → Bool) → Areas → List Unit → Bool
all_harmless chosen a [] = true
all_harmless chosen a (u ∷ us) = harmless chosen a u && all_harmless chosen a us

unfoldable pub harmless_act : (ℕ → Bool) → Areas → Act → Bool
harmless_act chosen a (says x) = true
harmless_act chosen a (lists limit first count status) = true
harmless_act chosen a (presents n w) = true
harmless_act chosen a (writes us) = all_harmless chosen a us
harmless_act chosen a closes = true

pub chosen_guards : (chosen : ℕ → Bool) (n : ℕ) → chosen n ≡ true → guards chosen n ≡ true
chosen_guards chosen n e = rw e

module _ (chosen : ℕ → Bool) (v : View) (shut : Shut chosen v.session) where
  abbrev Harmless : Act → Type 0
  Harmless a = harmless_act chosen v.areas a ≡ true

  abbrev HarmlessWork : Work → Type 0
  HarmlessWork w = Harmless w.act

  blocks_harmless : (b n : ℕ) (bytes : List ℕ) → any_barred v b n ≡ false → all_harmless chosen v.areas (block_units b n bytes) ≡ true
  unfolding block_units all_harmless harmless
  blocks_harmless b zero bytes h = refl
  blocks_harmless b (suc n) bytes h =
      let w = none_barred v b n h in
      let unhidden = writable_unhidden chosen v (λ k e. shut.closed k (chosen_guards chosen k e)) b w.0 in
      let shown : not (hidden_by chosen v.areas b) ≡ true = ap not unhidden in
      join (join shown (le-leb (length (take 4 bytes)) 4 (simp length-take (omega arith)))) (blocks_harmless (b + 1) n (drop 4 bytes) w.1)

  -- no register is written, and of passwords those in whose session it is
  register_unwritten : is_open v.session 0 ≡ true → false ≡ true
  register_unwritten e = sym (shut.closed 0 (or_true (chosen 0))) ∙ e

  password_unguarded : (n w : ℕ) → is_open v.session n ≡ true → Harmless (writes (password n w ∷ []))
  unfolding harmless_act all_harmless harmless
  password_unguarded n w e = rw (other_false (guards chosen n) (is_open v.session n) (shut.closed n) e)

  act_harmless : {blocks : ℕ} {fields : List ℕ} {c : Command} {a : Act} → Asked v blocks fields c a → Harmless a
  unfolding harmless_act all_harmless harmless
  act_harmless shape.quiet = refl
  act_harmless (shape.told d h) = refl
  act_harmless (shape.shows address x h) = refl
  act_harmless (shape.listed limit first count status h) = refl
  act_harmless (shape.states limit first count h) = refl
  act_harmless shape.presented = refl
  act_harmless (shape.blocks_written e first n h) = blocks_harmless first n _ h
  act_harmless (shape.block_locked second) = refl
  act_harmless shape.afi_written = refl
  act_harmless shape.afi_locked = refl
  act_harmless shape.dsfid_written = refl
  act_harmless shape.dsfid_locked = refl
  act_harmless (shape.register_written address h) = register_unwritten (written_open _ v address _ h)
  act_harmless {fields = fields} (shape.password_written n h) = password_unguarded n (number_at 8 fields 1) h

  field_harmless : {t : Front} {blocks : ℕ} {e : Event} {w : Work} → InField t v blocks e w → HarmlessWork w
  unfolding harmless_act request_of
  field_harmless shape.unmoved = refl
  field_harmless (shape.given d h) = refl
  field_harmless (shape.moved slot mask h k) = refl
  field_harmless shape.closed = refl
  field_harmless shape.ignored = refl
  field_harmless shape.deselected = refl
  field_harmless (shape.refused c h) = refl
  field_harmless shape.found = refl
  field_harmless (shape.opened u o) = refl
  field_harmless (shape.done p a) = act_harmless a

  came_harmless : {t : Front} {blocks : ℕ} {e : Event} {w : Work} → Came t v blocks e w → HarmlessWork w
  unfolding harmless_act
  came_harmless shape.nothing = refl
  came_harmless (shape.cleared on) = refl
  came_harmless (shape.inside on i) = field_harmless i

  pub work_harmless : (t : Front) (blocks : ℕ) (e : Event) → HarmlessWork (work_of t v blocks e)
  work_harmless t blocks e = came_harmless (came t v blocks e)
