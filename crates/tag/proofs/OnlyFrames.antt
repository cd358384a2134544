-- Only a frame changes lasting parts: field on, field off and an end of frame leave the user memory, and all of the record that a header has.
-- Assumes nothing.
use Prim.Native.Nat.{ℕ}
use mathlib.Core.Path.{◌≡◌, refl}
use mathlib.Core.List.{List}
use lib.Dec.{ltb}
use Rattle.std.specs.Prelude.{Option, Some, None}
use Rattle.rights.specs.Verdict.{Verdict}
use Rattle.rights.proofs.Cases.{if_one}
use Rattle.record.specs.declared.Tag.{Tag}
use Rattle.record.specs.declared.Round.{Round}
use Rattle.tag.specs.Work.{Work, perform}
use Rattle.tag.specs.Inventory.{next_slot}
use Rattle.tag.specs.Image.{header_of}
use Rattle.tag.specs.Step.{Event, field_on, field_off, end_of_frame, round_ends, frame_ends, work_of, Stepped, performed, step}

pub data NoFrame : Event → Type 0 where
  on : NoFrame field_on
  off : NoFrame field_off
  end : NoFrame end_of_frame

module _ (size : ℕ) (t : Tag) (m : List ℕ) where
  pub record Lasts (s : Stepped) : Type 0 where
    pub header : header_of size s.tag ≡ header_of size t
    pub memory : s.memory ≡ m

  abbrev Leaves : Work → Type 0
  Leaves w = Lasts (performed t m w)

  abbrev both : {s : Stepped} → header_of size s.tag ≡ header_of size t → s.memory ≡ m → Lasts s
  both h k = record { header = h; memory = k }

  round_lasts : (r : Option Round) → Leaves (round_ends r t.front)
  unfolding header_of perform next_slot
  round_lasts None = both refl refl
  round_lasts (Some o) = if_one Leaves (ltb o.slot 15) (λ e. both refl refl) (λ e. both refl refl)

  frame_lasts : (h : Option Verdict) → Leaves (frame_ends h t.front)
  unfolding header_of perform
  frame_lasts None = round_lasts t.front.round
  frame_lasts (Some v) = both refl refl

  pub lasts : {e : Event} → NoFrame e → Lasts (step t m e)
  unfolding header_of perform work_of step
  lasts on = if_one Leaves t.front.field (λ e. both refl refl) (λ e. both refl refl)
  lasts off = both refl refl
  lasts end = if_one Leaves t.front.field (λ e. frame_lasts t.front.held) (λ e. both refl refl)
