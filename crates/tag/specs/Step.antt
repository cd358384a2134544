-- Events: what each comes to, and the answer that is sent.
-- Assumes nothing.
use Rattle.std.specs.Prelude.{ℕ, Bool, true, false, List, [], ◌∷◌, ◌++◌, if◌then◌else◌, Option, Some, None, Ok, Err}
use Rattle.crc.specs.Crc.{crc_bytes}
use Rattle.rights.specs.Verdict.{Verdict}
use Rattle.rights.specs.declared.View.{View}
use Rattle.rights.specs.Vault.{view_of}
use Rattle.record.specs.declared.Front.{Front}
use Rattle.record.specs.declared.Tag.{Tag}
use Rattle.record.specs.declared.State.TheVariants.{Ready}
use Rattle.record.specs.declared.Round.{Round}
use Rattle.record.specs.declared.Kind.{Kind}
use Rattle.record.specs.declared.Kind.TheVariants as kind
use Rattle.record.specs.Update.{with_state, with_round, with_held, with_front, passing_cleared}
use Rattle.tag.specs.declared.Heard.{Heard}
use Rattle.tag.specs.declared.Heard.TheVariants as heard
use Rattle.tag.specs.Rules.{blocks_of}
use Rattle.tag.specs.Frame.{fields_from, heard_of}
use Rattle.tag.specs.Work.{Answer, silence, verdict, body, error, says, closes, Work, work, perform}
use Rattle.tag.specs.Inventory.{inventory_of, next_slot}
use Rattle.tag.specs.Commands.{request_of}

-- an event, with the bytes of a request
pub data Event : Type 0 where
  field_on field_off end_of_frame : Event
  request : List ℕ → Event

abbrev pub event_of : Kind → List ℕ → Event
event_of kind.FieldOn f = field_on
event_of kind.FieldOff f = field_off
event_of kind.EndOfFrame f = end_of_frame
event_of kind.Request f = request f

-- ---- frames

-- "any frame first drops a round and a held answer"
abbrev pub dropped : Front → Front
dropped t = with_held (with_round t None) None

abbrev pub work_heard : Heard → Front → View → ℕ → List ℕ → Work
work_heard heard.Silence t v blocks f = work t (says silence)
work_heard heard.Deselected t v blocks f = work (with_state t Ready) (says silence)
work_heard heard.Inventory t v blocks f = inventory_of t f
work_heard (heard.Error c) t v blocks f = work t (says (error c))
work_heard (heard.Request e option start) t v blocks f = request_of t v blocks e option (fields_from start f)

unfoldable pub frame_of : Front → View → ℕ → List ℕ → Work
frame_of t v blocks f = work_heard (heard_of t f) t v blocks f

-- ---- the end of a frame

-- "holds the answer .. until an end of frame gives it out", once; "each end of frame moves one slot on"; "An end of frame with neither round nor
-- held answer does nothing."
abbrev pub round_ends : Option Round → Front → Work
round_ends None t = work t (says silence)
round_ends (Some o) t = next_slot t o.slot o.mask

abbrev pub frame_ends : Option Verdict → Front → Work
frame_ends None t = round_ends t.round t
frame_ends (Some v) t = work (with_held t None) (says (verdict v))

-- ---- any event

-- 1. "Field off: silence, no change." "Field off clears passing parts; field on gives Ready; field on when on does nothing."
unfoldable pub work_of : Front → View → ℕ → Event → Work
work_of t v blocks field_on = if t.field then work t (says silence) else work (passing_cleared t true) closes
work_of t v blocks field_off = work (passing_cleared t false) closes
work_of t v blocks end_of_frame = if t.field then frame_ends t.held t else work t (says silence)
work_of t v blocks (request f) = if t.field then frame_of (dropped t) v blocks f else work t (says silence)

-- ---- answers: "Success begins 00h; an error is 01h, code; CRC follows."

abbrev pub sealed : List ℕ → List ℕ
sealed s = s ++ crc_bytes s

abbrev pub line_of : Answer → List ℕ
line_of silence = []
line_of (verdict (Ok tt)) = sealed (0x00 ∷ [])
line_of (verdict (Err c)) = sealed (0x01 ∷ c ∷ [])
line_of (body b) = sealed (0x00 ∷ b)

-- what an event gives: the bytes of the answer, none for silence, and record and memory after it
pub record Stepped : Type 0 where
  pub answer : List ℕ
  pub tag : Tag
  pub memory : List ℕ

-- a verdict is held, or answered at once; a command whose answer is held gives a verdict, and never silence or a body: the law held_verdict
abbrev pub settled : Bool → Answer → Tag → List ℕ → Stepped
settled true (verdict v) t m = record { answer = []; tag = with_front t (with_held t.front (Some v)); memory = m }
settled true silence t m = record { answer = []; tag = t; memory = m }
settled true (body b) t m = record { answer = line_of (body b); tag = t; memory = m }
settled false a t m = record { answer = line_of a; tag = t; memory = m }

abbrev pub performed : Tag → List ℕ → Work → Stepped
performed t m w =
    let d = perform (with_front t w.front) m w.act in
    settled w.hold d.answer d.tag d.memory

unfoldable pub step : Tag → List ℕ → Event → Stepped
step t m e = let w = work_of t.front (view_of t.vault) (blocks_of m) e in performed t m w

-- a list of events, with the answer to each
pub record Ran : Type 0 where
  pub answers : List (List ℕ)
  pub tag : Tag
  pub memory : List ℕ

unfoldable pub run : Tag → List ℕ → List Event → Ran
run t m [] = record { answers = []; tag = t; memory = m }
run t m (e ∷ es) =
    let s = step t m e in
    let r = run s.tag s.memory es in
    record { answers = s.answer ∷ r.answers; tag = r.tag; memory = r.memory }
