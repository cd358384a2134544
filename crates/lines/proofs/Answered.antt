-- How much of a line is there; and a line that is an event: what the host call gives is within the room, and is what the line is answered with.
-- Assumes nothing.
use mathlib.Core.Path.{◌≡◌, refl, ◌∙◌, ap}
use mathlib.Core.Bool.{not}
use mathlib.Core.List.{List}
use Prim.Native.Nat.{ℕ, ◌≤◌}
use native.Mathlib.Omega.{arith}
use lib.ListN.{length, take, length-append}
use lib.Dec.{ltb}
use Rattle.put.specs.Put.{Put}
use Rattle.record.specs.declared.Kind.{Kind}
use Rattle.record.specs.declared.Tag.{Tag}
use Rattle.tag.specs.Rules.{blocks_of, sound}
use Rattle.tag.specs.Step.{Event}
use Rattle.tag.specs.Host.{is_memory, least_room, EventGiven, event_given, EventGives, Reply, length_in, tag_after}
use Rattle.std.specs.Prelude.{Some, Ok, Err}
use Rattle.std.specs.Result.{result_unwrap_or}
use Rattle.rights.proofs.Cases.{if_one}
use Rattle.lines.specs.declared.Progress.{Progress}
use Rattle.lines.specs.declared.Fed.{Fed}
use Rattle.lines.specs.Form.{event_in}
use Rattle.lines.specs.Output.{dash, text_of}
use Rattle.lines.specs.Calls.{after_line, line_given, Gives}

abbrev Within : EventGiven → Type 0
Within g = g.length ≤ length g.room

given_within : (t : Tag) (e : Event) (m x : List ℕ) → Within (event_given t e m x)
unfolding event_given
given_within t e m x =
    if_one Within (not (is_memory m)) (λ h. omega arith) (λ h.
    if_one Within (ltb (length x) least_room) (λ h. omega arith) (λ h.
    if_one Within (not (sound (blocks_of m) t)) (λ h. omega arith) (λ h.
    simp length-append (omega arith))))

module _ {t : Tag} {e : Event} {m x m' x' : List ℕ} {r : Reply} (g : EventGives t e m x m' x' r) where
  pub within : length_in r ≤ length x'
  within = rw (g.length, g.room) (given_within t e m x)

-- a call that is refused is answered as by silence, and the record stays
pub answer_of : (t : Tag) (r : Reply) → result_unwrap_or r (record { length = 0; tag = t }) ≡ record { length = length_in r; tag = tag_after t r }
answer_of t (Ok o) = refl
answer_of t (Err q) = refl

module _ (k : Kind) (p : Progress) (l : List ℕ) {m x m' x' y y' : List ℕ} {q : Reply} {r : Fed} (g : EventGives p.tag (event_in k l) m x m' x' q) where
  pub answered : (r.progress ≡ after_line p (tag_after p.tag q)) × Put (text_of p.number dash (take (length_in q) x')) y y' r.length
      → Gives (line_given (Some k) p l m x) y m' x' y' r
  answered s = record {
    progress = s.0 ∙ ap (after_line p) g.tag;
    memory = g.memory;
    room = g.room;
    out = rw (g.length, g.room) at s.1;
  }
