-- What the calls of the boundary leave, from what the calls below them give.
-- Assumes nothing.
use Prim.Native.Nat.{ℕ, ◌≤◌}
use native.Mathlib.Omega.{arith}
use mathlib.Core.Path.{◌≡◌, refl, ap, ◌∙◌}
use mathlib.Core.Logic.{◌≢◌}
use mathlib.Core.Bool.{true, false}
use mathlib.Core.List.{List}
use lib.ListN.{length}
use lib.Dec.{ltb}
use Rattle.std.specs.Prelude.{Option, Some, None, Result, Ok, Err}
use Rattle.std.specs.Result.{result_err}
use Rattle.rights.proofs.Cases.{if_one}
use Rattle.record.specs.declared.Kind.{Kind}
use Rattle.record.specs.declared.Kind.TheVariants.{FieldOn, FieldOff, EndOfFrame, Request}
use Rattle.record.specs.declared.Refusal.{Refusal}
use Rattle.record.specs.declared.Refusal.TheVariants as refusal
use Rattle.record.specs.declared.Outcome.{Outcome}
use Rattle.tag.specs.Step.{event_of, step}
use Rattle.tag.specs.Rules.{blocks_of}
use Rattle.tag.specs.Host.{number_of}
use Rattle.tag.proofs.OnlyFrames.{NoFrame, on, off, end, lasts}
use Rattle.tag.proofs.OnlyOne.{has_place, no_place}
use Rattle.step.specs.Gives.{Gives}
use Rattle.tray.specs.Tray.{SearchGiven, given, requests_in, search_given, any_equal}
use Rattle.tray.proofs.OnlyOne.{search_number}
use Rattle.packed.specs.Bytes.{record_in, is_record, record_of}
use Rattle.packed.specs.Parts.{PassingLeft}
use Rattle.packed.specs.Result.{result_of}
use Rattle.cabi.specs.Calls.{returned, search_left, SearchLeaves}

pub number_most : (r : Option Refusal) → number_of r ≤ 0x5E
number_most None = omega arith
number_most (Some refusal.Memory) = omega arith
number_most (Some refusal.Room) = omega arith
number_most (Some refusal.Record) = omega arith
number_most (Some refusal.Image) = omega arith
number_most (Some (refusal.Mark place)) = omega arith
number_most (Some (refusal.Lock place)) = omega arith
number_most (Some (refusal.Protection place)) = omega arith
number_most (Some (refusal.End place)) = omega arith
number_most (Some (refusal.Reserved place)) = omega arith
number_most (Some refusal.Tags) = omega arith
number_most (Some refusal.Equal) = omega arith
number_most (Some refusal.Small) = omega arith

-- the three kinds of events that are no frame
no_frame : (kind : Kind) (frame : List ℕ) → kind ≢ Request → NoFrame (event_of kind frame)
no_frame FieldOn frame other = on
no_frame FieldOff frame other = off
no_frame EndOfFrame frame other = end
no_frame Request frame other = absurd (other refl)

-- after one of these only the passing parts are written: the header is what it was
pub passing_left : {kind : Kind} (frame : List ℕ) {r : List ℕ} (m : List ℕ) {x r' m' x' : List ℕ} {s : Outcome} → kind ≢ Request → is_record m r ≡ true
    → Gives (step (record_in r) m (event_of kind frame)) x m' x' s → PassingLeft s.tag r r' → r' ≡ record_of (length m) s.tag
passing_left {kind} frame {r} m other right g w =
    let header = (lasts (length m) (record_in r) m (no_frame kind frame other)).header in
    w.whole (length m) (blocks_of m) right (rw g.result header)

-- a search is refused at no place
no_search_place : (uids x : List ℕ) → has_place (search_given uids x).number ≡ false
no_search_place uids x =
    let P : ℕ → Type 0 = λ n. has_place n ≡ false in
    rw (search_number uids x) (
    if_one P (ltb 256 (length uids)) (λ e. refl) (λ e.
    if_one P (any_equal uids) (λ e. refl) (λ e.
    if_one P (ltb (length x) (length uids)) (λ e. refl) (λ e. refl))))

-- of a search
pub search_by : {uids x x' : List ℕ} {n : ℕ} (number requests : ℕ) → given number requests x' ≡ search_given uids x → n ≡ result_of 0 number requests
    → SearchLeaves uids x x' n
unfolding search_left
search_by number requests h e =
    record { result = e ∙ ap (λ (g : SearchGiven). result_of 0 g.number g.requests) h; list = ap (λ (g : SearchGiven). g.list) h }

-- the number of requests, or a refusal
pub search_returned : (uids x : List ℕ) {x' : List ℕ} {n : ℕ} (r : Result ℕ Refusal) → given (number_of (result_err r)) (requests_in r) x' ≡ search_given uids x
    → n ≡ returned r → SearchLeaves uids x x' n
search_returned uids x (Ok k) h e = search_by 0 k h e
search_returned uids x (Err q) h e =
    let none = no_place (Some q) (rw (ap (λ (g : SearchGiven). g.number) h) (no_search_place uids x)) in
    search_by (number_of (Some q)) 0 h (rw none at e)
