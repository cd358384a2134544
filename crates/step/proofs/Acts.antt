-- Acts of the definition, from what a function of the code promised.
-- Assumes nothing.
use Prim.Native.Nat.{ℕ}
use mathlib.Core.Bool.{Bool, true, false, ◌&&◌}
use mathlib.Core.Path.{◌≡◌, refl, sym, ap, subst}
use mathlib.Core.List.{List, ◌∷◌}
use Rattle.std.specs.Prelude.{if◌then◌else◌, Option, Ok, Err}
use Rattle.put.specs.Put.{Put}
use Rattle.rights.specs.declared.View.{View}
use Rattle.rights.specs.Verdict.{Verdict, after_verdict, granting}
use Rattle.rights.specs.Vault.{view_of}
use Rattle.record.specs.declared.Front.{Front}
use Rattle.record.specs.declared.Tag.{Tag}
use Rattle.record.specs.declared.Round.{Round}
use Rattle.record.specs.Update.{with_front, passing_cleared, sessionless}
use Rattle.tag.specs.declared.Command.{Command}
use Rattle.tag.specs.declared.Entry.{Entry}
use Rattle.tag.specs.Work.{Answer, silence, verdict, body, Unit, says, writes, closes, work, apply_to_tag, apply_to_memory, perform}
use Rattle.tag.specs.Blocks.{granted, block_units}
use Rattle.tag.specs.Commands.{front_after, act_of, is_holding, request_of}
use Rattle.tag.specs.Rules.{blocks_of}
use Rattle.tag.specs.Step.{field_on, field_off, round_ends, frame_ends, work_of, performed, step}
use Rattle.tag.proofs.Acts.{blocks_leave}
use Rattle.record.specs.declared.Outcome.{Outcome}
use Rattle.step.specs.Gives.{GivesUnsealed, Does, concluded, tag_after, verdict_of, unsealed_of}
use Rattle.step.proofs.Unsealed.{unsealed_sealed, unsealed_line}

-- an answer that is given at once
pub told : (t : Tag) (a : Answer) {x x' : List ℕ} {n : ℕ} → Put (unsealed_of a) x x' n → Does false t (says a) x x' (record { length = n; tag = t })
unfolding perform
told t a p m = record { result = rw (unsealed_line a, p.count); memory = refl; room = rw (unsealed_line a) p.is }

-- a body is answered at once, held or not
pub shown : (hold : Bool) (t : Tag) (b : List ℕ) {x x' : List ℕ} {n : ℕ} → Put (unsealed_of (body b)) x x' n
    → Does hold t (says (body b)) x x' (record { length = n; tag = t })
unfolding perform
shown true t b p m = record { result = rw (unsealed_sealed (0x00 ∷ b), p.count); memory = refl; room = rw (unsealed_sealed (0x00 ∷ b)) p.is }
shown false t b p m = told t (body b) p m

-- silence is neither held nor answered
pub quiet : (hold : Bool) (t : Tag) (m : List ℕ) {x : List ℕ}
    → GivesUnsealed (concluded hold (perform t m (says silence))) x m x (record { length = 0; tag = t })
unfolding perform
quiet true t m = record { result = refl; memory = refl; room = refl }
quiet false t m = record { result = refl; memory = refl; room = refl }

-- what changes the record alone, as a function of the code makes it
pub written : (hold : Bool) (t : Tag) (v : Verdict) (us : List Unit) {next : Tag} {x x' : List ℕ} {r : Outcome}
    → ((m : List ℕ) → apply_to_memory us m ≡ m) → next ≡ apply_to_tag us t
    → Does hold (tag_after (granting v next) t) (says (verdict (verdict_of (granting v next)))) x x' r
    → Does hold t (granted v (writes us)) x x' r
unfolding perform
written hold t (Ok u) us e f d m = rw (e m, ← f) (d m)
written hold t (Err c) us e f d m = d m

-- and blocks, which touch the memory alone
pub blocks_written : (hold : Bool) (t : Tag) (v : Verdict) (first n : ℕ) (bytes m : List ℕ) {m' x x' : List ℕ} {r : Outcome}
    → m' ≡ after_verdict v m (apply_to_memory (block_units first n bytes) m)
    → Does hold t (says (verdict v)) x x' r
    → GivesUnsealed (concluded hold (perform t m (granted v (writes (block_units first n bytes))))) x m' x' r
unfolding perform
blocks_written hold t (Ok u) first n bytes m {m'} e d = rw (blocks_leave first n bytes t, ← e) (d m')
blocks_written hold t (Err c) first n bytes m {m'} e d = rw e (d m)

-- a request by its command
request_is : (f : Front) (v : View) (blocks : ℕ) (e : Entry) (option : Bool) (fields : List ℕ) {c : Command} → e.command ≡ c
    → request_of f v blocks e option fields
    ≡ record { front = front_after c f; hold = option && is_holding e.option; act = act_of c f v blocks e option fields }
unfolding request_of
request_is f v blocks e option fields h =
    ap (λ (c : Command). record { front = front_after c f; hold = option && is_holding e.option; act = act_of c f v blocks e option fields }) h

pub request_gives : (t : Tag) (m : List ℕ) (e : Entry) (option hold : Bool) (fields : List ℕ) {c : Command} {x m' x' : List ℕ} {r : Outcome}
    → e.command ≡ c
    → hold ≡ (option && is_holding e.option)
    → GivesUnsealed (concluded hold (perform (with_front t (front_after c t.front)) m
    (act_of c t.front (view_of t.vault) (blocks_of m) e option fields))) x m' x' r
    → GivesUnsealed (performed t m (request_of t.front (view_of t.vault) (blocks_of m) e option fields)) x m' x' r
request_gives t m e option hold fields h k g = rw (request_is t.front (view_of t.vault) (blocks_of m) e option fields h, ← k) g

-- ---- the end of a frame, by what is held and by the round

module _ (t : Tag) (m : List ℕ) {x m' x' : List ℕ} {s : Outcome} where
  pub round_gives : {r : Option Round} → t.front.round ≡ r → GivesUnsealed (performed t m (round_ends r t.front)) x m' x' s
      → GivesUnsealed (performed t m (round_ends t.front.round t.front)) x m' x' s
  round_gives h g = subst (λ (r : Option Round). GivesUnsealed (performed t m (round_ends r t.front)) x m' x' s) (sym h) g

  pub held_gives : {h : Option Verdict} → t.front.held ≡ h → GivesUnsealed (performed t m (frame_ends h t.front)) x m' x' s
      → GivesUnsealed (performed t m (frame_ends t.front.held t.front)) x m' x' s
  held_gives h g = subst (λ (k : Option Verdict). GivesUnsealed (performed t m (frame_ends k t.front)) x m' x' s) (sym h) g

-- ---- the field

on_by : (b : Bool) (t : Tag) (m x : List ℕ)
    → GivesUnsealed (performed t m (if b then work t.front (says silence) else work (passing_cleared t.front true) closes)) x m x
    (record { length = 0; tag = if b then t else record { front = passing_cleared t.front true; vault = sessionless t.vault } })
unfolding perform
on_by true t m x = record { result = refl; memory = refl; room = refl }
on_by false t m x = record { result = refl; memory = refl; room = refl }

pub field_on_lem : (t : Tag) (m x : List ℕ) → GivesUnsealed (step t m field_on) x m x
    (record { length = 0; tag = if t.front.field then t else record { front = passing_cleared t.front true; vault = sessionless t.vault } })
unfolding step work_of
field_on_lem t m x = on_by t.front.field t m x

pub field_off_lem : (t : Tag) (m x : List ℕ) → GivesUnsealed (step t m field_off) x m x
    (record { length = 0; tag = record { front = passing_cleared t.front false; vault = sessionless t.vault } })
unfolding step work_of perform
field_off_lem t m x = record { result = refl; memory = refl; room = refl }
