-- Demand 3: the theorem over runs, for any set of passwords; and the same of a host call and of any number of them.
-- Assumes nothing.
use Prim.Native.Nat.{ℕ, ◌/◌}
use mathlib.Core.Path.{◌≡◌, refl, sym, ap, subst}
use mathlib.Core.Bool.{Bool, true, false, not, ◌||◌}
use mathlib.Core.List.{List, [], ◌∷◌, ◌++◌}
use lib.ListN.{length, drop}
use lib.Dec.{ltb, eqb}
use borrow.Author.Tests.{not-true}
use Rattle.std.specs.Prelude.{if◌then◌else◌}
use Rattle.rights.specs.declared.View.{View}
use Rattle.rights.proofs.Cases.{both}
use Rattle.record.specs.declared.Tag.{Tag}
use Rattle.tag.specs.Rules.{blocks_of, sound}
use Rattle.tag.specs.Step.{Event, step, run}
use Rattle.tag.specs.Host.{Reply, is_memory, least_room, EventGiven, event_refused, event_done, event_given, EventGives}
use Rattle.tag.specs.Demand3.{served}
use Rattle.tag.specs.Secrecy.{Shut, presented, opens, unopened, Alike, Secrecy, unrefused, SameCall, given_by, CallSecrecy, unopened_calls, CallsSecrecy}
use Rattle.tag.proofs.Unchanged.{as_it_was, kept_after, kept_step, unchanged}
use Rattle.tag.proofs.Unlearned.{alike_step}

module _ (chosen : ℕ → Bool) where
  -- the session of the other tag is the same
  pub shut_too : (t u : Tag) (m o : List ℕ) → Alike chosen t u m o → Shut chosen t.vault.keys.session → Shut chosen u.vault.keys.session
  shut_too t u m o a shut = subst (λ (v : View). Shut chosen v.session) a.view shut

  -- ---- runs

  record SameRun (t u : Tag) (m o : List ℕ) (es : List Event) : Type 0 where
    answers : (run t m es).answers ≡ (run u o es).answers
    alike : Alike chosen (run t m es).tag (run u o es).tag (run t m es).memory (run u o es).memory

  unlearned : (t u : Tag) (m o : List ℕ) (es : List Event)
      → Alike chosen t u m o → Shut chosen t.vault.keys.session → unopened chosen t m es ≡ true → unopened chosen u o es ≡ true
      → SameRun t u m o es
  unfolding run unopened
  unlearned t u m o [] a shut p q = record { answers = refl; alike = a }
  unlearned t u m o (e ∷ es) a shut p q =
      let x = both _ _ p in
      let y = both _ _ q in
      let s = alike_step chosen t u m o a shut e (not-true _ x.0) (not-true _ y.0) in
      let k = kept_step chosen t m e shut (not-true _ x.0) in
      let r = unlearned (step t m e).tag (step u o e).tag (step t m e).memory (step u o e).memory es s.alike k.shut x.1 y.1 in
      record { answers = cc; alike = r.alike }

  pub secrecy : Secrecy chosen
  secrecy t u m o es a shut p q =
      let s = unlearned t u m o es a shut p q in
      record { answers = s.answers; alike = s.alike; kept = unchanged chosen t m es shut p; kept' = unchanged chosen u o es (shut_too t u m o a shut) q }

  -- ---- host calls

  -- the call, by its three tests
  abbrev given : Bool → Bool → Bool → Tag → Event → List ℕ → List ℕ → EventGiven
  given memory small record-rules t e m x =
      if not memory then event_refused 1 t m x else
      if small then event_refused 2 t m x else
      if not record-rules then event_refused 3 t m x else event_done t e m x

  module _ (t u : Tag) (m o : List ℕ) (e : Event) (x : List ℕ) (a : Alike chosen t u m o) (shut : Shut chosen t.vault.keys.session) where
    -- what two calls give is the same, if neither presents a password that guards
    abbrev Same : EventGiven → EventGiven → Type 0
    Same g h =
        opens chosen t.vault.keys (unrefused g.number (presented t m e)) ≡ false
        → opens chosen u.vault.keys (unrefused h.number (presented u o e)) ≡ false
        → SameCall chosen t u m o g h

    refused_same : (n : ℕ) → Same (event_refused n t m x) (event_refused n u o x)
    refused_same n p q = record {
      number = refl;
      length = refl;
      room = refl;
      alike = a;
      kept = as_it_was chosen t.vault m shut;
      kept' = as_it_was chosen u.vault o (shut_too t u m o a shut);
    }

    done_same : Same (event_done t e m x) (event_done u e o x)
    done_same p q =
        let s = alike_step chosen t u m o a shut e p q in
        record {
          number = refl;
          length = ap length s.answer;
          room = ap (λ (l : List ℕ). l ++ drop (length l) x) s.answer;
          alike = s.alike;
          kept = kept_step chosen t m e shut p;
          kept' = kept_step chosen u o e (shut_too t u m o a shut) q;
        }

    given_same : (memory small rules : Bool) → Same (given memory small rules t e m x) (given memory small rules u e o x)
    given_same false small rules = refused_same 1
    given_same true true rules = refused_same 2
    given_same true false false = refused_same 3
    given_same true false true = done_same

    -- the record rules look at no password
    sound_same : sound (blocks_of m) t ≡ sound (blocks_of o) u
    unfolding sound
    sound_same = λ i. sound (a.memory.size i / 4) (record {
      front = a.front i;
      vault = record { areas = (a.view i).areas; lock0 = true; lock1 = true; lockcfg = true; keys = record { passwords = []; session = (a.view i).session } };
    })

    call_same : Same (event_given t e m x) (event_given u e o x)
    unfolding event_given
    call_same =
        subst (Same (event_given t e m x))
        (λ i. given (eqb (a.memory.size i) 2048 || eqb (a.memory.size i) 8192) (ltb (length x) least_room) (sound_same i) u e o x)
        (given_same (is_memory m) (ltb (length x) least_room) (sound (blocks_of m) t))

  -- what a call gives that keeps its promise
  as_given : {t : Tag} {e : Event} {m x m' x' : List ℕ} {r : Reply} → EventGives t e m x m' x' r → event_given t e m x ≡ given_by t r m' x'
  as_given g = sym (λ i. record { number = g.number i; length = g.length i; tag = g.tag i; memory = g.memory i; room = g.room i })

  pub call_secrecy : CallSecrecy chosen
  call_secrecy t u m o e x r s m' o' x' y' a shut p q g h =
      subst (SameCall chosen t u m o (given_by t r m' x')) (as_given h)
      (subst (λ (k : EventGiven). SameCall chosen t u m o k (event_given u e o x)) (as_given g)
      (call_same t u m o e x a shut (rw g.number at p) (rw h.number at q)))

  -- ---- host calls in a row

  pub calls_secrecy : CallsSecrecy chosen
  unfolding served unopened_calls
  calls_secrecy t u m o [] a shut p q = record {
    seen = refl;
    alike = a;
    kept = as_it_was chosen t.vault m shut;
    kept' = as_it_was chosen u.vault o (shut_too t u m o a shut);
  }
  calls_secrecy t u m o (c ∷ cs) a shut p q =
      let x = both _ _ p in
      let y = both _ _ q in
      let g = event_given t c.event m c.room in
      let h = event_given u c.event o c.room in
      let s = call_same t u m o c.event c.room a shut (not-true _ x.0) (not-true _ y.0) in
      let r = calls_secrecy g.tag h.tag g.memory h.memory cs s.alike s.kept.shut x.1 y.1 in
      record {
        seen = λ i. record { number = s.number i; length = s.length i; room = s.room i } ∷ r.seen i;
        alike = r.alike;
        kept = kept_after chosen _ _ _ _ _ _ s.kept r.kept;
        kept' = kept_after chosen _ _ _ _ _ _ s.kept' r.kept';
      }
