-- The record rules one by one, and what they leave of a record with the field off: nothing passing.
-- Assumes nothing.
use Prim.Native.Nat.{ℕ}
use mathlib.Core.Path.{◌≡◌, refl}
use mathlib.Core.Bool.{true, false, not, false≢true}
use Rattle.std.specs.Prelude.{Option, Some, None}
use Rattle.rights.specs.Verdict.{Verdict}
use Rattle.rights.proofs.Cases.{both}
use Rattle.rights.specs.declared.Session.{Session}
use Rattle.rights.specs.declared.Session.TheVariants as session
use Rattle.rights.specs.Passwords.{any_open}
use Rattle.rights.specs.Registers.{possible}
use Rattle.record.specs.declared.Front.{Front}
use Rattle.record.specs.declared.Tag.{Tag}
use Rattle.record.specs.declared.State.{State}
use Rattle.record.specs.declared.State.TheVariants.{Ready, Quiet, Selected}
use Rattle.record.specs.declared.Round.{Round}
use Rattle.record.specs.Update.{passing_cleared, sessionless}
use Rattle.record.specs.Tests.{is_ready, no_round, none_held}
use Rattle.tag.specs.Rules.{last_end, off_rule, round_rule, held_rule, together_rule, sound}

pub record Sound (blocks : ℕ) (t : Tag) : Type 0 where
  pub registers : possible (last_end blocks) t.vault.areas ≡ true
  pub off : off_rule t.front t.vault.keys.session ≡ true
  pub round : round_rule t.front.round ≡ true
  pub held : held_rule t.front.held ≡ true
  pub together : together_rule t.front ≡ true

pub sound_rules : {blocks : ℕ} {t : Tag} → sound blocks t ≡ true → Sound blocks t
unfolding sound
sound_rules h =
    let halves = both _ _ h in
    let rest = both _ _ halves.1 in
    let l = both _ _ rest.0 in
    let r = both _ _ rest.1 in
    record { registers = halves.0; off = l.0; round = l.1; held = r.0; together = r.1 }

-- "With the field off nothing passing is set and the state is Ready."
pub record Off (f : Front) (s : Option Session) : Type 0 where
  pub field : f.field ≡ false
  pub state : f.state ≡ Ready
  pub session : s ≡ None
  pub round : f.round ≡ None
  pub held : f.held ≡ None

ready : (s : State) → is_ready s ≡ true → s ≡ Ready
ready Ready h = refl
ready Quiet h = absurd (false≢true h)
ready Selected h = absurd (false≢true h)

no_session : (s : Option Session) → not (any_open s) ≡ true → s ≡ None
no_session None h = refl
no_session (Some session.Configuration) h = absurd (false≢true h)
no_session (Some session.User1) h = absurd (false≢true h)
no_session (Some session.User2) h = absurd (false≢true h)
no_session (Some session.User3) h = absurd (false≢true h)

no_round_lem : (r : Option Round) → no_round r ≡ true → r ≡ None
no_round_lem None h = refl
no_round_lem (Some o) h = absurd (false≢true h)

none_held_lem : (a : Option Verdict) → none_held a ≡ true → a ≡ None
none_held_lem None h = refl
none_held_lem (Some v) h = absurd (false≢true h)

pub nothing_passing : (f : Front) (s : Option Session) → off_rule f s ≡ true → f.field ≡ false → Off f s
unfolding off_rule
nothing_passing f s h e =
    let halves = both _ _ (rw e at h) in
    let l = both _ _ halves.0 in
    let r = both _ _ halves.1 in
    record {
      field = e;
      state = ready f.state l.0;
      session = no_session s l.1;
      round = no_round_lem f.round r.0;
      held = none_held_lem f.held r.1;
    }

-- such a record is what it would be if the field went off
pub is_off : (t : Tag) → Off t.front t.vault.keys.session → record { front = passing_cleared t.front false; vault = sessionless t.vault } ≡ t
is_off t o = rw (← o.field, ← o.state, ← o.session, ← o.round, ← o.held)
