-- Demand 3, in facts: proved from the theorem that goes by tests, so that each test means what the demand says.
-- Assumes nothing.
use Prim.Native.Nat.{ℕ, ◌/◌}
use mathlib.Core.Path.{◌≡◌, refl, ap}
use mathlib.Core.Logic.{◌≢◌, ◌⊎◌, inl, inr}
use mathlib.Core.Bool.{Bool, true, false, not, ◌&&◌}
use mathlib.Core.List.{List, [], ◌∷◌}
use native.Mathlib.Omega.{arith}
use lib.Dec.{eqb}
use borrow.Author.Tests.{eqb-true, eq-eqb, ne_eqb}
use Rattle.std.specs.Prelude.{if◌then◌else◌, Option, Some, None}
use Rattle.rights.specs.declared.View.{View}
use Rattle.rights.specs.Vault.{view_of}
use Rattle.rights.specs.Passwords.{password_of}
use Rattle.rights.specs.Blocks.{OnlyThis}
use Rattle.rights.proofs.Cases.{or_true, or_one, both, join}
use Rattle.rights.proofs.HiddenBlocks.{hidden_by_one}
use Rattle.record.specs.declared.Tag.{Tag}
use Rattle.tag.specs.Step.{Event, step}
use Rattle.tag.specs.Host.{event_given}
use Rattle.tag.specs.Demand3.{Except, Closed, Claim, Opens, Opened, now, later, Unaltered, Demanded, Demand3, Call, OpenedIn, now_in, later_in, DemandedIn, Demand3OfCalls}
use Rattle.tag.specs.Secrecy.{hidden, Alike, guards, Shut, presented, opens, unopened, Kept, only, unrefused, unopened_calls}
use Rattle.tag.proofs.Presented.{presented_means}
use Rattle.tag.proofs.Secret.{secrecy, calls_secrecy}

-- a first test fails and a second holds
neither_is : (a : Bool) {b : Bool} → (a ≡ true → ⊥) → b ≡ true → (not a && b) ≡ true
neither_is true never h = absurd (never refl)
neither_is false never h = h

is_neither : (a : Bool) {b : Bool} → (not a && b) ≡ true → (a ≡ true → ⊥) × (b ≡ true)
is_neither true h = let z : ◌≡◌ {A = ℕ} 0 1 = cc in absurd (omega arith)
is_neither false h = ((λ e. let z : ◌≡◌ {A = ℕ} 0 1 = cc in omega arith), h)

module _ (p : ℕ) (some_p : p ≢ 0) where
  -- ---- "that only that password makes readable", of byte i of a memory

  module _ (v : View) (i : ℕ) where
    hidden_is : OnlyThis p v (i / 4) → hidden (only p) v.areas i ≡ true
    hidden_is o = (hidden_by_one p some_p v (i / 4)).1 o

    unhidden_is : (OnlyThis p v (i / 4) → ⊥) → hidden (only p) v.areas i ≡ false
    unhidden_is never = go (hidden (only p) v.areas i) refl
      where
        go : (b : Bool) → hidden (only p) v.areas i ≡ b → b ≡ false
        go true e = absurd (never ((hidden_by_one p some_p v (i / 4)).0 e))
        go false e = refl

  -- ---- "alike except in", from facts to tests and back

  module _ {t u : Tag} {m o : List ℕ} where
    alike_is : Except p t u m o → Alike (only p) t u m o
    alike_is x = record {
      front = x.front;
      view = x.view;
      passwords = record { size = x.count; at = λ n e. x.passwords n (λ q. let z : ◌≡◌ {A = ℕ} 0 1 = cc (eq-eqb n p q) in omega arith) };
      memory = record {
        size = x.size;
        at = λ i e. x.bytes i (λ o. let z : ◌≡◌ {A = ℕ} 0 1 = cc (hidden_is (view_of t.vault) i o) in omega arith);
      };
    }

    pub except_is : Alike (only p) t u m o → Except p t u m o
    except_is a = record {
      front = a.front;
      view = a.view;
      count = a.passwords.size;
      passwords = λ n d. a.passwords.at n (ne_eqb n p d);
      size = a.memory.size;
      bytes = λ i never. a.memory.at i (unhidden_is (view_of t.vault) i never);
    }

  -- ---- "its session or the configuration session"

  shut_is : {t : Tag} → Closed p t → Shut (only p) t.vault.keys.session
  shut_is c = record {
    closed = λ n g. or_one (eqb n p) (eqb n 0) g (λ e. rw (eqb-true n p e) c.its) (λ e. rw (eqb-true n 0 e) c.configuration);
  }

  its_guards : guards (only p) p ≡ true
  its_guards = rw (eq-eqb p p refl)

  pub closed_is : {t : Tag} → Shut (only p) t.vault.keys.session → Closed p t
  closed_is s = record { its = s.closed p its_guards; configuration = s.closed 0 (or_true (eqb 0 p)) }

  -- ---- "is presented under its number"

  guards_is : (n : ℕ) → guards (only p) n ≡ true → (n ≡ p) ⊎ (n ≡ 0)
  guards_is n g = or_one (eqb n p) (eqb n 0) g (λ e. inl (eqb-true n p e)) (λ e. inr (eqb-true n 0 e))

  is_guards : (n : ℕ) → (n ≡ p) ⊎ (n ≡ 0) → guards (only p) n ≡ true
  is_guards n (inl e) = rw e its_guards
  is_guards n (inr e) = rw e (or_true (eqb 0 p))

  module _ (t : Tag) (m : List ℕ) (e : Event) where
    abbrev opening : Option Claim → Bool
    opening x = opens (only p) t.vault.keys x

    opens_is : (x : Option Claim) → presented t m e ≡ x → opening x ≡ true → Opens p t e
    opens_is None h o = let z : ◌≡◌ {A = ℕ} 0 1 = cc in absurd (omega arith)
    opens_is (Some c) h o =
        let b = both (guards (only p) c.number) _ o in
        record { claim = c; by = (presented_means t m e c).0 h; number = guards_is c.number b.0; value = eqb-true _ _ b.1 }

    is_opens : Opens p t e → opening (presented t m e) ≡ true
    is_opens x =
        let c = x.claim in
        let right = eq-eqb (password_of t.vault.keys c.number) c.value x.value in
        rw ((presented_means t m e c).1 x.by) (join (is_guards c.number x.number) right)

  unopened_is : (t : Tag) (m : List ℕ) (es : List Event) → (Opened p t m es → ⊥) → unopened (only p) t m es ≡ true
  unfolding unopened
  unopened_is t m [] never = refl
  unopened_is t m (e ∷ es) never =
      neither_is (opening t m e (presented t m e)) (λ h. never (now (opens_is t m e (presented t m e) refl h)))
      (unopened_is (step t m e).tag (step t m e).memory es (λ o. never (later o)))

  pub is_unopened : {t : Tag} {m : List ℕ} {es : List Event} → unopened (only p) t m es ≡ true → Opened p t m es → ⊥
  unfolding unopened
  is_unopened {t} {m} h (now {e = e} x) = (is_neither (opening t m e (presented t m e)) h).0 (is_opens t m e x)
  is_unopened {t} {m} h (later {e = e} o) = is_unopened (is_neither (opening t m e (presented t m e)) h).1 o

  -- ---- "those passwords and bytes are unchanged"

  unaltered_is : {t t' : Tag} {m m' : List ℕ} → Kept (only p) t.vault m t'.vault m' → Unaltered p t m t' m'
  unaltered_is {t} k = record {
    registers = k.areas;
    size = k.memory.size;
    its = k.passwords p its_guards;
    configuration = k.passwords 0 (or_true (eqb 0 p));
    bytes = λ i o. k.memory.at i (ap not (hidden_is (view_of t.vault) i o));
  }

  -- ---- the demand, of password p

  pub demanded : Demanded p
  demanded t u m o es x closed closed' never never' =
      let s = secrecy (only p) t u m o es (alike_is x) (shut_is closed) (unopened_is t m es never) (unopened_is u o es never') in
      record { answers = s.answers; still = except_is s.alike; unaltered = unaltered_is s.kept; unaltered' = unaltered_is s.kept' }

  -- ---- and of calls

  module _ (t : Tag) (m : List ℕ) (c : Call) where
    abbrev number : ℕ
    number = (event_given t c.event m c.room).number

    abbrev calling : Bool
    calling = opening t m c.event (unrefused number (presented t m c.event))

    opens_in : {cs : List Call} → calling ≡ true → OpenedIn p t m (c ∷ cs)
    opens_in {cs} h = go (eqb number 0) refl h
      where
        go : (b : Bool) → eqb number 0 ≡ b → opening t m c.event (if b then presented t m c.event else None) ≡ true → OpenedIn p t m (c ∷ cs)
        go true e h = now_in (eqb-true _ _ e) (opens_is t m c.event (presented t m c.event) refl h)
        go false e h = let z : ◌≡◌ {A = ℕ} 0 1 = cc in absurd (omega arith)

    in_opens : number ≡ 0 → Opens p t c.event → calling ≡ true
    in_opens e x = rw (eq-eqb number 0 e) (is_opens t m c.event x)

  calls_unopened_is : (t : Tag) (m : List ℕ) (cs : List Call) → (OpenedIn p t m cs → ⊥) → unopened_calls (only p) t m cs ≡ true
  unfolding unopened_calls
  calls_unopened_is t m [] never = refl
  calls_unopened_is t m (c ∷ cs) never =
      let g = event_given t c.event m c.room in
      neither_is (calling t m c) (λ h. never (opens_in t m c h)) (calls_unopened_is g.tag g.memory cs (λ o. never (later_in o)))

  pub is_calls_unopened : {t : Tag} {m : List ℕ} {cs : List Call} → unopened_calls (only p) t m cs ≡ true → OpenedIn p t m cs → ⊥
  unfolding unopened_calls
  is_calls_unopened {t} {m} h (now_in {c = c} e x) = (is_neither (calling t m c) h).0 (in_opens t m c e x)
  is_calls_unopened {t} {m} h (later_in {c = c} o) = is_calls_unopened (is_neither (calling t m c) h).1 o

  pub demanded_in : DemandedIn p
  demanded_in t u m o cs x closed closed' never never' =
      let s = calls_secrecy (only p) t u m o cs (alike_is x) (shut_is closed) (calls_unopened_is t m cs never) (calls_unopened_is u o cs never') in
      record { seen = s.seen; still = except_is s.alike; unaltered = unaltered_is s.kept; unaltered' = unaltered_is s.kept' }

pub demand3 : Demand3
demand3 = (demanded 1 (λ e. omega arith), demanded 2 (λ e. omega arith), demanded 3 (λ e. omega arith))

pub demand3_of_calls : Demand3OfCalls
demand3_of_calls = (demanded_in 1 (λ e. omega arith), demanded_in 2 (λ e. omega arith), demanded_in 3 (λ e. omega arith))
