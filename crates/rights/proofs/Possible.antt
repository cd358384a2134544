-- A permitted register write keeps the registers possible.
-- Assumes nothing.
use mathlib.Core.Path.{◌≡◌, refl}
use mathlib.Core.Bool.{Bool, true, false, not}
use Prim.Native.Nat.{ℕ}
use native.Mathlib.Omega.{arith}
use lib.Dec.{leb, ltb, eqb}
use borrow.Author.Tests.{eqb-true, leb-true, ltb-true, le-leb, eq-eqb, ne_eqb}
use Rattle.std.specs.Prelude.{if◌then◌else◌, Ok, Err}
use Rattle.rights.specs.declared.Areas.{Areas}
use Rattle.rights.specs.declared.Vault.{Vault}
use Rattle.rights.specs.declared.View.{View}
use Rattle.rights.specs.Verdict.{Verdict, after_verdict}
use Rattle.rights.specs.Vault.{view_of}
use Rattle.rights.specs.Registers.{is_register, allows, permits, register_verdict, with_register, register_rule, end_rule, pair_rule, possible}
use Rattle.rights.proofs.Cases.{or_true, not_or, both, join}
use Rattle.rights.proofs.Addresses.{each_address, nothing_written}

-- the rules, one by one
pub record Registers (f g h i : ℕ) : Type 0 where
  pub first : register_rule f ≡ true
  pub second : register_rule g ≡ true
  pub third : register_rule h ≡ true
  pub fourth : register_rule i ≡ true

pub record Ends (e x y z : ℕ) : Type 0 where
  pub first : end_rule e x ≡ true
  pub second : end_rule e y ≡ true
  pub pair12 : pair_rule e x y ≡ true
  pub third : end_rule e z ≡ true
  pub pair23 : pair_rule e y z ≡ true

pub record Possible (e : ℕ) (a : Areas) : Type 0 where
  pub registers : Registers a.rfa1ss a.rfa2ss a.rfa3ss a.rfa4ss
  pub ends : Ends e a.enda1 a.enda2 a.enda3

pub rules : {e : ℕ} {a : Areas} → possible e a ≡ true → Possible e a
unfolding possible
rules h =
    let halves = both _ _ h in
    let l = both _ _ halves.0 in
    let r = both _ _ halves.1 in
    let one = both _ _ l.0 in
    let two = both _ _ l.1 in
    let ends2 = both _ _ two.1 in
    let three = both _ _ r.0 in
    let ends3 = both _ _ three.1 in
    record {
      registers = record { first = one.0; second = two.0; third = three.0; fourth = r.1 };
      ends = record { first = one.1; second = ends2.0; pair12 = ends2.1; third = ends3.0; pair23 = ends3.1 };
    }

pub ruled : {e : ℕ} {a : Areas} → Possible e a → possible e a ≡ true
unfolding possible
ruled p =
    let f = p.registers in
    let x = p.ends in
    join (join (join f.first x.first) (join f.second (join x.second x.pair12)))
    (join (join f.third (join x.third x.pair23)) f.fourth)

-- a pair whose later end is E, and one that rises
to_last : (e x y : ℕ) → eqb y e ≡ true → pair_rule e x y ≡ true
to_last e x y h = rw (eqb-true y e h, eq-eqb e e refl, not_or, or_true)

rises : (e x y : ℕ) → ltb x y ≡ true → leb y e ≡ true → pair_rule e x y ≡ true
rises e x y h k =
    let d : x ≡ e → ⊥ = λ q. omega (arith, ltb-true x y h, leb-true y e k) in
    simp (h, ne_eqb x e d, or_true)

-- what each register allows keeps the rules of all
module _ (e : ℕ) (v : Vault) (x : ℕ) (p : Possible e v.areas) where
  abbrev f : Registers v.areas.rfa1ss v.areas.rfa2ss v.areas.rfa3ss v.areas.rfa4ss
  f = p.registers

  abbrev ends : Ends e v.areas.enda1 v.areas.enda2 v.areas.enda3
  ends = p.ends

  abbrev Keeps : ℕ → Type 0
  Keeps address = allows e v.areas address x ≡ true → Possible e (with_register v address x).areas

  rfa1ss : Keeps 0x04
  unfolding allows with_register
  rfa1ss h = record { registers = record { first = h; second = f.second; third = f.third; fourth = f.fourth }; ends = ends }

  rfa2ss : Keeps 0x06
  unfolding allows with_register
  rfa2ss h = record { registers = record { first = f.first; second = h; third = f.third; fourth = f.fourth }; ends = ends }

  rfa3ss : Keeps 0x08
  unfolding allows with_register
  rfa3ss h = record { registers = record { first = f.first; second = f.second; third = h; fourth = f.fourth }; ends = ends }

  rfa4ss : Keeps 0x0A
  unfolding allows with_register
  rfa4ss h = record { registers = record { first = f.first; second = f.second; third = f.third; fourth = h }; ends = ends }

  enda1 : Keeps 0x05
  unfolding allows with_register
  enda1 h =
      let own = both _ _ h in
      let later = both _ _ own.1 in
      record {
        registers = f;
        ends = record { first = own.0; second = ends.second; pair12 = to_last e x v.areas.enda2 later.0; third = ends.third; pair23 = ends.pair23 };
      }

  enda2 : Keeps 0x07
  unfolding allows with_register
  enda2 h =
      let own = both _ _ h in
      let around = both _ _ own.1 in
      record {
        registers = f;
        ends = record {
          first = ends.first;
          second = own.0;
          pair12 = rises e v.areas.enda1 x around.0 own.0;
          third = ends.third;
          pair23 = to_last e x v.areas.enda3 around.1;
        };
      }

  enda3 : Keeps 0x09
  unfolding allows with_register
  enda3 h =
      let own = both _ _ h in
      record {
        registers = f;
        ends = record {
          first = ends.first;
          second = ends.second;
          pair12 = ends.pair12;
          third = own.0;
          pair23 = rises e v.areas.enda2 x own.1 own.0;
        };
      }

  lockcfg : Keeps 0x0F
  unfolding with_register
  lockcfg h = p

  keeps : (address : ℕ) → Keeps address
  keeps address =
      each_address Keeps address rfa1ss enda1 rfa2ss enda2 rfa3ss enda3 rfa4ss lockcfg (λ n h. rw (nothing_written v x n) p)

-- a write is done only where it is permitted and allowed
pub done_allowed : (e : ℕ) (v : View) (address x : ℕ) → register_verdict e v address x ≡ Ok tt → (permits v ≡ true) × (allows e v.areas address x ≡ true)
unfolding register_verdict
done_allowed e v address x h = go (is_register address) (permits v) (allows e v.areas address x) h
  where
    go : (r p a : Bool) → (if◌then◌else◌ {A = Verdict} (not r) (Err 0x10) (if not p then Err 0x0F else if not a then Err 0x13 else Ok tt)) ≡ Ok tt
        → (p ≡ true) × (a ≡ true)
    go false p a h = let z : ◌≡◌ {A = ℕ} 0 1 = cc in absurd (omega arith)
    go true false a h = let z : ◌≡◌ {A = ℕ} 0 1 = cc in absurd (omega arith)
    go true true false h = let z : ◌≡◌ {A = ℕ} 0 1 = cc in absurd (omega arith)
    go true true true h = (refl, refl)

-- the registers after a write that is done
pub done_possible : (e : ℕ) (v : Vault) (address x : ℕ) → possible e v.areas ≡ true → register_verdict e (view_of v) address x ≡ Ok tt
    → possible e (with_register v address x).areas ≡ true
done_possible e v address x p h = ruled (keeps e v x (rules p) address (done_allowed e (view_of v) address x h).1)

after : (e : ℕ) (v u : Vault) (d : Verdict) → possible e v.areas ≡ true → (d ≡ Ok tt → possible e u.areas ≡ true)
    → possible e (after_verdict d v u).areas ≡ true
after e v u (Ok tt) p h = h refl
after e v u (Err c) p h = p

-- the theorem: whatever is written, possible registers stay possible, for any E
pub stays_possible : (e : ℕ) (v : Vault) (address x : ℕ) → possible e v.areas ≡ true
    → possible e (after_verdict (register_verdict e (view_of v) address x) v (with_register v address x)).areas ≡ true
stays_possible e v address x p =
    after e v (with_register v address x) (register_verdict e (view_of v) address x) p (done_possible e v address x p)

-- a factory tag's registers
pub all_at_end : (e : ℕ) → possible e (record { rfa1ss = 0; enda1 = e; rfa2ss = 0; enda2 = e; rfa3ss = 0; enda3 = e; rfa4ss = 0 }) ≡ true
all_at_end e =
    let own : end_rule e e ≡ true = le-leb e e (omega arith) in
    let pair : pair_rule e e e ≡ true = to_last e e e (eq-eqb e e refl) in
    ruled
    (record {
      registers = record { first = refl; second = refl; third = refl; fourth = refl };
      ends = record { first = own; second = own; pair12 = pair; third = own; pair23 = pair };
    })
