-- Laws of areas: they guard the definition, and crates above go by them, so that nobody there unfolds it.
-- Assumes nothing.
use mathlib.Core.Path.{◌≡◌, refl}
use mathlib.Core.Bool.{Bool, true, false, not}
use Prim.Native.Nat.{ℕ, ◌+◌, ◌≤◌}
use native.Mathlib.Omega.{arith}
use lib.Dec.{leb, eqb}
use borrow.Author.Tests.{eqb-true, leb-true, le-leb, ne_eqb, le-ltb, not-true, not-false}
use Rattle.std.specs.Prelude.{if◌then◌else◌, Option}
use Rattle.rights.specs.declared.Areas.{Areas}
use Rattle.rights.specs.declared.Session.{Session}
use Rattle.rights.specs.declared.View.{View}
use Rattle.rights.specs.Passwords.{is_open}
use Rattle.rights.proofs.Cases.{else_false, both}
use Rattle.rights.specs.Blocks.{last_block, area_of, register_of, named, protection, serves, may_read, may_write, readable_at, writable_at, crosses_at, hidden_by}

-- "Area 1 is always readable"
pub first_readable : (v : View) (b : ℕ) → area_of v.areas b ≡ 1 → readable_at v b ≡ true
unfolding readable_at may_read
first_readable v b e = rw e

-- "11 never", of every area
pub never_written : (v : View) (b : ℕ) → protection (register_of v.areas (area_of v.areas b)) ≡ 3 → writable_at v b ≡ false
unfolding writable_at may_write
never_written v b e = rw e

-- "With password bits 00 no session serves."
pub none_serves : (s : Option Session) → serves s 0 ≡ false
unfolding serves
none_serves s = refl

-- ---- the area number does not fall as blocks rise

chain : Bool → Bool → Bool → ℕ
chain p q r = if p then 1 else if q then 2 else if r then 3 else 4

falls_not : (p q r s t u : Bool) → (s ≡ true → p ≡ true) → (t ≡ true → q ≡ true) → (u ≡ true → r ≡ true) → chain p q r ≤ chain s t u
unfolding chain
falls_not true q r true t u h k l = omega arith
falls_not true q r false true u h k l = omega arith
falls_not true q r false false true h k l = omega arith
falls_not true q r false false false h k l = omega arith
falls_not false q r true t u h k l = let z : ◌≡◌ {A = ℕ} 0 1 = cc (h refl) in absurd (omega arith)
falls_not false true r false true u h k l = omega arith
falls_not false true r false false true h k l = omega arith
falls_not false true r false false false h k l = omega arith
falls_not false false r false true u h k l = let z : ◌≡◌ {A = ℕ} 0 1 = cc (k refl) in absurd (omega arith)
falls_not false false true false false true h k l = omega arith
falls_not false false true false false false h k l = omega arith
falls_not false false false false false true h k l = let z : ◌≡◌ {A = ℕ} 0 1 = cc (l refl) in absurd (omega arith)
falls_not false false false false false false h k l = omega arith

pub area_rises : (a : Areas) (b c : ℕ) → b ≤ c → area_of a b ≤ area_of a c
unfolding area_of chain
area_rises a b c h =
    let lower : (e : ℕ) → leb c e ≡ true → leb b e ≡ true = λ e t. le-leb b e (omega (arith, leb-true c e t)) in
    falls_not (leb b (last_block a.enda1)) (leb b (last_block a.enda2)) (leb b (last_block a.enda3))
    (leb c (last_block a.enda1)) (leb c (last_block a.enda2)) (leb c (last_block a.enda3))
    (lower _) (lower _) (lower _)

-- ---- a run that crosses no border lies in one area, and blocks of one area have the same rights

pub same_rights : (v : View) (b c : ℕ) → area_of v.areas b ≡ area_of v.areas c → (readable_at v b ≡ readable_at v c) × (writable_at v b ≡ writable_at v c)
unfolding readable_at writable_at
same_rights v b c e = (rw e, rw e)

pub one_area : (a : Areas) (first more k : ℕ) → crosses_at a first more ≡ false → k ≤ more → area_of a (first + k) ≡ area_of a first
unfolding crosses_at
one_area a first more k e h =
    let q : area_of a first ≡ area_of a (first + more) = eqb-true _ _ (not-false _ e) in
    omega (arith, area_rises a first (first + k) (omega arith), area_rises a (first + k) (first + more) (omega arith))

-- ---- what only a set of passwords makes readable

-- a hidden block, by its area's number i and register f
pub record HiddenIn (chosen : ℕ → Bool) (i f : ℕ) : Type 0 where
  pub later : eqb i 1 ≡ false
  pub guarded : 2 ≤ protection f
  pub names : chosen (named f) ≡ true

pub hidden_in : (chosen : ℕ → Bool) (a : Areas) (b : ℕ) → hidden_by chosen a b ≡ true → HiddenIn chosen (area_of a b) (register_of a (area_of a b))
unfolding hidden_by
hidden_in chosen a b h =
    let e = both (not (eqb (area_of a b) 1)) _ h in
    let g = both (leb 2 (protection (register_of a (area_of a b)))) _ e.1 in
    record { later = not-true _ e.0; guarded = leb-true 2 _ g.0; names = g.1 }

-- unless a session of the set is open, it is neither readable nor writable
module _ (chosen : ℕ → Bool) (v : View)
    (shut : (n : ℕ) → chosen n ≡ true → is_open v.session n ≡ false) (b : ℕ) (h : hidden_by chosen v.areas b ≡ true) where
  abbrev register : ℕ
  register = register_of v.areas (area_of v.areas b)

  parts : HiddenIn chosen (area_of v.areas b) register
  parts = hidden_in chosen v.areas b h

  unserved : serves v.session (named register) ≡ false
  unfolding serves
  unserved = else_false (eqb (named register) 0) (shut (named register) parts.names)

  pub hidden_unreadable : readable_at v b ≡ false
  unfolding readable_at may_read
  hidden_unreadable = simp (parts.later, le-ltb (protection register) 2 parts.guarded) unserved

  pub hidden_unwritable : writable_at v b ≡ false
  unfolding writable_at may_write
  hidden_unwritable =
      simp (ne_eqb (protection register) 0 (λ q. omega (arith, parts.guarded))) (else_false (eqb (protection register) 3) unserved)
