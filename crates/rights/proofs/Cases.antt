-- Bools by cases.
-- Assumes nothing.
use mathlib.Core.Path.{◌≡◌, refl, sym, ◌∙◌}
use Prim.Native.Nat.{ℕ}
use native.Mathlib.Omega.{arith}
use mathlib.Core.Bool.{Bool, true, false, not, ◌&&◌, ◌||◌}
use borrow.Author.Tests.{not-true, not-false}
use Rattle.std.specs.Prelude.{if◌then◌else◌}

pub or_true : (b : Bool) → (b || true) ≡ true
or_true true = refl
or_true false = refl

pub and_true : (b : Bool) → (b && true) ≡ b
and_true true = refl
and_true false = refl

pub and_false : (b : Bool) → (b && false) ≡ false
and_false true = refl
and_false false = refl

pub not_or : (b : Bool) → (not b || b) ≡ true
not_or true = refl
not_or false = refl

-- an `if`, by its two cases
pub if_one {κ} : {A : Type 0} (P : A → Type κ) (c : Bool) {x y : A} → (c ≡ true → P x) → (c ≡ false → P y) → P (if c then x else y)
if_one P true p q = p refl
if_one P false p q = q refl

-- and one test in two of them
pub if_both {κ} : {A : Type 0} (R : A → A → Type κ) (c : Bool) {x y x' y' : A} → R x x' → R y y' → R (if c then x else y) (if c then x' else y')
if_both R true p q = p
if_both R false p q = q

pub else_false : (t : Bool) {o : Bool} → o ≡ false → (if t then false else o) ≡ false
else_false true e = refl
else_false false e = e

-- a conjunction, taken apart and put together
pub both : (a b : Bool) → (a && b) ≡ true → (a ≡ true) × (b ≡ true)
both true b e = (refl, e)
both false b e = let z : ◌≡◌ {A = ℕ} 0 1 = cc in absurd (omega arith)

pub join : {a b : Bool} → a ≡ true → b ≡ true → (a && b) ≡ true
join p q = rw (p, q)

-- a disjunction, by its two cases
pub or_one {κ} : {P : Type κ} (a b : Bool) → (a || b) ≡ true → (a ≡ true → P) → (b ≡ true → P) → P
or_one true b e p q = p refl
or_one false b e p q = q e

-- and one that fails
pub neither : (a b : Bool) → (a || b) ≡ false → (a ≡ false) × (b ≡ false)
neither true b e = let z : ◌≡◌ {A = ℕ} 0 1 = cc in absurd (omega arith)
neither false b e = (refl, e)

-- what a function that promises a tests of it, and the code asks whether it does not hold
pub broken : {r a : Bool} → r ≡ a → not r ≡ true → a ≡ false
broken {r} p f = sym p ∙ not-true r f

pub kept : {r a : Bool} → r ≡ a → not r ≡ false → a ≡ true
kept {r} p f = sym p ∙ not-false r f
