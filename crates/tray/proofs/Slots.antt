-- Sums over slots, what a longer mask means, and the laws of tests and powers that they take.
-- Assumes nothing.
use mathlib.Core.Path.{◌≡◌, refl, sym, ap, ◌∙◌}
use mathlib.Core.Bool.{Bool, true}
use mathlib.Core.List.{List, [], ◌∷◌}
use Prim.Native.Nat.{ℕ, zero, suc, ◌+◌, ◌*◌, ◌/◌, ◌%◌, ◌^◌, ◌≤◌, ◌<◌}
use native.Mathlib.Nat.{add_comm, mul-zero, mod-lt, mul-le-mul_right, pow-zero, pow-suc}
use native.Mathlib.Omega.{arith}
use lib.Dec.{eqb}
use lib.Pow.{mod-pow-add, high, low, pow_pos, pow-add}
use borrow.Author.Tests.{eqb-true, eqb-false, eq-eqb, ne_eqb}
use Rattle.std.specs.Prelude.{if◌then◌else◌}
use Rattle.rights.proofs.Cases.{both, join}
use Rattle.tag.specs.Inventory.{fits}
use Rattle.tray.specs.Tray.{speaks_in, those, total, longer}

-- ---- two tests that are true together, or false together

pub same_test : (x a b : Bool) → (a ≡ x → b ≡ x) → (b ≡ x → a ≡ x) → a ≡ b
same_test x a b f g = grind (arith, f, g)

-- ---- a power of a power of two, in bits

pub in_bits : (width n : ℕ) → (2 ^ width) ^ n ≡ 2 ^ (width * n)
in_bits width zero = rw (mul-zero, pow-zero)
in_bits width (suc n) = let e : width * suc n ≡ width * n + width = omega arith in rw (e, pow-suc, pow-add, in_bits width n)

-- ---- a slot's answers are those that the longer mask fits

-- what a UID has below the longer mask's end
grown : (bits u : ℕ) → u % 2 ^ (bits + 4) ≡ u / 2 ^ bits % 16 * 2 ^ bits + u % 2 ^ bits
grown bits u = rw (add_comm bits 4) (mod-pow-add u 4 bits)

module _ (mask bits slot : ℕ) (m : mask < 2 ^ bits) where
  longer_low : longer mask bits slot % 2 ^ bits ≡ mask
  longer_low = low slot bits m

  longer_high : longer mask bits slot / 2 ^ bits ≡ slot
  longer_high = high slot bits m

  pub speaks_both : (u : ℕ) → speaks_in mask bits slot u ≡ true → (u % 2 ^ bits ≡ mask) × (u / 2 ^ bits % 16 ≡ slot)
  unfolding speaks_in fits
  speaks_both u e = let p = both (eqb (u % 2 ^ bits) mask) _ e in (eqb-true _ _ p.0, eqb-true _ _ p.1)

  pub from_longer : (u : ℕ) → u % 2 ^ (bits + 4) ≡ longer mask bits slot → (u % 2 ^ bits ≡ mask) × (u / 2 ^ bits % 16 ≡ slot)
  from_longer u e =
      let r : u % 2 ^ bits < 2 ^ bits = mod-lt u (pow_pos bits) in
      let f : u / 2 ^ bits % 16 * 2 ^ bits + u % 2 ^ bits ≡ longer mask bits slot = sym (grown bits u) ∙ e in (
        sym (low (u / 2 ^ bits % 16) bits r) ∙ ap (λ (n : ℕ). n % 2 ^ bits) f ∙ longer_low,
        sym (high (u / 2 ^ bits % 16) bits r) ∙ ap (λ (n : ℕ). n / 2 ^ bits) f ∙ longer_high,
      )

  pub speaks_fits : (u : ℕ) → speaks_in mask bits slot u ≡ fits (longer mask bits slot) (bits + 4) u
  unfolding speaks_in fits
  speaks_fits u =
      same_test true _ _
      (λ e. let p = speaks_both u e in eq-eqb _ _ (grown bits u ∙ rw (p.0, p.1)))
      (λ e. let p = from_longer u (eqb-true _ _ e) in join (eq-eqb _ _ p.0) (eq-eqb _ _ p.1))

  pub longer_below : slot < 16 → longer mask bits slot < 2 ^ (bits + 4)
  longer_below l = rw pow-add (omega (arith, mul-le-mul_right (2 ^ bits) l))

-- ---- those that pass a test

those_same : (f g : ℕ → Bool) → ((u : ℕ) → f u ≡ g u) → (us : List ℕ) → those f us ≡ those g us
unfolding those
those_same f g e [] = refl
those_same f g e (u ∷ us) = rw (e u, those_same f g e us)

-- those that answer in a slot are those that the longer mask fits
pub answer_longer : (mask bits slot : ℕ) → mask < 2 ^ bits → (uids : List ℕ)
    → those (speaks_in mask bits slot) uids ≡ those (fits (longer mask bits slot) (bits + 4)) uids
answer_longer mask bits slot m uids = those_same _ _ (speaks_fits mask bits slot m) uids

-- ---- sums over slots

pub total_same : (f g : ℕ → ℕ) (k s : ℕ) → ((x : ℕ) → s ≤ x → x < s + k → f x ≡ g x) → total f k s ≡ total g k s
unfolding total
total_same f g zero s e = refl
total_same f g (suc k) s e = omega (arith, e s (omega arith) (omega arith), total_same f g k (s + 1) (λ x a b. e x (omega arith) (omega arith)))

pub total_none : (k s : ℕ) → total (λ x. 0) k s ≡ 0
unfolding total
total_none zero s = refl
total_none (suc k) s = omega (arith, total_none k (s + 1))

pub total_add : (f g : ℕ → ℕ) (k s : ℕ) → total (λ x. f x + g x) k s ≡ total f k s + total g k s
unfolding total
total_add f g zero s = refl
total_add f g (suc k) s = omega (arith, total_add f g k (s + 1))

-- one slot alone
total_past : (a t k s : ℕ) → t < s → total (λ x. if eqb t x then a else 0) k s ≡ 0
unfolding total
total_past a t zero s h = refl
total_past a t (suc k) s h = rw (ne_eqb t s (λ e. omega arith)) (omega (arith, total_past a t k (s + 1) (omega arith)))

pub total_one : (a t k s : ℕ) → s ≤ t → t < s + k → total (λ x. if eqb t x then a else 0) k s ≡ a
unfolding total
total_one a t zero s h l = absurd (omega arith)
total_one a t (suc k) s h l = grind (arith, eqb-true t s, eqb-false t s, total_one a t k (s + 1), total_past a t k (s + 1))
