-- The addresses of registers, which four definitions name, agree: what can be read is what can be written, what was written is read back
-- under its address, and every other register stays.
-- Assumes nothing.
use mathlib.Core.Path.{◌≡◌, refl}
use mathlib.Core.Bool.{Bool, true, false, ◌&&◌, ◌||◌}
use Prim.Native.Nat.{ℕ, zero, suc, ◌≤◌}
use native.Mathlib.Omega.{arith}
use native.Mathlib.Decide.{ℕ_discrete}
use lib.Dec.{leb, eqb}
use borrow.Author.Tests.{leb-true, ne_eqb}
use Rattle.std.specs.Prelude.{Result, Ok, Err}
use Rattle.rights.specs.declared.Vault.{Vault}
use Rattle.rights.specs.declared.View.{View}
use Rattle.rights.specs.Vault.{view_of}
use Rattle.rights.specs.Registers.{one_if, register_at, is_register, allows, with_register}
use Rattle.rights.proofs.Cases.{both}

-- an address of no register
pub record Elsewhere (address : ℕ) : Type 0 where
  pub not04 : address ≡ 0x04 → ⊥
  pub not05 : address ≡ 0x05 → ⊥
  pub not06 : address ≡ 0x06 → ⊥
  pub not07 : address ≡ 0x07 → ⊥
  pub not08 : address ≡ 0x08 → ⊥
  pub not09 : address ≡ 0x09 → ⊥
  pub not0_a : address ≡ 0x0A → ⊥
  pub not0_f : address ≡ 0x0F → ⊥

-- what holds at the address of each register, and elsewhere, holds at every address
pub each_address {κ} : (P : ℕ → Type κ) (address : ℕ) → P 0x04 → P 0x05 → P 0x06 → P 0x07 → P 0x08 → P 0x09 → P 0x0A → P 0x0F → (Elsewhere address → P address) → P address
each_address P address p04 p05 p06 p07 p08 p09 p0A p0F rest =
    at 0x04 p04 (λ a. at 0x05 p05 (λ b. at 0x06 p06 (λ c. at 0x07 p07 (λ d. at 0x08 p08 (λ e. at 0x09 p09 (λ f. at 0x0A p0A (λ g. at 0x0F p0F (λ h.
    rest (record { not04 = a; not05 = b; not06 = c; not07 = d; not08 = e; not09 = f; not0_a = g; not0_f = h })))))))))
  where
    at : (n : ℕ) → P n → ((address ≡ n → ⊥) → P address) → P address
    at n p other = go (ℕ_discrete address n)
      where
        go : Dec (address ≡ n) → P address
        go (yes d) = rw d p
        go (no d) = other d

-- ---- reading and writing know the same addresses

abbrev pub is_value : Result ℕ ℕ → Bool
is_value (Err c) = false
is_value (Ok x) = true

past : (n a : ℕ) → n ≤ a → (a ≡ n → ⊥) → suc n ≤ a
past n a h d = omega arith

too_far : (a : ℕ) → 11 ≤ a → a ≤ 10 → ⊥
too_far a h k = omega arith

no_register : (address : ℕ) → Elsewhere address → is_register address ≡ false
unfolding is_register
no_register address n = rw (ne_eqb _ _ n.not0_f) (go (leb 0x04 address && leb address 0x0A) refl)
  where
    go : (b : Bool) → (leb 0x04 address && leb address 0x0A) ≡ b → (b || false) ≡ false
    go false h = refl
    go true h =
        let w = both (leb 0x04 address) _ h in
        let past6 = past 6 _ (past 5 _ (past 4 _ (leb-true 0x04 address w.0) n.not04) n.not05) n.not06 in
        let past10 = past 10 _ (past 9 _ (past 8 _ (past 7 _ past6 n.not07) n.not08) n.not09) n.not0_a in
        absurd (too_far address past10 (leb-true address 0x0A w.1))

-- "Unknown 10h"
unknown_read : (v : View) {address : ℕ} → Elsewhere address → register_at v address ≡ Err 0x10
unfolding register_at
unknown_read v n =
    rw (
      ne_eqb _ _ n.not04,
      ne_eqb _ _ n.not05,
      ne_eqb _ _ n.not06,
      ne_eqb _ _ n.not07,
      ne_eqb _ _ n.not08,
      ne_eqb _ _ n.not09,
      ne_eqb _ _ n.not0_a,
      ne_eqb _ _ n.not0_f,
    )

pub none_read : (v : View) (address : ℕ) → is_register address ≡ false → register_at v address ≡ Err 0x10
unfolding is_register
none_read v address =
    each_address (λ (a : ℕ). is_register a ≡ false → register_at v a ≡ Err 0x10) address
    (λ h. cc) (λ h. cc) (λ h. cc) (λ h. cc) (λ h. cc) (λ h. cc) (λ h. cc) (λ h. cc) (λ n h. unknown_read v n)

-- and a read has no other error
pub read_error : (v : View) (address c : ℕ) → register_at v address ≡ Err c → c ≡ 0x10
unfolding register_at
read_error v address c =
    each_address (λ (a : ℕ). register_at v a ≡ Err c → c ≡ 0x10) address
    (λ h. cc) (λ h. cc) (λ h. cc) (λ h. cc) (λ h. cc) (λ h. cc) (λ h. cc) (λ h. cc)
    (λ n h. cc (unknown_read v n))

pub same_addresses : (v : View) (address : ℕ) → is_value (register_at v address) ≡ is_register address
unfolding register_at is_register
same_addresses v address =
    each_address (λ (a : ℕ). is_value (register_at v a) ≡ is_register a) address refl refl refl refl refl refl refl refl
    (λ n. rw (no_register address n, unknown_read v n))

-- ---- a register that is written

module _ (v : Vault) (x : ℕ) where
  abbrev Now : ℕ → ℕ → Result ℕ ℕ
  Now address = register_at (view_of (with_register v address x))

  pub nothing_written : {address : ℕ} → Elsewhere address → with_register v address x ≡ v
  unfolding with_register
  nothing_written n =
      rw (ne_eqb _ _ n.not04, ne_eqb _ _ n.not05, ne_eqb _ _ n.not06, ne_eqb _ _ n.not07, ne_eqb _ _ n.not08, ne_eqb _ _ n.not09, ne_eqb _ _ n.not0_a, ne_eqb _ _ n.not0_f)

  -- LOCK_CFG is a bit
  bit_read : (y : ℕ) → leb y 0x01 ≡ true → ◌≡◌ {A = Result ℕ ℕ} (Ok (one_if (eqb y 0x01))) (Ok y)
  bit_read zero h = refl
  bit_read (suc zero) h = refl
  bit_read (suc (suc y)) h = absurd (omega (arith, leb-true (suc (suc y)) 0x01 h))

  -- what is allowed is read back
  pub read_back : (e address : ℕ) → is_register address ≡ true → allows e v.areas address x ≡ true → Now address address ≡ Ok x
  unfolding register_at with_register allows is_register
  read_back e address =
      each_address (λ (a : ℕ). is_register a ≡ true → allows e v.areas a x ≡ true → Now a a ≡ Ok x) address
      (λ r h. refl) (λ r h. refl) (λ r h. refl) (λ r h. refl) (λ r h. refl) (λ r h. refl) (λ r h. refl) (λ r h. bit_read x h)
      (λ n r h. let z : ◌≡◌ {A = ℕ} 0 1 = cc (no_register address n) in absurd (omega arith))

  -- and no other register alters
  pub others_stay : (address other : ℕ) → (other ≡ address → ⊥) → Now address other ≡ register_at (view_of v) other
  unfolding register_at with_register
  others_stay address other =
      each_address (λ (a : ℕ). (other ≡ a → ⊥) → Now a other ≡ register_at (view_of v) other) address
      (λ d. rw (ne_eqb _ _ d)) (λ d. rw (ne_eqb _ _ d)) (λ d. rw (ne_eqb _ _ d)) (λ d. rw (ne_eqb _ _ d))
      (λ d. rw (ne_eqb _ _ d)) (λ d. rw (ne_eqb _ _ d)) (λ d. rw (ne_eqb _ _ d)) (λ d. rw (ne_eqb _ _ d))
      (λ n d. rw (nothing_written n))
