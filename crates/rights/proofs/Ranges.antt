-- Numbers in their ranges: status bytes, what is read of a register, and a vault, which stays in range as a byte is written to a register.
-- Assumes nothing.
use mathlib.Core.Path.{◌≡◌}
use mathlib.Core.Bool.{Bool, true, false}
use mathlib.Core.List.{List, [], ◌∷◌}
use Prim.Native.Nat.{ℕ, ◌^◌, ◌≤◌, ◌<◌}
use native.Mathlib.Omega.{arith}
use lib.ListN.{length}
use lib.Dec.{eqb}
use Rattle.std.specs.Prelude.{Result, Ok, Err}
use Rattle.put.proofs.Bytes.{Below, Bytes, none, more}
use Rattle.rights.specs.declared.Areas.{Areas}
use Rattle.rights.specs.declared.Vault.{Vault}
use Rattle.rights.specs.declared.View.{View}
use Rattle.rights.specs.Blocks.{barred_at, status_at}
use Rattle.rights.specs.Registers.{one_if, registers_of, register_at, with_areas, with_register}
use Rattle.rights.proofs.Cases.{if_one}

pub status_byte : (v : View) (b : ℕ) → status_at v b < 256
unfolding status_at
status_byte v b = if_one (λ (x : ℕ). x < 256) (barred_at v b) (λ e. omega arith) (λ e. omega arith)

pub at_most_one : (b : Bool) → one_if b ≤ 1
at_most_one true = omega arith
at_most_one false = omega arith

-- the byte that is read of a register
abbrev pub told : Result ℕ ℕ → List ℕ
told (Err c) = []
told (Ok x) = x ∷ []

abbrev Told : Result ℕ ℕ → Type 0
Told r = Bytes (told r)

pub read_bytes : (v : View) (address : ℕ) → Bytes (registers_of v.areas) → Bytes (told (register_at v address))
unfolding register_at
read_bytes v address (more a (more b (more c (more d (more f (more g (more h none))))))) =
    let bit : one_if v.lockcfg < 256 = omega (arith, at_most_one v.lockcfg) in
    if_one Told (eqb address 0x04) (λ e. more a none) (λ e.
    if_one Told (eqb address 0x05) (λ e. more b none) (λ e.
    if_one Told (eqb address 0x06) (λ e. more c none) (λ e.
    if_one Told (eqb address 0x07) (λ e. more d none) (λ e.
    if_one Told (eqb address 0x08) (λ e. more f none) (λ e.
    if_one Told (eqb address 0x09) (λ e. more g none) (λ e.
    if_one Told (eqb address 0x0A) (λ e. more h none) (λ e.
    if_one Told (eqb address 0x0F) (λ e. more bit none) (λ e. none))))))))

-- registers are bytes; "four 64-bit passwords"
pub record RangedVault (v : Vault) : Type 0 where
  pub bytes : Bytes (registers_of v.areas)
  pub four : length v.keys.passwords ≡ 4
  pub passwords : Below (2 ^ 64) v.keys.passwords

pub register_ranged : (v : Vault) (address x : ℕ) → x < 256 → RangedVault v → RangedVault (with_register v address x)
unfolding with_register
register_ranged v address x l r = go r.bytes
  where
    with_areas_lem : (a : Areas) → Bytes (registers_of a) → RangedVault (with_areas v a)
    with_areas_lem a p = record { bytes = p; four = r.four; passwords = r.passwords }

    go : Bytes (registers_of v.areas) → RangedVault (with_register v address x)
    go (more a (more b (more c (more d (more f (more g (more h none))))))) =
        if_one RangedVault (eqb address 0x04) (λ e. with_areas_lem _ (more l (more b (more c (more d (more f (more g (more h none)))))))) (λ e.
        if_one RangedVault (eqb address 0x05) (λ e. with_areas_lem _ (more a (more l (more c (more d (more f (more g (more h none)))))))) (λ e.
        if_one RangedVault (eqb address 0x06) (λ e. with_areas_lem _ (more a (more b (more l (more d (more f (more g (more h none)))))))) (λ e.
        if_one RangedVault (eqb address 0x07) (λ e. with_areas_lem _ (more a (more b (more c (more l (more f (more g (more h none)))))))) (λ e.
        if_one RangedVault (eqb address 0x08) (λ e. with_areas_lem _ (more a (more b (more c (more d (more l (more g (more h none)))))))) (λ e.
        if_one RangedVault (eqb address 0x09) (λ e. with_areas_lem _ (more a (more b (more c (more d (more f (more l (more h none)))))))) (λ e.
        if_one RangedVault (eqb address 0x0A) (λ e. with_areas_lem _ (more a (more b (more c (more d (more f (more g (more l none)))))))) (λ e.
        if_one RangedVault (eqb address 0x0F) (λ e. record { bytes = r.bytes; four = r.four; passwords = r.passwords }) (λ e. r))))))))
