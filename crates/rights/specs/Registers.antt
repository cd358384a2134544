-- "Passwords and registers", the registers; and the record rules for the area registers.
-- Assumes nothing.
use Rattle.std.specs.Prelude.{ℕ, Bool, true, false, not, ◌&&◌, ◌||◌, List, [], ◌∷◌, leb, ltb, eqb, if◌then◌else◌, Result, Ok, Err, MatchResult, ◌≡◌}
use Rattle.rights.specs.declared.Areas.{Areas}
use Rattle.rights.specs.declared.Vault.{Vault}
use Rattle.rights.specs.declared.View.{View}
use Rattle.rights.specs.declared.registers.Register.{Register}
use Rattle.rights.specs.declared.registers.Register.TheVariants.{Rfa1ss, Enda1, Rfa2ss, Enda2, Rfa3ss, Enda3, Rfa4ss, LockCfg}
use Rattle.rights.specs.declared.registers.UnknownRegister.{UnknownRegister}
use Rattle.rights.specs.Verdict.{Verdict}
use Rattle.rights.specs.Passwords.{is_open}

-- a bit, as a byte
abbrev pub one_if : Bool → ℕ
one_if true = 1
one_if false = 0

-- the seven area registers, in the order of the image's bytes
abbrev pub registers_of : Areas → List ℕ
registers_of a = a.rfa1ss ∷ a.enda1 ∷ a.rfa2ss ∷ a.enda2 ∷ a.rfa3ss ∷ a.enda3 ∷ a.rfa4ss ∷ []

-- "Read A0h and write A1h take a one-byte register address as in 003", Table 10. "Registers: the seven above and LOCK_CFG. Unknown 10h"
unfoldable pub register_at : View → ℕ → Result ℕ ℕ
register_at v address =
    if eqb address 0x04 then Ok v.areas.rfa1ss else
    if eqb address 0x05 then Ok v.areas.enda1 else
    if eqb address 0x06 then Ok v.areas.rfa2ss else
    if eqb address 0x07 then Ok v.areas.enda2 else
    if eqb address 0x08 then Ok v.areas.rfa3ss else
    if eqb address 0x09 then Ok v.areas.enda3 else
    if eqb address 0x0A then Ok v.areas.rfa4ss else
    if eqb address 0x0F then Ok (one_if v.lockcfg) else Err 0x10

-- the addresses of registers: 04h to 0Ah and 0Fh
unfoldable pub is_register : ℕ → Bool
is_register address = (leb 0x04 address && leb address 0x0A) || eqb address 0x0F

-- "take a one-byte register address as in 003", Table 10
abbrev pub address_of : Register → ℕ
address_of Rfa1ss = 0x04
address_of Enda1 = 0x05
address_of Rfa2ss = 0x06
address_of Enda2 = 0x07
address_of Rfa3ss = 0x08
address_of Enda3 = 0x09
address_of Rfa4ss = 0x0A
address_of LockCfg = 0x0F

-- the result is the register at this address, or an error where none has it
abbrev pub Addresses : ℕ → Result Register UnknownRegister → Type 0
Addresses address r = MatchResult r (λ register. (address ≡ address_of register) × (is_register address ≡ true)) (λ e. (e.0 ≡ address) × (is_register address ≡ false))

-- "RFAiSS allows 00h to 0Fh, LOCK_CFG 00h and 01h. ENDAi allows v at most E, above ENDA(i-1) if i is over 1, while all later ends are E."
unfoldable pub allows : ℕ → Areas → ℕ → ℕ → Bool
allows e a address v =
    if eqb address 0x05 then leb v e && (eqb a.enda2 e && eqb a.enda3 e) else
    if eqb address 0x07 then leb v e && (ltb a.enda1 v && eqb a.enda3 e) else
    if eqb address 0x09 then leb v e && ltb a.enda2 v else
    if eqb address 0x0F then leb v 0x01 else leb v 0x0F

-- "configuration session closed or LOCK_CFG set" bars a write
unfoldable pub permits : View → Bool
permits v = is_open v.session 0 && not v.lockcfg

-- "Unknown 10h; for a write, configuration session closed or LOCK_CFG set 0Fh; value not allowed 13h."
unfoldable pub register_verdict : ℕ → View → ℕ → ℕ → Verdict
register_verdict e v address x =
    if not (is_register address) then Err 0x10 else
    if not (permits v) then Err 0x0F else
    if not (allows e v.areas address x) then Err 0x13 else Ok tt

abbrev pub with_areas : Vault → Areas → Vault
with_areas v a = record { areas = a; lock0 = v.lock0; lock1 = v.lock1; lockcfg = v.lockcfg; keys = v.keys }

-- the vault with a register written
unfoldable pub with_register : Vault → ℕ → ℕ → Vault
with_register v address x =
    let a = v.areas in
    if eqb address 0x04 then with_areas v (record { rfa1ss = x; enda1 = a.enda1; rfa2ss = a.rfa2ss; enda2 = a.enda2; rfa3ss = a.rfa3ss; enda3 = a.enda3; rfa4ss = a.rfa4ss }) else
    if eqb address 0x05 then with_areas v (record { rfa1ss = a.rfa1ss; enda1 = x; rfa2ss = a.rfa2ss; enda2 = a.enda2; rfa3ss = a.rfa3ss; enda3 = a.enda3; rfa4ss = a.rfa4ss }) else
    if eqb address 0x06 then with_areas v (record { rfa1ss = a.rfa1ss; enda1 = a.enda1; rfa2ss = x; enda2 = a.enda2; rfa3ss = a.rfa3ss; enda3 = a.enda3; rfa4ss = a.rfa4ss }) else
    if eqb address 0x07 then with_areas v (record { rfa1ss = a.rfa1ss; enda1 = a.enda1; rfa2ss = a.rfa2ss; enda2 = x; rfa3ss = a.rfa3ss; enda3 = a.enda3; rfa4ss = a.rfa4ss }) else
    if eqb address 0x08 then with_areas v (record { rfa1ss = a.rfa1ss; enda1 = a.enda1; rfa2ss = a.rfa2ss; enda2 = a.enda2; rfa3ss = x; enda3 = a.enda3; rfa4ss = a.rfa4ss }) else
    if eqb address 0x09 then with_areas v (record { rfa1ss = a.rfa1ss; enda1 = a.enda1; rfa2ss = a.rfa2ss; enda2 = a.enda2; rfa3ss = a.rfa3ss; enda3 = x; rfa4ss = a.rfa4ss }) else
    if eqb address 0x0A then with_areas v (record { rfa1ss = a.rfa1ss; enda1 = a.enda1; rfa2ss = a.rfa2ss; enda2 = a.enda2; rfa3ss = a.rfa3ss; enda3 = a.enda3; rfa4ss = x }) else
    if eqb address 0x0F then record { areas = a; lock0 = v.lock0; lock1 = v.lock1; lockcfg = eqb x 0x01; keys = v.keys } else v

-- ---- "Record rules", those of the registers

-- "each RFAiSS is at most 0Fh"
abbrev pub register_rule : ℕ → Bool
register_rule f = leb f 0x0F

-- "each ENDAi is at most E"
abbrev pub end_rule : ℕ → ℕ → Bool
end_rule e x = leb x e

-- "if ENDAi is below E then ENDA(i+1) is above ENDAi; if ENDAi is E then all later ends are E", of x, an ENDAi, and y, the next
abbrev pub pair_rule : ℕ → ℕ → ℕ → Bool
pair_rule e x y = (not (ltb x e) || ltb x y) && (not (eqb x e) || eqb y e)

-- in the order of the image's bytes
unfoldable pub possible : ℕ → Areas → Bool
possible e a =
    ((register_rule a.rfa1ss && end_rule e a.enda1)
    && (register_rule a.rfa2ss && (end_rule e a.enda2 && pair_rule e a.enda1 a.enda2)))
    && ((register_rule a.rfa3ss && (end_rule e a.enda3 && pair_rule e a.enda2 a.enda3))
    && register_rule a.rfa4ss)
