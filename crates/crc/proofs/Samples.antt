-- The CRC samples of document 001, with the bytes that document 01 gives: bytes of a frame, and the CRC bytes that follow them.
-- One claim, which antt computes.
-- Assumes nothing.
use Prim.Native.Nat.{ℕ}
use mathlib.Core.Path.{◌≡◌, refl}
use mathlib.Core.List.{List, [], ◌∷◌, map}
use Rattle.crc.specs.Crc.{crc_bit, crc_bits, crc_byte, crc_from, crc_of, crc_bytes}

pub samples : List (List ℕ × List ℕ)
samples =
    (0x00 ∷ [], 0x78 ∷ 0xF0 ∷ [])
    ∷ (0x00 ∷ 0xF0 ∷ 0x6B ∷ [], 0x11 ∷ 0x67 ∷ [])
    ∷ (0x00 ∷ 0x00 ∷ 0xF0 ∷ 0xC8 ∷ 0xD6 ∷ 0x01 ∷ 0x04 ∷ 0x23 ∷ 0x02 ∷ 0xE0 ∷ [], 0x64 ∷ 0xA3 ∷ [])
    ∷ []

pub samples_hold : map (λ (v : List ℕ × List ℕ). crc_bytes v.0) samples ≡ map (λ (v : List ℕ × List ℕ). v.1) samples
unfolding samples crc_bit crc_bits crc_byte crc_from crc_of crc_bytes
samples_hold = refl
