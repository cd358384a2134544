-- The result of a call of the C boundary, one number: "place × 2^48 + number × 2^32 + length, 5a to 5e being 5Ah to 5Eh, place 0 where there is
-- none"; and what is taken from it, as `uistermo_refusal`, `uistermo_place` and `uistermo_length` do in C.
-- Assumes nothing.
use Rattle.std.specs.Prelude.{ℕ, ◌+◌, ◌*◌, ◌/◌, ◌%◌}

abbrev pub result_of : ℕ → ℕ → ℕ → ℕ
result_of place number l = place * 0x1000000000000 + number * 0x100000000 + l

-- 16 bits
abbrev pub refusal_in : ℕ → ℕ
refusal_in result = result / 0x100000000 % 0x10000

abbrev pub place_in : ℕ → ℕ
place_in result = result / 0x1000000000000

abbrev pub length_in : ℕ → ℕ
length_in result = result % 0x100000000
