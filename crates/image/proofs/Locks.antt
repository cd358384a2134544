-- A lock bit, as a number.
-- Assumes nothing.
use mathlib.Core.Path.{◌≡◌, refl}
use mathlib.Core.Bool.{Bool, true, false}
use Rattle.std.specs.Int.{from_bool}
use Rattle.rights.specs.Registers.{one_if}

pub bit_byte : (b : Bool) → from_bool b ≡ one_if b
bit_byte true = refl
bit_byte false = refl
