-- What a run of `each_byte` that ended well has done.
-- Assumes nothing.
use Rattle.std.specs.Prelude.{ℕ, List, Option, Result, Ok}
use Rattle.std.specs.Io.KnownBytes.{Consumes}
use Rattle.std.specs.List.{FoldsTo}

-- The bytes that left the input, where it is known what it had (`Consumes`), are those of the calls of `feed`, in order, and each call answered Ok.
pub record Fed {F E : Type 0} (call : F → ℕ → Result (Unit {0}) E → F → Type 0) (before after : Option (List ℕ)) (feed : F) : Type 0 where
  pub bytes : List ℕ
  pub last : F
  pub taken : Consumes before after bytes
  pub calls : FoldsTo (λ f byte g. call f byte (Ok tt) g) feed bytes last
