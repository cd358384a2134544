-- What a function that writes a list to the start of lent room promises.
-- Assumes nothing.
use Rattle.std.specs.Prelude.{ℕ, ◌≡◌, List, ◌++◌, length, drop}

-- the room, which was xs, is ys: L, and after it as it was; and n is how many bytes L has
pub record Put (L xs ys : List ℕ) (n : ℕ) : Type 0 where
  pub count : n ≡ length L
  pub is : ys ≡ L ++ drop (length L) xs
