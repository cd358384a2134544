-- Figures, from a place of a line on: one more, and the end. And what a line's number is at most.
-- Assumes nothing.
use mathlib.Core.Path.{◌≡◌}
use mathlib.Core.Bool.{true, false}
use mathlib.Core.List.{List, [], ◌∷◌}
use Prim.Native.Nat.{ℕ, ◌+◌, ◌-◌, ◌*◌, ◌≤◌, ◌<◌}
use native.Mathlib.Numerals.{add-one}
use native.Mathlib.Omega.{arith}
use lib.ListN.{length, get_or, drop, drop_of_length-le}
use lib.Seq.{drop-cons}
use borrow.Author.Tests.{le-leb, lt-leb}
use Rattle.std.specs.Prelude.{Option, Some, None, IfSome}
use Rattle.text.specs.Text.{is_figure}
use Rattle.caselines.specs.Form.{number_from, number_in}

module _ (most n i : ℕ) (s : List ℕ) where
  abbrev more : ℕ
  more = 10 * n + (get_or s i 0 - 0x30)

  pub no_figure : i < length s → is_figure (get_or s i 0) ≡ false → number_from most n (drop i s) ≡ None
  unfolding number_from
  no_figure h e = rw (drop-cons s i 0 h, e)

  pub too_great : i < length s → is_figure (get_or s i 0) ≡ true → most < more → number_from most n (drop i s) ≡ None
  unfolding number_from
  too_great h e g = rw (drop-cons s i 0 h, e, lt-leb more most g)

  pub one_figure : i < length s → is_figure (get_or s i 0) ≡ true → more ≤ most → number_from most n (drop i s) ≡ number_from most more (drop (i + 1) s)
  unfolding number_from
  one_figure h e g = rw (drop-cons s i 0 h, e, le-leb more most g, add-one)

  pub no_more_figures : length s ≤ i → number_from most n (drop i s) ≡ Some n
  unfolding number_from
  no_more_figures h = rw (drop_of_length-le s h)

-- what `number_from` cites
pub ruleset figures = (no_figure, too_great, one_figure, no_more_figures)

-- a number is at most the greatest of its range
from_most : (most n : ℕ) (s : List ℕ) → n ≤ most → IfSome (number_from most n s) (λ r. r ≤ most)
unfolding number_from
from_most most n [] h = h
from_most most n (d ∷ ds) h = grind (arith, from_most most (10 * n + (d - 0x30)) ds)

pub number_most : (most : ℕ) (s : List ℕ) → IfSome (number_in most s) (λ r. r ≤ most)
unfolding number_in
number_most most s = grind (arith, from_most most 0 s)

pub at_most : (most : ℕ) (s : List ℕ) {r : Option ℕ} {n : ℕ} → r ≡ number_in most s → r ≡ Some n → n ≤ most
at_most most s e f = grind (arith, number_most most s)
