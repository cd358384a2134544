-- What a line asks for fits: its numbers lie in their ranges, and its digits are no more than it may have.
-- Assumes nothing.
use mathlib.Core.Path.{◌≡◌}
use mathlib.Core.List.{List}
use Prim.Native.Nat.{ℕ, ◌-◌, ◌≤◌}
use native.Mathlib.Omega.{arith}
use lib.ListN.{length, drop, length-drop}
use Rattle.std.specs.Prelude.{Option, Some, None, IfSome, option_map}
use Rattle.rights.proofs.Cases.{if_one}
use Rattle.caselines.specs.Limits.{entries_most}
use Rattle.caselines.specs.Form.{Asked, Fits, record_form, request_form, load_form, factory_form}
use Rattle.caselines.specs.Form.{number_and_digits, bytes_form, search_form, hex_form, number_form, form_of}
use Rattle.caselines.proofs.Figures.{number_most}

-- the number before digits
before_most : (most : ℕ) (s : List ℕ) → IfSome (number_and_digits most s) (λ p. p.0 ≤ most)
unfolding number_and_digits
before_most most s = grind (arith, number_most most)

module _ (memory : ℕ) where
  -- what holds of what a line asks for, if it asks for anything
  abbrev OfLine : Option Asked → Type 0
  OfLine o = IfSome o (Fits memory)

  record_fits : (s : List ℕ) → OfLine (record_form s)
  record_fits s = grind arith

  request_fits : (s : List ℕ) → OfLine (request_form s)
  request_fits s = grind arith

  load_fits : (s : List ℕ) → OfLine (load_form s)
  load_fits s = grind arith

  factory_fits : (s : List ℕ) → OfLine (factory_form s)
  factory_fits s = grind arith

  bytes_fits : (s : List ℕ) → OfLine (bytes_form memory s)
  unfolding bytes_form
  bytes_fits s = grind (arith, before_most memory s)

  search_fits : (s : List ℕ) → OfLine (search_form s)
  unfolding search_form
  search_fits s = grind (arith, before_most entries_most s)

  -- a number alone
  number_fits : (f : ℕ → Asked) (o : Option ℕ) → IfSome o (λ n. Fits memory (f n)) → OfLine (option_map f o)
  number_fits f (Some n) h = h
  number_fits f None h = tt

  hex_fits : (l : List ℕ) → OfLine (hex_form memory l)
  unfolding hex_form
  hex_fits l = search (if_one OfLine, record_fits, bytes_fits, request_fits, load_fits, factory_fits, search_fits, tt) depth 14

  line_fits : (l : List ℕ) → OfLine (number_form memory l)
  unfolding number_form
  line_fits l = search (if_one OfLine, number_fits, number_most, hex_fits) depth 14

  pub form_fits : (l : List ℕ) → IfSome (form_of memory l) (Fits memory)
  unfolding form_of
  form_fits l = grind (arith, line_fits l)

-- the digits of a line, from a place on
pub digits_most : (l : List ℕ) (from : ℕ) {s : List ℕ} {n : ℕ} → s ≡ drop from l → length l - from ≤ n → length s ≤ n
digits_most l from e h = rw (e, length-drop) h
