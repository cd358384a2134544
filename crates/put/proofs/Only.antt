-- A promise leaves no choice: two outcomes that meet it at the same entry are equal.
-- Assumes nothing.
use Prim.Native.Nat.{ℕ}
use mathlib.Core.Path.{◌≡◌}
use mathlib.Core.List.{List}
use Rattle.put.specs.Put.{Put}

-- a result that is promised by an equation
pub one_result {ℓ} : {A : Type ℓ} {x r s : A} → r ≡ x → s ≡ x → r ≡ s
one_result e f = cc

-- room that is promised by `Put`: how many bytes, and every byte
pub one_put : {L xs ys zs : List ℕ} {n k : ℕ} → Put L xs ys n → Put L xs zs k → (n ≡ k) × (ys ≡ zs)
one_put p q = (cc, cc)
