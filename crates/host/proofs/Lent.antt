-- The size of the memory lent, with the last end that goes with it, and what was found of a header.
-- Assumes nothing.
use Prim.Native.Nat.{ℕ, ◌+◌, ◌*◌}
use mathlib.Core.Path.{◌≡◌, refl}
use mathlib.Core.Logic.{◌≢◌}
use mathlib.Core.Bool.{true, false}
use mathlib.Core.List.{List}
use lib.Dec.{eqb}
use lib.ListN.{length}
use borrow.Author.Tests.{eqb-true, ne_eqb}
use Rattle.std.specs.Prelude.{if◌then◌else◌, Some, None}
use Rattle.rights.proofs.Cases.{or_one}
use Rattle.record.specs.declared.Refusal.{Refusal}
use Rattle.tag.specs.Rules.{blocks_of}
use Rattle.tag.specs.Image.{header_rule}
use Rattle.tag.specs.Fault.{header_fault}
use Rattle.tag.specs.Host.{number_of, is_memory}
use Rattle.tag.proofs.Faults.{faultless}
use Rattle.tag.proofs.OnlyOne.{refusal_of, one_numbered}

-- the blocks of a memory, from its last end: "E is 63 or 255."
pub blocks_by_end : (m : List ℕ) → is_memory m ≡ true → blocks_of m ≡ 8 * ((if eqb (length m) 2048 then 63 else 255) + 1)
blocks_by_end m h =
    or_one (eqb (length m) 2048) (eqb (length m) 8192) h
    (λ e. rw (eqb-true (length m) 2048 e))
    (λ e. rw (eqb-true (length m) 8192 e))

-- each refusal has a number
pub some_number : (q : Refusal) → number_of (Some q) ≢ 0
unfolding refusal_of
some_number q h = let e = one_numbered (Some q) None {n = 0} refl h refl in cc

-- a header in which no fault was found keeps the rules, and one in which some fault was found breaks them
module _ (blocks : ℕ) (i : List ℕ) where
  pub header_kept : (header_fault blocks i).number ≡ 0 → header_rule blocks i ≡ true
  header_kept h = rw (← faultless blocks i, h)

  pub header_broken : (header_fault blocks i).number ≢ 0 → header_rule blocks i ≡ false
  header_broken h = rw (← faultless blocks i) (ne_eqb (header_fault blocks i).number 0 h)
