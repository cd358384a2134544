-- The command table, row by row.
-- Assumes nothing.
use Prim.Native.Nat.{ℕ}
use mathlib.Core.Path.{◌≡◌}
use lib.Dec.{eqb}
use borrow.Author.Tests.{eqb-true}
use Rattle.std.specs.Prelude.{if◌then◌else◌}
use Rattle.rights.proofs.Cases.{if_one}
use Rattle.tag.specs.declared.Command.TheVariants.{Present}
use Rattle.tag.specs.declared.Entry.{Entry}
use Rattle.tag.specs.Table.{entry_of}

module _ (code : ℕ) where
  -- the row of code k, or a later one
  pub row : (P : Entry → Type 0) (k : ℕ) {x y : Entry} → (code ≡ k → P x) → P y → P (if eqb code k then x else y)
  row P k here later = if_one P (eqb code k) (λ e. here (eqb-true code k e)) (λ e. later)

  abbrev Is : Entry → Type 0
  Is x = x.command ≡ Present → code ≡ 0xB3

  -- only B3h is the command that presents
  pub present_code : Is (entry_of code)
  unfolding entry_of
  present_code =
      row Is 0x02 (λ e p. cc) (row Is 0x20 (λ e p. cc) (row Is 0x21 (λ e p. cc) (row Is 0x22 (λ e p. cc) (row Is 0x23 (λ e p. cc) (
      row Is 0x24 (λ e p. cc) (row Is 0x25 (λ e p. cc) (row Is 0x26 (λ e p. cc) (row Is 0x27 (λ e p. cc) (row Is 0x28 (λ e p. cc) (
      row Is 0x29 (λ e p. cc) (row Is 0x2A (λ e p. cc) (row Is 0x2C (λ e p. cc) (row Is 0x30 (λ e p. cc) (row Is 0x31 (λ e p. cc) (
      row Is 0x32 (λ e p. cc) (row Is 0x33 (λ e p. cc) (row Is 0x34 (λ e p. cc) (row Is 0x3C (λ e p. cc) (row Is 0xA0 (λ e p. cc) (
      row Is 0xA1 (λ e p. cc) (row Is 0xB1 (λ e p. cc) (row Is 0xB3 (λ e p. e) (λ p. cc)))))))))))))))))))))))
