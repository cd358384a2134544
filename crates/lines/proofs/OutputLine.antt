-- An output line: number, space, what is answered, newline; how it is written, and how long it is.
-- Assumes nothing.
use mathlib.Core.List.{List, [], ◌∷◌, ◌++◌}
use Prim.Native.Nat.{ℕ, ◌+◌, ◌-◌, ◌*◌, ◌≤◌}
use native.Mathlib.Omega.{arith}
use lib.ListN.{length, set, take, drop, length-append}
use Rattle.put.specs.Put.{Put}
use Rattle.put.proofs.Written.{Next, store, more, whole}
use Rattle.text.specs.Text.{hex_or, decimal_of}
use Rattle.lines.specs.Output.{text_of}
use Rattle.text.proofs.Pieces.{one_next, begun}
use Rattle.text.proofs.Texts.{hex_or_most, decimal_length}

module _ (number mark : ℕ) (answer : List ℕ) where
  abbrev text : List ℕ
  text = text_of number mark answer

  -- the number was put
  module _ {out₀ out : List ℕ} {at : ℕ} (h : length text ≤ length out₀) (p : Put (decimal_of number) out₀ out at) where
    space : Next text (0x20 ∷ []) (hex_or mark answer ++ (0x0A ∷ [])) out₀ out at
    unfolding text_of
    space = one_next (begun _ p h)

    answered : Next text (hex_or mark answer) (0x0A ∷ []) out₀ (set out at 0x20) (at + 1)
    answered = record { written = store 0x20 space }

    -- and what is answered, after a space
    module _ {ys : List ℕ} {k : ℕ} (q : Put (hex_or mark answer) (take (length (set out at 0x20) - (at + 1)) (drop (at + 1) (set out at 0x20))) ys k) where
      abbrev line : List ℕ
      line = take (at + 1) (set out at 0x20) ++ (ys ++ drop (length (set out at 0x20) - (at + 1)) (drop (at + 1) (set out at 0x20)))

      newline : Next text (0x0A ∷ []) [] out₀ line (at + 1 + k)
      newline = one_next (more answered q)

      pub line_put : Put text out₀ (set line (at + 1 + k) 0x0A) (at + 1 + k + 1)
      line_put = whole (store 0x0A newline)

  -- an answer of at most n bytes has a line of at most 22 + 2 n
  pub text_most : (n : ℕ) → 1 ≤ n → length answer ≤ n → length text ≤ 22 + 2 * n
  unfolding text_of
  text_most n one h = simp length-append (omega (arith, hex_or_most mark answer n one h, decimal_length 19 number))

  -- the longest answer has a line of 20,508 bytes at most
  pub longest_most : length answer ≤ 10243 → length text ≤ 20508
  longest_most h = text_most 10243 (omega arith) h
