-- A request's frame: its bytes, and their CRC after them.
-- Assumes nothing.
use mathlib.Core.Path.{◌≡◌, ap, ◌∙◌}
use mathlib.Core.List.{List}
use Prim.Native.Nat.{ℕ, ◌+◌, ◌≤◌}
use native.Mathlib.Omega.{arith}
use lib.ListN.{length, get_or, set, take, length-append}
use Rattle.put.specs.Put.{Put}
use Rattle.put.proofs.Written.{store, whole}
use Rattle.crc.specs.Crc.{crc_bytes}
use Rattle.tag.specs.Step.{sealed}
use Rattle.text.proofs.Pieces.{one_next, begun, put_there}

-- two bytes that are the CRC of what was put go after it
module _ {v out₀ out c : List ℕ} {at : ℕ} (p : Put v out₀ out at) (h : length v + 2 ≤ length out₀) (e : c ≡ crc_bytes (take at out)) where
  pub sealed_put : Put (sealed v) out₀ (set (set out at (get_or c 0 0)) (at + 1) (get_or c 1 0)) (at + 2)
  unfolding crc_bytes
  sealed_put =
      let two : at + 2 ≡ at + 1 + 1 = omega arith in
      let f : c ≡ crc_bytes v = e ∙ ap crc_bytes (put_there p) in
      rw (two, f) (whole (store _ (one_next (store _ (one_next (begun (crc_bytes v) p (simp length-append h)))))))
