-- The rows of the command table that write: their fields hold the bytes of their blocks.
-- Assumes nothing.
use mathlib.Core.Path.{◌≡◌, refl}
use mathlib.Core.Bool.{Bool}
use mathlib.Core.List.{List}
use Prim.Native.Nat.{ℕ, ◌+◌, ◌*◌}
use native.Mathlib.Omega.{arith}
use lib.Dec.{eqb}
use Rattle.std.specs.Prelude.{if◌then◌else◌}
use Rattle.rights.proofs.Cases.{if_one}
use Rattle.tag.specs.declared.Command.TheVariants as command
use Rattle.tag.specs.declared.Entry.{Entry}
use Rattle.tag.specs.Table.{entry_of, more_of, head_of, length_of}
use Rattle.tag.specs.Frame.{code_of, fields_from}
use Rattle.frame.proofs.Requested.{Requested}
use Rattle.step.specs.Gives.{DataThere}

-- every row of a write has fields as long as block number, count and the blocks' bytes
record Whole (fields : List ℕ) (e : Entry) : Type 0 where
  is : e.command ≡ command.Write → length_of e fields ≡ head_of e + 4 * (more_of e fields + 1)

write_whole : (fields : List ℕ) (code : ℕ) → Whole fields (entry_of code)
unfolding entry_of length_of head_of more_of
write_whole fields code =
    row 0x02 (record { is = λ h. no (cc) })
    (row 0x20 (record { is = λ h. no (cc) })
    (row 0x21 (record { is = λ h. refl })
    (row 0x22 (record { is = λ h. no (cc) })
    (row 0x23 (record { is = λ h. no (cc) })
    (row 0x24 (record { is = λ h. refl })
    (row 0x25 (record { is = λ h. no (cc) })
    (row 0x26 (record { is = λ h. no (cc) })
    (row 0x27 (record { is = λ h. no (cc) })
    (row 0x28 (record { is = λ h. no (cc) })
    (row 0x29 (record { is = λ h. no (cc) })
    (row 0x2A (record { is = λ h. no (cc) })
    (row 0x2C (record { is = λ h. no (cc) })
    (row 0x30 (record { is = λ h. no (cc) })
    (row 0x31 (record { is = λ h. refl })
    (row 0x32 (record { is = λ h. no (cc) })
    (row 0x33 (record { is = λ h. no (cc) })
    (row 0x34 (record { is = λ h. refl })
    (row 0x3C (record { is = λ h. no (cc) })
    (row 0xA0 (record { is = λ h. no (cc) })
    (row 0xA1 (record { is = λ h. no (cc) })
    (row 0xB1 (record { is = λ h. no (cc) })
    (row 0xB3 (record { is = λ h. no (cc) })
    (record { is = λ h. no (cc) })))))))))))))))))))))))
  where
    row : (n : ℕ) {x y : Entry} → Whole fields x → Whole fields y → Whole fields (if eqb code n then x else y)
    row n p q = if_one (Whole fields) (eqb code n) (λ e. p) (λ e. q)

    no : {a b : ℕ} → ◌≡◌ {A = ℕ} 0 1 → a ≡ b
    no z = absurd (omega arith)

pub data_there : {f : List ℕ} {e : Entry} {o : Bool} {start : ℕ} → Requested f e o start → DataThere e (fields_from start f)
data_there {f} {e} {o} {start} r h =
    let w : Whole (fields_from start f) e = rw r.entry (write_whole (fields_from start f) (code_of f)) in
    omega (arith, w.is h, r.sized)
