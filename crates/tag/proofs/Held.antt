-- "Option_flag on a write-like command .. does the work at once and holds the answer, error or success": what is held is a verdict. No
-- command whose answer is held gives silence or a body.
-- Assumes nothing.
use Prim.Native.Nat.{ℕ}
use mathlib.Core.Path.{◌≡◌, refl}
use mathlib.Core.Bool.{Bool, true, false}
use mathlib.Core.List.{List, []}
use native.Mathlib.Omega.{arith}
use Rattle.std.specs.Prelude.{Some, Ok}
use Rattle.rights.specs.declared.View.{View}
use Rattle.rights.specs.Verdict.{Verdict}
use Rattle.rights.specs.Vault.{view_of}
use Rattle.record.specs.declared.Tag.{Tag}
use Rattle.record.specs.Update.{with_front}
use Rattle.tag.specs.declared.Command.{Command}
use Rattle.tag.specs.declared.Command.TheVariants.{StayQuiet, Read, Write, Lock, Select, ResetToReady, WriteAfi, LockAfi, WriteDsfid, LockDsfid, Status, ReadRegister, WriteRegister, WritePassword, Present, Unlisted}
use Rattle.tag.specs.declared.OptionRule.TheVariants.{Refused, Holds}
use Rattle.tag.specs.declared.Entry.{Entry}
use Rattle.tag.specs.Rules.{blocks_of}
use Rattle.tag.specs.Table.{entry_of}
use Rattle.tag.specs.Frame.{option_flag, code_of, fields_at, fields_from, Passes}
use Rattle.tag.specs.Work.{verdict, Act, Work, perform}
use Rattle.tag.specs.Commands.{front_after, is_holding, request_of}
use Rattle.tag.specs.Step.{request, dropped, Stepped, performed, step}
use Rattle.tag.proofs.Rows.{row}
use Rattle.tag.proofs.Came.{Asked, asked, request_work}
use Rattle.tag.proofs.Came as shape
use Rattle.tag.proofs.Presented.{passes_heard}

-- ---- a write-like command

abbrev write_like : Command → Bool
write_like StayQuiet = false
write_like Read = false
write_like Write = true
write_like Lock = true
write_like Select = false
write_like ResetToReady = false
write_like WriteAfi = true
write_like LockAfi = true
write_like WriteDsfid = true
write_like LockDsfid = true
write_like Status = false
write_like ReadRegister = false
write_like WriteRegister = true
write_like WritePassword = true
write_like Present = false
write_like Unlisted = false

-- an act whose answer is a verdict
record Judged (t : Tag) (m : List ℕ) (a : Act) : Type 0 where
  given : Verdict
  is : (perform t m a).answer ≡ verdict given

judged : (t : Tag) (m : List ℕ) {v : View} {blocks : ℕ} {fields : List ℕ} {c : Command} {a : Act}
    → write_like c ≡ true → Asked v blocks fields c a → Judged t m a
unfolding perform
judged t m h (shape.told d k) = record { given = d; is = refl }
judged t m h shape.quiet = let z : ◌≡◌ {A = ℕ} 0 1 = cc in absurd (omega arith)
judged t m h (shape.shows address x k) = let z : ◌≡◌ {A = ℕ} 0 1 = cc in absurd (omega arith)
judged t m h (shape.listed limit first count status k) = let z : ◌≡◌ {A = ℕ} 0 1 = cc in absurd (omega arith)
judged t m h (shape.states limit first count k) = let z : ◌≡◌ {A = ℕ} 0 1 = cc in absurd (omega arith)
judged t m h shape.presented = let z : ◌≡◌ {A = ℕ} 0 1 = cc in absurd (omega arith)
judged t m h (shape.blocks_written e first n k) = record { given = Ok tt; is = refl }
judged t m h (shape.block_locked b) = record { given = Ok tt; is = refl }
judged t m h shape.afi_written = record { given = Ok tt; is = refl }
judged t m h shape.afi_locked = record { given = Ok tt; is = refl }
judged t m h shape.dsfid_written = record { given = Ok tt; is = refl }
judged t m h shape.dsfid_locked = record { given = Ok tt; is = refl }
judged t m h (shape.register_written address k) = record { given = Ok tt; is = refl }
judged t m h (shape.password_written n k) = record { given = Ok tt; is = refl }

-- ---- by the table, the answers of these alone are held

module _ (code : ℕ) where
  abbrev Is : Entry → Type 0
  Is x = is_holding x.option ≡ write_like x.command

  held_write_like : Is (entry_of code)
  unfolding entry_of
  held_write_like =
      row code Is 0x02 (λ e. refl) (row code Is 0x20 (λ e. refl) (row code Is 0x21 (λ e. refl) (row code Is 0x22 (λ e. refl) (row code Is 0x23 (λ e. refl) (
      row code Is 0x24 (λ e. refl) (row code Is 0x25 (λ e. refl) (row code Is 0x26 (λ e. refl) (row code Is 0x27 (λ e. refl) (row code Is 0x28 (λ e. refl) (
      row code Is 0x29 (λ e. refl) (row code Is 0x2A (λ e. refl) (row code Is 0x2C (λ e. refl) (row code Is 0x30 (λ e. refl) (row code Is 0x31 (λ e. refl) (
      row code Is 0x32 (λ e. refl) (row code Is 0x33 (λ e. refl) (row code Is 0x34 (λ e. refl) (row code Is 0x3C (λ e. refl) (row code Is 0xA0 (λ e. refl) (
      row code Is 0xA1 (λ e. refl) (row code Is 0xB1 (λ e. refl) (row code Is 0xB3 (λ e. refl) refl))))))))))))))))))))))

-- ---- the theorem

-- no answer yet, and a verdict that is held
pub record Withheld (s : Stepped) : Type 0 where
  pub given : Verdict
  pub silent : s.answer ≡ []
  pub kept : s.tag.front.held ≡ Some given

withheld : (t : Tag) (m : List ℕ) (w : Work) → w.hold ≡ true → Judged (with_front t w.front) m w.act → Withheld (performed t m w)
withheld t m w h j = rw (h, j.is) (record { given = j.given; silent = refl; kept = refl })

-- a frame that passes all checks, in the field, with Option_flag, of a command that holds its answer
pub held_verdict : (t : Tag) (m f : List ℕ) → t.front.field ≡ true → Passes t.front f → option_flag f ≡ true → (entry_of (code_of f)).option ≡ Holds
    → Withheld (step t m (request f))
unfolding entry_of request_of step
held_verdict t m f on p flag rule =
    let front = dropped t.front in
    let v = view_of t.vault in
    let e = entry_of (code_of f) in
    let fields = fields_from (fields_at f) f in
    let none : Refused ≡ Holds → ⊥ = λ k. let z : ◌≡◌ {A = ℕ} 0 1 = cc in omega arith in
    let h = passes_heard t.front f (λ (one : code_of f ≡ 0x01). none (rw one at rule)) p in
    let hold : is_holding e.option ≡ true = rw rule in
    let like : write_like e.command ≡ true = cc (held_write_like (code_of f)) in
    let j = judged (with_front t (front_after e.command front)) m like (asked front v (blocks_of m) e (option_flag f) fields e.command) in
    rw (request_work t.front v (blocks_of m) f on h)
    (withheld t m (request_of front v (blocks_of m) e (option_flag f) fields) (rw (flag, hold)) j)
