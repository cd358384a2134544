-- Each command, decided from all of the record but the passwords, and without the memory.
-- Assumes nothing.
use Rattle.std.specs.Prelude.{ℕ, ◌+◌, Bool, true, false, ◌&&◌, List, [], ◌∷◌, get_or, if◌then◌else◌, Result, Ok, Err}
use Rattle.put.specs.Number.{number_at}
use Rattle.rights.specs.declared.View.{View}
use Rattle.rights.specs.Verdict.{Verdict}
use Rattle.rights.specs.Passwords.{change_verdict}
use Rattle.rights.specs.Registers.{register_at, register_verdict}
use Rattle.record.specs.declared.Front.{Front}
use Rattle.record.specs.declared.State.TheVariants.{Ready, Quiet, Selected}
use Rattle.record.specs.Update.{with_state}
use Rattle.tag.specs.declared.Command.{Command}
use Rattle.tag.specs.declared.Command.TheVariants.{StayQuiet, Read, Write, Lock, Select, ResetToReady, WriteAfi, LockAfi, WriteDsfid, LockDsfid, Status, ReadRegister, WriteRegister, WritePassword, Present, Unlisted}
use Rattle.tag.specs.declared.OptionRule.{OptionRule}
use Rattle.tag.specs.declared.OptionRule.TheVariants.{Refused, Taken, Holds}
use Rattle.tag.specs.declared.Entry.{Entry}
use Rattle.tag.specs.Rules.{last_end}
use Rattle.tag.specs.Table.{first_of, more_of, data_of, limit_of}
use Rattle.tag.specs.Work.{silence, verdict, body, error, afi, dsfid, afi_lock, dsfid_lock, register, password, Act, says, presents, writes, Work}
use Rattle.tag.specs.Blocks.{granted, read_of, status_of, write_of, lock_of}

-- the state after a command: "Select 25h (Selected), Reset to Ready 26h (Ready) .. Stay Quiet 02h gives Quiet"
abbrev pub front_after : Command → Front → Front
front_after StayQuiet t = with_state t Quiet
front_after Read t = t
front_after Write t = t
front_after Lock t = t
front_after Select t = with_state t Selected
front_after ResetToReady t = with_state t Ready
front_after WriteAfi t = t
front_after LockAfi t = t
front_after WriteDsfid t = t
front_after LockDsfid t = t
front_after Status t = t
front_after ReadRegister t = t
front_after WriteRegister t = t
front_after WritePassword t = t
front_after Present t = t
front_after Unlisted t = t

-- "Write AFI 27h, DSFID 29h: locked 12h. Lock AFI 28h, DSFID 2Ah: locked already 11h."
abbrev pub unless : Bool → ℕ → Verdict
unless locked code = if locked then Err code else Ok tt

-- the error of a read, or the register's byte
abbrev pub register_answer : Result ℕ ℕ → Act
register_answer (Err c) = says (error c)
register_answer (Ok x) = says (body (x ∷ []))

-- what a command does, on a tag of so many blocks; its fields begin with a block, an address, a password's number or a byte
unfoldable pub act_of : Command → Front → View → ℕ → Entry → Bool → List ℕ → Act
act_of StayQuiet t v blocks e option fields = says silence
act_of Read t v blocks e option fields =
    read_of v (limit_of e blocks) (first_of e fields) (more_of e fields + 1) option
act_of Write t v blocks e option fields =
    write_of v (limit_of e blocks) (first_of e fields) (more_of e fields) (data_of e fields)
act_of Lock t v blocks e option fields = lock_of v (first_of e fields)
act_of Select t v blocks e option fields = says (verdict (Ok tt))
act_of ResetToReady t v blocks e option fields = says (verdict (Ok tt))
act_of WriteAfi t v blocks e option fields = granted (unless t.lockafi 0x12) (writes (afi (get_or fields 0 0) ∷ []))
act_of LockAfi t v blocks e option fields = granted (unless t.lockafi 0x11) (writes (afi_lock ∷ []))
act_of WriteDsfid t v blocks e option fields = granted (unless t.lockdsfid 0x12) (writes (dsfid (get_or fields 0 0) ∷ []))
act_of LockDsfid t v blocks e option fields = granted (unless t.lockdsfid 0x11) (writes (dsfid_lock ∷ []))
act_of Status t v blocks e option fields =
    status_of v (limit_of e blocks) (first_of e fields) (more_of e fields + 1)
act_of ReadRegister t v blocks e option fields = register_answer (register_at v (get_or fields 0 0))
act_of WriteRegister t v blocks e option fields =
    granted (register_verdict (last_end blocks) v (get_or fields 0 0) (get_or fields 1 0))
    (writes (register (get_or fields 0 0) (get_or fields 1 0) ∷ []))
act_of WritePassword t v blocks e option fields =
    granted (change_verdict v.session (get_or fields 0 0)) (writes (password (get_or fields 0 0) (number_at 8 fields 1) ∷ []))
act_of Present t v blocks e option fields = presents (get_or fields 0 0) (number_at 8 fields 1)
act_of Unlisted t v blocks e option fields = says (error 0x02)

abbrev pub is_holding : OptionRule → Bool
is_holding Refused = false
is_holding Taken = false
is_holding Holds = true

-- "Option_flag on a write-like command .. does the work at once and holds the answer"
unfoldable pub request_of : Front → View → ℕ → Entry → Bool → List ℕ → Work
request_of t v blocks e option fields = record {
  front = front_after e.command t;
  hold = option && is_holding e.option;
  act = act_of e.command t v blocks e option fields;
}
