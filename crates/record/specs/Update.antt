-- A record with one part of it changed.
-- Assumes nothing.
use Rattle.std.specs.Prelude.{ℕ, Bool, true, Option, Some, None}
use Rattle.rights.specs.Verdict.{Verdict}
use Rattle.rights.specs.declared.Keys.{Keys}
use Rattle.rights.specs.declared.Session.TheVariants as session
use Rattle.rights.specs.declared.Vault.{Vault}
use Rattle.record.specs.declared.Front.{Front}
use Rattle.record.specs.declared.Tag.{Tag}
use Rattle.record.specs.declared.State.{State}
use Rattle.record.specs.declared.State.TheVariants.{Ready}
use Rattle.record.specs.declared.Round.{Round}

-- an inventory round: the running slot, and the mask length that it was opened with
abbrev pub running : ℕ → ℕ → Option Round
running slot mask = Some (record { slot = slot; mask = mask })

abbrev pub with_state : Front → State → Front
with_state f s = record { uid = f.uid; afi = f.afi; dsfid = f.dsfid; lockafi = f.lockafi; lockdsfid = f.lockdsfid; field = f.field; state = s; round = f.round; held = f.held }

abbrev pub with_round : Front → Option Round → Front
with_round f r = record { uid = f.uid; afi = f.afi; dsfid = f.dsfid; lockafi = f.lockafi; lockdsfid = f.lockdsfid; field = f.field; state = f.state; round = r; held = f.held }

abbrev pub with_held : Front → Option Verdict → Front
with_held f h = record { uid = f.uid; afi = f.afi; dsfid = f.dsfid; lockafi = f.lockafi; lockdsfid = f.lockdsfid; field = f.field; state = f.state; round = f.round; held = h }

abbrev pub with_afi : Front → ℕ → Front
with_afi f a = record { uid = f.uid; afi = a; dsfid = f.dsfid; lockafi = f.lockafi; lockdsfid = f.lockdsfid; field = f.field; state = f.state; round = f.round; held = f.held }

abbrev pub with_dsfid : Front → ℕ → Front
with_dsfid f d = record { uid = f.uid; afi = f.afi; dsfid = d; lockafi = f.lockafi; lockdsfid = f.lockdsfid; field = f.field; state = f.state; round = f.round; held = f.held }

abbrev pub with_afi_locked : Front → Front
with_afi_locked f = record { uid = f.uid; afi = f.afi; dsfid = f.dsfid; lockafi = true; lockdsfid = f.lockdsfid; field = f.field; state = f.state; round = f.round; held = f.held }

abbrev pub with_dsfid_locked : Front → Front
with_dsfid_locked f = record { uid = f.uid; afi = f.afi; dsfid = f.dsfid; lockafi = f.lockafi; lockdsfid = true; field = f.field; state = f.state; round = f.round; held = f.held }

abbrev pub with_front : Tag → Front → Tag
with_front t f = record { front = f; vault = t.vault }

abbrev pub with_vault : Tag → Vault → Tag
with_vault t v = record { front = t.front; vault = v }

abbrev pub with_keys : Vault → Keys → Vault
with_keys v k = record { areas = v.areas; lock0 = v.lock0; lock1 = v.lock1; lockcfg = v.lockcfg; keys = k }

-- "Field off clears passing parts; field on gives Ready": state, round and held answer, of a front whose field comes or goes
abbrev pub passing_cleared : Front → Bool → Front
passing_cleared f on = record { uid = f.uid; afi = f.afi; dsfid = f.dsfid; lockafi = f.lockafi; lockdsfid = f.lockdsfid; field = on; state = Ready; round = None; held = None }

-- "Field off clears passing parts": of a vault the open session
abbrev pub sessionless : Vault → Vault
sessionless v = with_keys v (record { passwords = v.keys.passwords; session = None })
