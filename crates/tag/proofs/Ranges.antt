-- Numbers in their ranges: of a record, of what an act writes and says, and of what `perform` gives.
-- Assumes nothing.
use Prim.Native.Nat.{ℕ, zero, suc, ◌+◌, ◌*◌, ◌^◌, ◌<◌}
use mathlib.Core.Path.{◌≡◌, ◌∙◌}
use mathlib.Core.Bool.{Bool, true, false, ◌&&◌, ◌||◌}
use mathlib.Core.List.{List, [], ◌∷◌}
use native.Mathlib.Omega.{arith}
use lib.ListN.{length-set}
use lib.Dec.{leb, ltb, eqb}
use borrow.Author.Tests.{leb-true, eqb-true}
use Rattle.std.specs.Prelude.{Option, Some, None, Ok, Err}
use Rattle.put.proofs.Bytes.{Bytes, none, more, below_append, below_take, below_drop, below_set, below_sets}
use Rattle.rights.specs.declared.View.{View}
use Rattle.rights.specs.Verdict.{Verdict}
use Rattle.rights.specs.Vault.{view_of}
use Rattle.rights.specs.Passwords.{present_of}
use Rattle.rights.specs.Blocks.{readable_at}
use Rattle.rights.proofs.Cases.{if_one, or_one, both}
use Rattle.rights.proofs.Sessions.{present_keeps}
use Rattle.rights.proofs.Ranges.{status_byte, RangedVault, register_ranged}
use Rattle.record.specs.declared.Front.{Front}
use Rattle.record.specs.declared.Tag.{Tag}
use Rattle.record.specs.declared.State.{State}
use Rattle.record.specs.declared.Round.{Round}
use Rattle.record.specs.Update.{with_state, with_round, with_held, passing_cleared}
use Rattle.tag.specs.Rules.{is_code, held_rule}
use Rattle.tag.specs.Work.{Answer, verdict, Unit, block, register, afi, dsfid, block_lock, afi_lock, dsfid_lock, password, Act, says, lists, presents, writes, closes, block_shown, listing, unit_on_tag, unit_on_memory, apply_to_tag, apply_to_memory, Done, perform}
use Rattle.tag.proofs.Lengths.{carried}
use Rattle.tag.proofs.Codes.{Coded, present_coded}

-- ---- a record

abbrev pub round_bytes : Option Round → List ℕ
round_bytes None = []
round_bytes (Some o) = o.slot ∷ o.mask ∷ []

abbrev pub held_bytes : Option Verdict → List ℕ
held_bytes None = []
held_bytes (Some v) = carried (verdict v)

pub record RangedFront (f : Front) : Type 0 where
  pub uid : f.uid < 2 ^ 64
  pub afi : f.afi < 256
  pub dsfid : f.dsfid < 256
  pub round : Bytes (round_bytes f.round)
  pub held : Bytes (held_bytes f.held)

-- the vault's ranges are those of the crate rights: registers are bytes, and of passwords there are four, each of 64 bits
pub record Ranged (t : Tag) : Type 0 where
  pub front : RangedFront t.front
  pub vault : RangedVault t.vault

-- ---- a front with parts changed

module _ {f : Front} (r : RangedFront f) where
  pub state_ranged : (s : State) → RangedFront (with_state f s)
  state_ranged s = record { uid = r.uid; afi = r.afi; dsfid = r.dsfid; round = r.round; held = r.held }

  pub round_ranged : (x : Option Round) → Bytes (round_bytes x) → RangedFront (with_round f x)
  round_ranged x p = record { uid = r.uid; afi = r.afi; dsfid = r.dsfid; round = p; held = r.held }

  pub held_ranged : (x : Option Verdict) → Bytes (held_bytes x) → RangedFront (with_held f x)
  held_ranged x p = record { uid = r.uid; afi = r.afi; dsfid = r.dsfid; round = r.round; held = p }

  pub cleared_ranged : (on : Bool) → RangedFront (passing_cleared f on)
  cleared_ranged on = record { uid = r.uid; afi = r.afi; dsfid = r.dsfid; round = none; held = none }

-- ---- what is written, and said

pub data RangedUnit : Unit → Type 0 where
  block_in : {b : ℕ} {bytes : List ℕ} → Bytes bytes → RangedUnit (block b bytes)
  register_in : {address x : ℕ} → x < 256 → RangedUnit (register address x)
  afi_in : {x : ℕ} → x < 256 → RangedUnit (afi x)
  dsfid_in : {x : ℕ} → x < 256 → RangedUnit (dsfid x)
  block_lock_in : (second : Bool) → RangedUnit (block_lock second)
  afi_lock_in : RangedUnit afi_lock
  dsfid_lock_in : RangedUnit dsfid_lock
  password_in : {n w : ℕ} → w < 2 ^ 64 → RangedUnit (password n w)

pub data RangedUnits : List Unit → Type 0 where
  no_unit : RangedUnits []
  unit_and : {u : Unit} {us : List Unit} → RangedUnit u → RangedUnits us → RangedUnits (u ∷ us)

pub data RangedAct : Act → Type 0 where
  says_in : {a : Answer} → Bytes (carried a) → RangedAct (says a)
  lists_in : {limit first count : ℕ} {status : Bool} → RangedAct (lists limit first count status)
  presents_in : {n w : ℕ} → RangedAct (presents n w)
  writes_in : {us : List Unit} → RangedUnits us → RangedAct (writes us)
  closes_in : RangedAct closes

-- a code of document 01 is a byte
code_byte_lem : (c : ℕ) → is_code c ≡ true → c < 256
unfolding is_code
code_byte_lem c h =
    or_one (eqb c 0x02 || eqb c 0x03) (leb 0x0F c && leb c 0x15) h
    (λ e. or_one (eqb c 0x02) (eqb c 0x03) e (λ k. omega (arith, eqb-true c 0x02 k)) (λ k. omega (arith, eqb-true c 0x03 k)))
    (λ e. omega (arith, leb-true c 0x15 (both (leb 0x0F c) (leb c 0x15) e).1))

pub verdict_bytes : (v : Verdict) → Coded v → Bytes (carried (verdict v))
unfolding held_rule
verdict_bytes (Ok tt) h = none
verdict_bytes (Err c) h = more (code_byte_lem c h) none

-- ---- units

module _ {t : Tag} (r : Ranged t) where
  abbrev front : RangedFront t.front
  front = r.front

  abbrev vault : RangedVault t.vault
  vault = r.vault

  unit_ranged : {u : Unit} → RangedUnit u → Ranged (unit_on_tag u t)
  unit_ranged (block_in p) = r
  unit_ranged (register_in {address} {x} h) = record { front = front; vault = register_ranged t.vault address x h vault }
  unit_ranged (afi_in h) =
      record { front = record { uid = front.uid; afi = h; dsfid = front.dsfid; round = front.round; held = front.held }; vault = vault }
  unit_ranged (dsfid_in h) =
      record { front = record { uid = front.uid; afi = front.afi; dsfid = h; round = front.round; held = front.held }; vault = vault }
  unit_ranged (block_lock_in true) =
      record { front = front; vault = record { bytes = vault.bytes; four = vault.four; passwords = vault.passwords } }
  unit_ranged (block_lock_in false) =
      record { front = front; vault = record { bytes = vault.bytes; four = vault.four; passwords = vault.passwords } }
  unit_ranged afi_lock_in =
      record { front = record { uid = front.uid; afi = front.afi; dsfid = front.dsfid; round = front.round; held = front.held }; vault = vault }
  unit_ranged dsfid_lock_in =
      record { front = record { uid = front.uid; afi = front.afi; dsfid = front.dsfid; round = front.round; held = front.held }; vault = vault }
  unit_ranged (password_in {n} {w} h) =
      record {
        front = front;
        vault = record { bytes = vault.bytes; four = length-set t.vault.keys.passwords n w ∙ vault.four; passwords = below_set n h vault.passwords };
      }

unit_bytes : {u : Unit} {m : List ℕ} → RangedUnit u → Bytes m → Bytes (unit_on_memory u m)
unit_bytes (block_in {b} p) q = below_sets (4 * b) p q
unit_bytes (register_in h) q = q
unit_bytes (afi_in h) q = q
unit_bytes (dsfid_in h) q = q
unit_bytes (block_lock_in second) q = q
unit_bytes afi_lock_in q = q
unit_bytes dsfid_lock_in q = q
unit_bytes (password_in h) q = q

units_ranged : {us : List Unit} {t : Tag} → RangedUnits us → Ranged t → Ranged (apply_to_tag us t)
unfolding apply_to_tag
units_ranged no_unit r = r
units_ranged (unit_and h hs) r = units_ranged hs (unit_ranged r h)

units_bytes : {us : List Unit} {m : List ℕ} → RangedUnits us → Bytes m → Bytes (apply_to_memory us m)
unfolding apply_to_memory
units_bytes no_unit q = q
units_bytes (unit_and h hs) q = units_bytes hs (unit_bytes h q)

-- ---- what reads show

shown_bytes : (v : View) {m : List ℕ} (b : ℕ) (status : Bool) → Bytes m → Bytes (block_shown v m b status)
shown_bytes v b true q = more (status_byte v b) (below_take 4 (below_drop (4 * b) q))
shown_bytes v b false q = below_take 4 (below_drop (4 * b) q)

listing_bytes : (v : View) {m : List ℕ} (limit b n : ℕ) (status : Bool) → Bytes m → Bytes (listing v m limit b n status)
unfolding listing
listing_bytes v limit b zero status q = none
listing_bytes v limit b (suc n) status q =
    if_one Bytes (ltb b limit && readable_at v b) (λ e. below_append (shown_bytes v b status q) (listing_bytes v limit (b + 1) n status q)) (λ e. none)

-- ---- the gate

pub record RangedDone (d : Done) : Type 0 where
  pub answer : Bytes (carried d.answer)
  pub tag : Ranged d.tag
  pub memory : Bytes d.memory

pub perform_ranged : {t : Tag} {m : List ℕ} {a : Act} → Ranged t → Bytes m → RangedAct a → RangedDone (perform t m a)
unfolding perform
perform_ranged r q (says_in p) = record { answer = p; tag = r; memory = q }
perform_ranged {t} r q (lists_in {limit} {first} {count} {status}) =
    record { answer = listing_bytes (view_of t.vault) limit first count status q; tag = r; memory = q }
perform_ranged {t} r q (presents_in {n} {w}) =
    let same = present_keeps t.vault.keys n w in
    record {
      answer = verdict_bytes (present_of t.vault.keys n w).answer (present_coded t.vault.keys n w);
      tag = record {
        front = r.front;
        vault = record { bytes = r.vault.bytes; four = rw same r.vault.four; passwords = rw same r.vault.passwords };
      };
      memory = q;
    }
perform_ranged r q (writes_in h) = record { answer = none; tag = units_ranged h r; memory = units_bytes h q }
perform_ranged r q closes_in =
    record {
      answer = none;
      tag = record {
        front = r.front;
        vault = record { bytes = r.vault.bytes; four = r.vault.four; passwords = r.vault.passwords };
      };
      memory = q;
    }
