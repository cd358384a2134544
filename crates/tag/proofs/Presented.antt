-- What is presented, in 01's own terms: by a B3h frame that passes all checks, in the field, and by nothing else.
-- Assumes nothing.
use Prim.Native.Nat.{ℕ}
use mathlib.Core.Path.{◌≡◌, refl}
use mathlib.Core.Logic.{◌≢◌}
use mathlib.Core.Bool.{Bool, true, false, not, ◌&&◌, ◌||◌}
use mathlib.Core.List.{List}
use native.Mathlib.Omega.{arith}
use lib.ListN.{get_or}
use borrow.Author.Tests.{ne_eqb}
use Rattle.std.specs.Prelude.{Some, None}
use Rattle.put.specs.Number.{number_at}
use Rattle.rights.specs.declared.View.{View}
use Rattle.rights.specs.Vault.{view_of}
use Rattle.record.specs.declared.Front.{Front}
use Rattle.record.specs.declared.Tag.{Tag}
use Rattle.tag.specs.declared.Command.{Command}
use Rattle.tag.specs.declared.Command.TheVariants.{Present}
use Rattle.tag.specs.declared.Heard.TheVariants as heard
use Rattle.tag.specs.Rules.{blocks_of}
use Rattle.tag.specs.Table.{entry_of}
use Rattle.tag.specs.Frame.{flag_bit, code_of, option_flag, fields_at, other_uid, check4, check6, Passes, heard_of}
use Rattle.tag.specs.Work.{Act, Work}
use Rattle.tag.specs.Commands.{act_of, request_of}
use Rattle.tag.specs.Step.{Event, dropped, frame_of, work_of}
use Rattle.tag.specs.Demand3.{Claim, PresentedBy, in_frame}
use Rattle.tag.specs.Secrecy.{claim_of, presented}
use Rattle.tag.proofs.Rows.{present_code}
use Rattle.tag.proofs.Came.{Asked, InField, Came, came}
use Rattle.tag.proofs.Came as shape

-- ---- whatever is presented came so

-- what presents nothing presents no claim
unsaid : {P : Type 0} {c : Claim} → None ≡ Some c → P
unsaid h = let z : ◌≡◌ {A = ℕ} 0 1 = cc in absurd (omega arith)

-- the claim of a frame's fields
abbrev claim_in : List ℕ → Claim
claim_in fields = record { number = get_or fields 0 0; value = number_at 8 fields 1 }

act_presents : {v : View} {blocks : ℕ} {fields : List ℕ} {k : Command} {a : Act} {c : Claim}
    → Asked v blocks fields k a → claim_of a ≡ Some c → (k ≡ Present) × (claim_in fields ≡ c)
act_presents shape.quiet h = unsaid h
act_presents (shape.told d e) h = unsaid h
act_presents (shape.shows address x e) h = unsaid h
act_presents (shape.listed limit first count status e) h = unsaid h
act_presents (shape.states limit first count e) h = unsaid h
act_presents shape.presented h = (refl, cc)
act_presents (shape.blocks_written n first more e) h = unsaid h
act_presents (shape.block_locked second) h = unsaid h
act_presents shape.afi_written h = unsaid h
act_presents shape.afi_locked h = unsaid h
act_presents shape.dsfid_written h = unsaid h
act_presents shape.dsfid_locked h = unsaid h
act_presents (shape.register_written address e) h = unsaid h
act_presents (shape.password_written n e) h = unsaid h

-- of a front the checks see UID and state alone, so not whether round and held answer are dropped
passes_same : (t u : Front) (f : List ℕ) → t.uid ≡ u.uid → t.state ≡ u.state → Passes t f → Passes u f
unfolding check6 other_uid
passes_same t u f a b p = record {
  two = p.two;
  three = p.three;
  four = p.four;
  five = p.five;
  six = rw (a, b) at p.six;
  seven = p.seven;
  eight = p.eight;
  nine = p.nine;
  ten = p.ten;
}

module _ (t : Tag) (c : Claim) (on : t.front.field ≡ true) where
  field_presents : {v : View} {blocks : ℕ} {e : Event} {w : Work} → InField t.front v blocks e w → claim_of w.act ≡ Some c → PresentedBy t e c
  unfolding request_of
  field_presents shape.unmoved h = unsaid h
  field_presents (shape.given d k) h = unsaid h
  field_presents (shape.moved slot mask k l) h = unsaid h
  field_presents shape.closed h = unsaid h
  field_presents shape.ignored h = unsaid h
  field_presents shape.deselected h = unsaid h
  field_presents (shape.refused x k) h = unsaid h
  field_presents shape.found h = unsaid h
  field_presents (shape.opened u o) h = unsaid h
  field_presents (shape.done {f} p a) h =
      let q = act_presents a h in
      rw (← q.1) (in_frame on (present_code (code_of f) q.0) (passes_same (dropped t.front) t.front f refl refl p))

came_presents : (t : Tag) (c : Claim) {v : View} {blocks : ℕ} {e : Event} {w : Work}
    → Came t.front v blocks e w → claim_of w.act ≡ Some c → PresentedBy t e c
came_presents t c shape.nothing h = unsaid h
came_presents t c (shape.cleared on) h = unsaid h
came_presents t c (shape.inside on i) h = field_presents t c on i h

-- ---- and each such frame is presented

-- check 4 keeps Inventory_flag from a frame of another code
no_inventory : (f : List ℕ) → code_of f ≢ 0x01 → check4 f ≡ false → flag_bit 3 f ≡ false
unfolding check4
no_inventory f other four = go (flag_bit 3 f) (rw (ne_eqb (code_of f) 0x01 other) at four)
  where
    go : (b : Bool) → ((b && true) || (not b && false)) ≡ false → b ≡ false
    go true h = let z : ◌≡◌ {A = ℕ} 0 1 = cc in absurd (omega arith)
    go false h = refl

-- a frame that passes all checks, and is not of 01h, is heard as a request
pub passes_heard : (t : Front) (f : List ℕ) → code_of f ≢ 0x01 → Passes t f
    → heard_of (dropped t) f ≡ heard.Request (entry_of (code_of f)) (option_flag f) (fields_at f)
unfolding heard_of
passes_heard t f other p =
    let q = passes_same t (dropped t) f refl refl p in
    rw (q.two, q.three, q.four, no_inventory f other q.four, q.five, q.six, q.seven, q.eight, q.nine, q.ten)

frame_presents : (t : Tag) (m : List ℕ) {e : Event} {c : Claim} → PresentedBy t e c → presented t m e ≡ Some c
unfolding presented work_of frame_of request_of act_of entry_of
frame_presents t m (in_frame {f} on code p) = rw (passes_heard t.front f (λ e. omega arith) p, code, on)

-- ---- the law

pub presented_means : (t : Tag) (m : List ℕ) (e : Event) (c : Claim)
    → (presented t m e ≡ Some c → PresentedBy t e c) × (PresentedBy t e c → presented t m e ≡ Some c)
unfolding presented
presented_means t m e c = (came_presents t c (came t.front (view_of t.vault) (blocks_of m) e), frame_presents t m)
