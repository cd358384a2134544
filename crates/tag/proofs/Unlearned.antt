-- What the chosen passwords guard is not learned without them: two tags that are alike answer alike and stay alike, at one event.
-- Assumes nothing.
use Prim.Native.Nat.{ℕ, zero, suc, ◌+◌, ◌*◌, ◌/◌}
use mathlib.Core.Path.{◌≡◌, refl, ap, ◌∙◌, subst}
use mathlib.Core.Bool.{Bool, true, false, ◌&&◌, ◌||◌}
use mathlib.Core.List.{List, [], ◌∷◌, ◌++◌}
use native.Mathlib.Omega.{arith}
use lib.Dec.{ltb, eqb}
use Rattle.std.specs.Prelude.{if◌then◌else◌, Some, None}
use Rattle.rights.specs.declared.View.{View}
use Rattle.rights.specs.Vault.{view_of}
use Rattle.rights.specs.Passwords.{password_of}
use Rattle.rights.specs.Blocks.{readable_at, status_at}
use Rattle.rights.proofs.Cases.{both}
use Rattle.rights.proofs.Sessions.{present_keeps}
use Rattle.rights.proofs.HiddenBlocks.{readable_unhidden, present_same}
use Rattle.record.specs.declared.Front.{Front}
use Rattle.record.specs.declared.Tag.{Tag}
use Rattle.record.specs.Update.{with_afi, with_dsfid, with_afi_locked, with_dsfid_locked, with_front, with_held}
use Rattle.tag.specs.Rules.{blocks_of}
use Rattle.tag.specs.Work.{Answer, silence, verdict, body, Unit, block, register, afi, dsfid, block_lock, afi_lock, dsfid_lock, password, Act, says, lists, presents, writes, closes, Work, shown, block_shown, listing, unit_on_tag, unit_on_memory, apply_to_tag, apply_to_memory, Done, perform}
use Rattle.tag.specs.Step.{Event, Stepped, settled, performed, work_of, step}
use Rattle.tag.specs.Secrecy.{hidden, Shut, claim_of, presented, opens, SameBut, Alike}
use Rattle.tag.proofs.Alike.{set_same, sets_same, part_same}
use Rattle.tag.proofs.Unchanged.{kept_unit}
use Rattle.tag.proofs.Harmless.{harmless, all_harmless, harmless_act, chosen_guards, work_harmless}

module _ (chosen : ℕ → Bool) where
  -- ---- reads

  module _ (v : View) (shut : Shut chosen v.session) (m o : List ℕ) (same : SameBut (hidden chosen v.areas) m o) where
    shown_same : (b : ℕ) → readable_at v b ≡ true → shown m b ≡ shown o b
    shown_same b r =
        let unhidden = readable_unhidden chosen v (λ n e. shut.closed n (chosen_guards chosen n e)) b r in
        part_same (hidden chosen v.areas) (4 * b) 4 same (λ i p q. let d : i / 4 ≡ b = omega arith in rw d unhidden)

    block_same : (b : ℕ) (status : Bool) → readable_at v b ≡ true → block_shown v m b status ≡ block_shown v o b status
    block_same b true r = ap (λ (s : List ℕ). status_at v b ∷ s) (shown_same b r)
    block_same b false r = shown_same b r

    abbrev ListedSame : ℕ → ℕ → ℕ → Bool → Type 0
    ListedSame limit b n status = listing v m limit b n status ≡ listing v o limit b n status

    listing_same : (limit b n : ℕ) (status : Bool) → ListedSame limit b n status
    unfolding listing
    listing_same limit b zero status = refl
    listing_same limit b (suc n) status = go (ltb b limit) (readable_at v b) refl (listing_same limit (b + 1) n status)
      where
        go : (p r : Bool) → readable_at v b ≡ r → ListedSame limit (b + 1) n status
            → (if p && r then block_shown v m b status ++ listing v m limit (b + 1) n status else [])
            ≡ (if p && r then block_shown v o b status ++ listing v o limit (b + 1) n status else [])
        go true true e rest = rw (block_same b status e, rest)
        go true false e rest = refl
        go false r e rest = refl

  -- ---- writes

  -- where only the fronts become others, and equal ones
  fronts : (t u : Tag) (m o : List ℕ) (f g : Front) → f ≡ g → Alike chosen t u m o → Alike chosen (with_front t f) (with_front u g) m o
  fronts t u m o f g e a = record { front = e; view = a.view; passwords = a.passwords; memory = a.memory }

  alike_unit : (x : Unit) (t u : Tag) (m o : List ℕ) → harmless chosen t.vault.areas x ≡ true → Alike chosen t u m o
      → Alike chosen (unit_on_tag x t) (unit_on_tag x u) (unit_on_memory x m) (unit_on_memory x o)
  unfolding harmless
  alike_unit (block b bytes) t u m o h a =
      record { front = a.front; view = a.view; passwords = a.passwords; memory = sets_same (4 * b) bytes a.memory }
  alike_unit (register address x) t u m o h a = let z : ◌≡◌ {A = ℕ} 0 1 = cc in absurd (omega arith)
  alike_unit (afi x) t u m o h a = fronts t u m o _ _ (ap (λ (f : Front). with_afi f x) a.front) a
  alike_unit (dsfid x) t u m o h a = fronts t u m o _ _ (ap (λ (f : Front). with_dsfid f x) a.front) a
  alike_unit (block_lock true) t u m o h a = record {
    front = a.front;
    view = ap (λ (v : View). record { areas = v.areas; lock0 = v.lock0; lock1 = true; lockcfg = v.lockcfg; session = v.session }) a.view;
    passwords = a.passwords;
    memory = a.memory;
  }
  alike_unit (block_lock false) t u m o h a = record {
    front = a.front;
    view = ap (λ (v : View). record { areas = v.areas; lock0 = true; lock1 = v.lock1; lockcfg = v.lockcfg; session = v.session }) a.view;
    passwords = a.passwords;
    memory = a.memory;
  }
  alike_unit afi_lock t u m o h a = fronts t u m o _ _ (ap with_afi_locked a.front) a
  alike_unit dsfid_lock t u m o h a = fronts t u m o _ _ (ap with_dsfid_locked a.front) a
  alike_unit (password n w) t u m o h a =
      record { front = a.front; view = a.view; passwords = set_same n w a.passwords; memory = a.memory }

  alike_units : (us : List Unit) (t u : Tag) (m o : List ℕ)
      → Shut chosen t.vault.keys.session → all_harmless chosen t.vault.areas us ≡ true → Alike chosen t u m o
      → Alike chosen (apply_to_tag us t) (apply_to_tag us u) (apply_to_memory us m) (apply_to_memory us o)
  unfolding all_harmless apply_to_tag apply_to_memory
  alike_units [] t u m o shut h a = a
  alike_units (x ∷ us) t u m o shut h a =
      let each = both (harmless chosen t.vault.areas x) (all_harmless chosen t.vault.areas us) h in
      let k = kept_unit chosen x t m shut each.0 in
      alike_units us (unit_on_tag x t) (unit_on_tag x u) (unit_on_memory x m) (unit_on_memory x o) k.shut (rw k.areas each.1)
      (alike_unit x t u m o each.0 a)

  -- ---- any act

  pub record SameDone (d e : Done) : Type 0 where
    pub answer : d.answer ≡ e.answer
    pub alike : Alike chosen d.tag e.tag d.memory e.memory

  -- what is presented is no password of the tag that guards
  abbrev Unopening : Tag → Act → Type 0
  Unopening t x = opens chosen t.vault.keys (claim_of x) ≡ false

  module _ (t u : Tag) (m o : List ℕ) (a : Alike chosen t u m o) (shut : Shut chosen t.vault.keys.session) where
    abbrev right : Tag → ℕ → ℕ → Bool
    right x n w = eqb (password_of x.vault.keys n) w

    -- a chosen password is wrong in both, and another is the same in both
    both_right : (n w : ℕ) → Unopening t (presents n w) → Unopening u (presents n w) → right t n w ≡ right u n w
    both_right n w p q = go (chosen n) refl p q
      where
        go : (c : Bool) → chosen n ≡ c → ((c || eqb n 0) && right t n w) ≡ false → ((c || eqb n 0) && right u n w) ≡ false → right t n w ≡ right u n w
        go true e p q = cc
        go false e p q = rw (a.passwords.at n e)

    alike_act : (x : Act) → harmless_act chosen t.vault.areas x ≡ true → Unopening t x → Unopening u x
        → SameDone (perform t m x) (perform u o x)
    unfolding perform harmless_act
    alike_act (says s) h p q = record { answer = refl; alike = a }
    alike_act (lists limit first count status) h p q =
        let here = listing_same (view_of t.vault) shut m o a.memory limit first count status in
        record { answer = ap body (here ∙ ap (λ (v : View). listing v o limit first count status) a.view); alike = a }
    alike_act (presents n w) h p q =
        let s = present_same t.vault.keys u.vault.keys n w (ap (λ (v : View). v.session) a.view) (both_right n w p q) in
        record {
          answer = rw s.answer;
          alike = record {
            front = a.front;
            view = λ i. let v = a.view i in record { areas = v.areas; lock0 = v.lock0; lock1 = v.lock1; lockcfg = v.lockcfg; session = s.session i };
            passwords = rw (present_keeps t.vault.keys n w, present_keeps u.vault.keys n w) a.passwords;
            memory = a.memory;
          };
        }
    alike_act (writes us) h p q = record { answer = refl; alike = alike_units us t u m o shut h a }
    alike_act closes h p q = record {
      answer = refl;
      alike = record {
        front = a.front;
        view = ap (λ (v : View). record { areas = v.areas; lock0 = v.lock0; lock1 = v.lock1; lockcfg = v.lockcfg; session = None }) a.view;
        passwords = a.passwords;
        memory = a.memory;
      };
    }

  -- ---- any event

  pub record SameStep (r s : Stepped) : Type 0 where
    pub answer : r.answer ≡ s.answer
    pub alike : Alike chosen r.tag s.tag r.memory s.memory

  settled_alike : (hold : Bool) (x : Answer) (t u : Tag) (m o : List ℕ) → Alike chosen t u m o
      → SameStep (settled hold x t m) (settled hold x u o)
  settled_alike true (verdict d) t u m o a =
      record { answer = refl; alike = fronts t u m o _ _ (ap (λ (f : Front). with_held f (Some d)) a.front) a }
  settled_alike true silence t u m o a = record { answer = refl; alike = a }
  settled_alike true (body b) t u m o a = record { answer = refl; alike = a }
  settled_alike false x t u m o a = record { answer = refl; alike = a }

  module _ (t u : Tag) (m o : List ℕ) (a : Alike chosen t u m o) (shut : Shut chosen t.vault.keys.session) where
    -- the same work on both
    alike_work : (w : Work) → harmless_act chosen t.vault.areas w.act ≡ true → Unopening t w.act → Unopening u w.act
        → SameStep (performed t m w) (performed u o w)
    alike_work w h p q =
        let f = w.front in
        let d = alike_act (with_front t f) (with_front u f) m o (fronts t u m o f f refl a) shut w.act h p q in
        rw d.answer (settled_alike w.hold _ _ _ _ _ d.alike)

    pub alike_step : (e : Event) → opens chosen t.vault.keys (presented t m e) ≡ false → opens chosen u.vault.keys (presented u o e) ≡ false
        → SameStep (step t m e) (step u o e)
    unfolding step presented
    alike_step e p q =
        let w = work_of t.front (view_of t.vault) (blocks_of m) e in
        subst (λ (x : Work). Unopening u x.act → SameStep (performed t m w) (performed u o x))
        (λ i. work_of (a.front i) (a.view i) (a.memory.size i / 4) e)
        (alike_work w (work_harmless chosen (view_of t.vault) shut t.front (blocks_of m) e) p) q
