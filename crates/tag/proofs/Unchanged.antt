-- What the chosen passwords guard is not changed without them: over one event, and over any run.
-- Assumes nothing.
use Prim.Native.Nat.{ℕ, ◌+◌, ◌*◌, ◌/◌, ◌≤◌, ◌<◌}
use mathlib.Core.Path.{◌≡◌, refl, ap, ◌∙◌}
use mathlib.Core.Bool.{Bool, true, false, not}
use mathlib.Core.List.{List, [], ◌∷◌}
use native.Mathlib.Omega.{arith}
use lib.ListN.{length, get_or}
use lib.Dec.{leb}
use lib.Seq.{get_or-set_other, length-sets}
use borrow.Author.Tests.{leb-true, not-true}
use Rattle.rights.specs.declared.Areas.{Areas}
use Rattle.rights.specs.declared.Vault.{Vault}
use Rattle.rights.specs.Vault.{view_of}
use Rattle.rights.specs.Blocks.{hidden_by}
use Rattle.rights.proofs.Cases.{both}
use Rattle.rights.proofs.Sessions.{present_keeps}
use Rattle.rights.proofs.HiddenBlocks.{none_open, present_shut}
use Rattle.record.specs.declared.Tag.{Tag}
use Rattle.record.specs.Update.{with_front}
use Rattle.tag.specs.Rules.{blocks_of}
use Rattle.tag.specs.Work.{Unit, block, register, afi, dsfid, block_lock, afi_lock, dsfid_lock, password, Act, says, lists, presents, writes, closes, unit_on_tag, unit_on_memory, apply_to_tag, apply_to_memory, perform}
use Rattle.tag.specs.Step.{Event, work_of, step, run}
use Rattle.tag.specs.Secrecy.{hidden, guards, Shut, claim_of, presented, opens, unopened, Kept, Unchanged}
use Rattle.tag.proofs.Sizes.{settled_kept}
use Rattle.tag.proofs.Alike.{sets_other}
use Rattle.tag.proofs.Harmless.{harmless, all_harmless, harmless_act, work_harmless}

module _ (chosen : ℕ → Bool) where
  abbrev ShutIn : Tag → Type 0
  ShutIn t = Shut chosen t.vault.keys.session

  pub as_it_was : (v : Vault) (m : List ℕ) → Shut chosen v.keys.session → Kept chosen v m v m
  as_it_was v m shut = record { passwords = λ n g. refl; memory = record { size = refl; at = λ i e. refl }; areas = refl; shut = shut }

  pub kept_after : (v v' v'' : Vault) (m m' m'' : List ℕ) → Kept chosen v m v' m' → Kept chosen v' m' v'' m'' → Kept chosen v m v'' m''
  kept_after v v' v'' m m' m'' h k = record {
    passwords = λ n g. k.passwords n g ∙ h.passwords n g;
    memory = record { size = cc; at = λ i e. k.memory.at i (rw h.areas e) ∙ h.memory.at i e };
    areas = cc;
    shut = k.shut;
  }

  -- a hidden byte is none of those that a harmless block writes
  unwritten : (a : Areas) (b : ℕ) (bytes : List ℕ) (i : ℕ)
      → harmless chosen a (block b bytes) ≡ true → not (hidden chosen a i) ≡ false → 4 * b ≤ i → i < 4 * b + length bytes → ⊥
  unfolding harmless
  unwritten a b bytes i f e p q =
      let h = both (not (hidden_by chosen a b)) (leb (length bytes) 4) f in
      let d : i / 4 ≡ b = omega (arith, leb-true (length bytes) 4 h.1) in
      let z : ◌≡◌ {A = ℕ} 0 1 = cc (h.0, rw d at e) in omega arith

  pub kept_unit : (x : Unit) (t : Tag) (m : List ℕ) → ShutIn t → harmless chosen t.vault.areas x ≡ true
      → Kept chosen t.vault m (unit_on_tag x t).vault (unit_on_memory x m)
  unfolding harmless
  kept_unit (block b bytes) t m shut f = record {
    passwords = λ n g. refl;
    memory = record { size = length-sets m (4 * b) bytes; at = λ i e. sets_other m (4 * b) bytes i (unwritten t.vault.areas b bytes i f e) };
    areas = refl;
    shut = shut;
  }
  kept_unit (register address x) t m shut f = let z : ◌≡◌ {A = ℕ} 0 1 = cc in absurd (omega arith)
  kept_unit (afi x) t m shut f = as_it_was t.vault m shut
  kept_unit (dsfid x) t m shut f = as_it_was t.vault m shut
  kept_unit (block_lock true) t m shut f =
      let k = as_it_was t.vault m shut in record { passwords = k.passwords; memory = k.memory; areas = refl; shut = shut }
  kept_unit (block_lock false) t m shut f =
      let k = as_it_was t.vault m shut in record { passwords = k.passwords; memory = k.memory; areas = refl; shut = shut }
  kept_unit afi_lock t m shut f = as_it_was t.vault m shut
  kept_unit dsfid_lock t m shut f = as_it_was t.vault m shut
  kept_unit (password n w) t m shut f = record {
    passwords = λ k g. get_or-set_other t.vault.keys.passwords n k w 0 (λ e.
        let z : ◌≡◌ {A = ℕ} 0 1 = cc (not-true (guards chosen n) f) in omega arith);
    memory = record { size = refl; at = λ i e. refl };
    areas = refl;
    shut = shut;
  }

  kept_units : (us : List Unit) (t : Tag) (m : List ℕ) → ShutIn t → all_harmless chosen t.vault.areas us ≡ true
      → Kept chosen t.vault m (apply_to_tag us t).vault (apply_to_memory us m)
  unfolding all_harmless apply_to_tag apply_to_memory
  kept_units [] t m shut f = as_it_was t.vault m shut
  kept_units (x ∷ us) t m shut f =
      let h = both (harmless chosen t.vault.areas x) (all_harmless chosen t.vault.areas us) f in
      let k = kept_unit x t m shut h.0 in
      kept_after _ _ _ _ _ _ k (kept_units us (unit_on_tag x t) (unit_on_memory x m) k.shut (rw k.areas h.1))

  kept_act : (a : Act) (t : Tag) (m : List ℕ)
      → ShutIn t → harmless_act chosen t.vault.areas a ≡ true → opens chosen t.vault.keys (claim_of a) ≡ false
      → Kept chosen t.vault m (perform t m a).tag.vault (perform t m a).memory
  unfolding perform harmless_act
  kept_act (says x) t m shut f never = as_it_was t.vault m shut
  kept_act (lists limit first count status) t m shut f never = as_it_was t.vault m shut
  kept_act (presents n w) t m shut f never = record {
    passwords = λ k g. ap (λ (ps : List ℕ). get_or ps k 0) (present_keeps t.vault.keys n w);
    memory = record { size = refl; at = λ i e. refl };
    areas = refl;
    shut = record { closed = present_shut (guards chosen) t.vault.keys shut.closed n w never };
  }
  kept_act (writes us) t m shut f never = kept_units us t m shut f
  kept_act closes t m shut f never = record {
    passwords = λ k g. refl;
    memory = record { size = refl; at = λ i e. refl };
    areas = refl;
    shut = record { closed = λ n g. none_open n };
  }

  pub kept_step : (t : Tag) (m : List ℕ) (e : Event) → ShutIn t → opens chosen t.vault.keys (presented t m e) ≡ false
      → Kept chosen t.vault m (step t m e).tag.vault (step t m e).memory
  unfolding step presented
  kept_step t m e shut never =
      let w = work_of t.front (view_of t.vault) (blocks_of m) e in
      let fine = work_harmless chosen (view_of t.vault) shut t.front (blocks_of m) e in
      let d = perform (with_front t w.front) m w.act in
      let same = settled_kept w.hold d.answer d.tag d.memory in
      rw (same.0, same.1) (kept_act w.act _ m shut fine never)

  pub unchanged : Unchanged chosen
  unfolding run unopened
  unchanged t m [] shut never = as_it_was t.vault m shut
  unchanged t m (e ∷ es) shut never =
      let n = both _ _ never in
      let k = kept_step t m e shut (not-true _ n.0) in
      kept_after _ _ _ _ _ _ k (unchanged (step t m e).tag (step t m e).memory es k.shut n.1)
