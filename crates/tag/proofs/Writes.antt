-- What is known of a write of blocks that is granted, and of a lock.
-- Assumes nothing.
use mathlib.Core.Path.{◌≡◌, refl, sym}
use mathlib.Core.List.{List}
use mathlib.Core.Bool.{Bool, true, false, not, ◌||◌, or-true, or-false}
use Prim.Native.Nat.{ℕ, zero, suc, ◌+◌, ◌≤◌, ◌<◌}
use native.Mathlib.Omega.{arith}
use lib.Dec.{leb, ltb, eqb}
use borrow.Author.Tests.{ltb-false, leb-false, eqb-true}
use Rattle.std.specs.Prelude.{if◌then◌else◌, Ok, Err}
use Rattle.rights.specs.Verdict.{Verdict}
use Rattle.rights.specs.declared.Vault.{Vault}
use Rattle.rights.specs.declared.View.{View}
use Rattle.rights.specs.Vault.{view_of}
use Rattle.rights.specs.Blocks.{writable_at, locked_at, crosses_at, any_barred}
use Rattle.record.specs.declared.Tag.{Tag}
use Rattle.tag.specs.Work.{with_block_lock, apply_to_tag, perform}
use Rattle.tag.specs.Blocks.{write_verdict, lock_verdict, lock_of}

pub record GrantedWrite (v : View) (limit first more : ℕ) : Type 0 where
  pub few : more < 4
  pub within : first + more < limit
  pub unbarred : any_barred v first (more + 1) ≡ false

pub write_granted : (v : View) (limit first more : ℕ) → write_verdict v limit first more ≡ Ok tt → GrantedWrite v limit first more
unfolding write_verdict
write_granted v limit first more h =
    let f = go (ltb 4 (more + 1)) (leb limit (first + more)) (crosses_at v.areas first more) (any_barred v first (more + 1)) h in
    record { few = omega (arith, ltb-false 4 (more + 1) f.0); within = leb-false limit (first + more) f.1.0; unbarred = f.1.1 }
  where
    go : (many outside crossed barred : Bool)
        → (if◌then◌else◌ {A = Verdict} many (Err 0x0F) (if outside then Err 0x10 else if crossed then Err 0x0F else if barred then Err 0x12 else Ok tt)) ≡ Ok tt
        → (many ≡ false) × ((outside ≡ false) × (barred ≡ false))
    go true outside crossed barred h = let z : ◌≡◌ {A = ℕ} 0 1 = cc in absurd (omega arith)
    go false true crossed barred h = let z : ◌≡◌ {A = ℕ} 0 1 = cc in absurd (omega arith)
    go false false true barred h = let z : ◌≡◌ {A = ℕ} 0 1 = cc in absurd (omega arith)
    go false false false true h = let z : ◌≡◌ {A = ℕ} 0 1 = cc in absurd (omega arith)
    go false false false false h = (refl, (refl, refl))

-- the lock bits of a vault, of which one is set
module _ (v : Vault) where
  set : (is was other : Bool) → (if is then true else other) ≡ ((if is then was else other) || is)
  set true was other = sym (or-true was)
  set false was other = sym (or-false other)

  one_set : (b c : ℕ) → b ≤ 1 → locked_at (view_of (with_block_lock v (eqb b 1))) c ≡ (locked_at (view_of v) c || eqb c b)
  unfolding locked_at
  one_set zero c h = set (eqb c 0) v.lock0 (if eqb c 1 then v.lock1 else false)
  one_set (suc zero) c h = first (eqb c 0) refl
    where
      first : (is : Bool) → eqb c 0 ≡ is
          → (if is then v.lock0 else if eqb c 1 then true else false) ≡ ((if is then v.lock0 else if eqb c 1 then v.lock1 else false) || eqb c 1)
      first true e = rw (eqb-true c 0 e) (sym (or-false v.lock0))
      first false e = set (eqb c 1) v.lock1 false
  one_set (suc (suc b)) c h = absurd (omega arith)

lock_low : (v : View) (b : ℕ) → lock_verdict v b ≡ Ok tt → b ≤ 1
unfolding lock_verdict
lock_low v b h = go (ltb 1 b) refl h
  where
    go : (over : Bool) → ltb 1 b ≡ over
        → (if◌then◌else◌ {A = Verdict} over (Err 0x10) (if locked_at v b then Err 0x11 else if not (writable_at v b) then Err 0x14 else Ok tt)) ≡ Ok tt → b ≤ 1
    go true e h = let z : ◌≡◌ {A = ℕ} 0 1 = cc in absurd (omega arith)
    go false e h = ltb-false 1 b e

-- "Locks 22h, 32h": a lock that is granted locks its block, and no other
pub locks_its_own : (t : Tag) (m : List ℕ) (b c : ℕ) → lock_verdict (view_of t.vault) b ≡ Ok tt
    → locked_at (view_of (perform t m (lock_of (view_of t.vault) b)).tag.vault) c ≡ (locked_at (view_of t.vault) c || eqb c b)
unfolding perform apply_to_tag
locks_its_own t m b c h = rw h (one_set t.vault b c (lock_low (view_of t.vault) b h))
