-- Sizes of what a host lends; and no event alters that of the memory.
-- Assumes nothing.
use mathlib.Core.Path.{◌≡◌, refl, ◌∙◌}
use mathlib.Core.Bool.{Bool, true, false, ◌||◌}
use mathlib.Core.List.{List, [], ◌∷◌}
use Prim.Native.Nat.{ℕ, ◌+◌, ◌*◌, ◌≤◌}
use native.Mathlib.Omega.{arith}
use lib.ListN.{length}
use lib.Seq.{length-sets}
use lib.Dec.{eqb}
use borrow.Author.Tests.{eqb-true}
use Rattle.rights.specs.Vault.{view_of}
use Rattle.rights.proofs.Cases.{both, or_one}
use Rattle.record.specs.declared.Tag.{Tag}
use Rattle.record.specs.Update.{with_front}
use Rattle.tag.specs.Rules.{blocks_of}
use Rattle.tag.specs.Work.{Answer, silence, verdict, body, Unit, block, register, afi, dsfid, block_lock, afi_lock, dsfid_lock, password, Act, says, lists, presents, writes, closes, unit_on_memory, apply_to_memory, perform}
use Rattle.tag.specs.Step.{Event, settled, work_of, step}
use Rattle.tag.specs.Host.{is_memory, fits_image}

-- a memory of n bytes
pub memory_bounds : (n : ℕ) → (eqb n 2048 || eqb n 8192) ≡ true → (2048 ≤ n) × (n ≤ 8192)
memory_bounds n h =
    or_one (eqb n 2048) (eqb n 8192) h
    (λ e. let k = eqb-true n 2048 e in (omega arith, omega arith))
    (λ e. let k = eqb-true n 8192 e in (omega arith, omega arith))

-- a memory m, and an image i that is longer by a header
pub fitting : (m i : List ℕ) → fits_image m i ≡ true → (is_memory m ≡ true) × (length i ≡ 64 + length m)
fitting m i h = let e = both (is_memory m) (eqb (length i) (64 + length m)) h in (e.0, eqb-true _ _ e.1)

-- ---- an event

unit_kept : (u : Unit) (m : List ℕ) → length (unit_on_memory u m) ≡ length m
unit_kept (block b bytes) m = length-sets m (4 * b) bytes
unit_kept (register address x) m = refl
unit_kept (afi x) m = refl
unit_kept (dsfid x) m = refl
unit_kept (block_lock second) m = refl
unit_kept afi_lock m = refl
unit_kept dsfid_lock m = refl
unit_kept (password n w) m = refl

units_kept : (us : List Unit) (m : List ℕ) → length (apply_to_memory us m) ≡ length m
unfolding apply_to_memory
units_kept [] m = refl
units_kept (u ∷ us) m = units_kept us (unit_on_memory u m) ∙ unit_kept u m

perform_kept : (t : Tag) (m : List ℕ) (a : Act) → length (perform t m a).memory ≡ length m
unfolding perform
perform_kept t m (says a) = refl
perform_kept t m (lists limit first count status) = refl
perform_kept t m (presents n w) = refl
perform_kept t m (writes us) = units_kept us m
perform_kept t m closes = refl

-- an answer that is held, or given at once, leaves vault and memory
pub settled_kept : (hold : Bool) (a : Answer) (t : Tag) (m : List ℕ) → ((settled hold a t m).tag.vault ≡ t.vault) × ((settled hold a t m).memory ≡ m)
settled_kept true silence t m = (refl, refl)
settled_kept true (verdict v) t m = (refl, refl)
settled_kept true (body b) t m = (refl, refl)
settled_kept false a t m = (refl, refl)

pub memory_kept : (t : Tag) (m : List ℕ) (e : Event) → length (step t m e).memory ≡ length m
unfolding step
memory_kept t m e =
    let w = work_of t.front (view_of t.vault) (blocks_of m) e in
    let d = perform (with_front t w.front) m w.act in
    rw (settled_kept w.hold d.answer d.tag d.memory).1 (perform_kept (with_front t w.front) m w.act)
