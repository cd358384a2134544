-- Laws of `listing` and `statuses`: what each test of a loop that writes them means for what is left to write, their lengths, and the limit
-- that they stop at.
-- Assumes nothing.
use Prim.Native.Nat.{ℕ, zero, suc, ◌+◌, ◌-◌, ◌*◌, ◌≤◌, ◌<◌}
use mathlib.Core.Path.{◌≡◌, refl}
use mathlib.Core.Logic.{◌⊎◌, inl, inr}
use mathlib.Core.Bool.{Bool, true, false, ◌&&◌, and-false}
use mathlib.Core.List.{List, [], ◌∷◌, ◌++◌}
use native.Mathlib.Numerals.{sub-one}
use native.Mathlib.Omega.{arith}
use lib.ListN.{length, length-append, length-take, length-drop}
use lib.Dec.{ltb}
use borrow.Author.Tests.{ltb-true, ltb-false, lt-ltb, le-ltb}
use Rattle.std.specs.Prelude.{if◌then◌else◌}
use Rattle.rights.specs.declared.View.{View}
use Rattle.rights.specs.Blocks.{readable_at, status_at}
use Rattle.rights.proofs.Cases.{if_one, both}
use Rattle.tag.specs.declared.Entry.{Entry}
use Rattle.tag.specs.Table.{limit_of}
use Rattle.tag.specs.Work.{shown, block_shown, listing}
use Rattle.tag.specs.Blocks.{statuses}

-- ---- one block

bytes_most : (m : List ℕ) (b : ℕ) → length (shown m b) ≤ 4
bytes_most m b = simp length-take (omega arith)

shown_most : (v : View) (m : List ℕ) (b : ℕ) (status : Bool) → length (block_shown v m b status) ≤ 5
shown_most v m b true = omega (arith, bytes_most m b)
shown_most v m b false = omega (arith, bytes_most m b)

-- a block that lies in the memory has four bytes, or five with its status
pub block_length : (v : View) (m : List ℕ) (b : ℕ) (status : Bool) → 4 * b + 4 ≤ length m → length (block_shown v m b status) ≡ (if status then 5 else 4)
block_length v m b true h = simp (length-take, length-drop) (omega arith)
block_length v m b false h = simp (length-take, length-drop) (omega arith)

-- ---- a listing

module _ (v : View) (m : List ℕ) (limit b : ℕ) where
  pub listing_end : (n : ℕ) (status : Bool) → n ≤ 0 → listing v m limit b n status ≡ []
  unfolding listing
  listing_end zero status h = refl
  listing_end (suc n) status h = absurd (omega arith)

  pub listing_stop : (n : ℕ) (status : Bool) → (limit ≤ b) ⊎ (readable_at v b ≡ false) → listing v m limit b n status ≡ []
  unfolding listing
  listing_stop zero status h = refl
  listing_stop (suc n) status (inl h) = rw (le-ltb b limit h)
  listing_stop (suc n) status (inr e) = simp (e, and-false)

  pub listing_more : (n : ℕ) (status : Bool) → 0 < n → b < limit → readable_at v b ≡ true
      → listing v m limit b n status ≡ block_shown v m b status ++ listing v m limit (b + 1) (n - 1) status
  unfolding listing
  listing_more zero status h l e = absurd (omega arith)
  listing_more (suc n) status h l e = rw (lt-ltb b limit l, e, sub-one)

-- at most five bytes for each block below the limit
pub listing_within : (v : View) (m : List ℕ) (limit b n : ℕ) (status : Bool) → length (listing v m limit b n status) ≤ 5 * (limit - b)
unfolding listing
listing_within v m limit b zero status = omega arith
listing_within v m limit b (suc n) status =
    if_one (λ (l : List ℕ). length l ≤ 5 * (limit - b)) (ltb b limit && readable_at v b)
    (λ e. simp length-append (omega (arith, ltb-true b limit (both _ _ e).0, shown_most v m b status, listing_within v m limit (b + 1) n status)))
    (λ e. omega arith)

-- and just five for each with its status, where all are readable and lie in the memory
pub listing_whole : (v : View) (m : List ℕ) (limit b n : ℕ) → ((k : ℕ) → k < limit → readable_at v k ≡ true) → 4 * limit ≤ length m → b + n ≤ limit
    → length (listing v m limit b n true) ≡ 5 * n
unfolding listing
listing_whole v m limit b zero readable fits h = refl
listing_whole v m limit b (suc n) readable fits h =
    let rest = listing_whole v m limit (b + 1) n readable fits (omega arith) in
    rw (lt-ltb b limit (omega arith), readable b (omega arith)) (simp length-append (omega (arith, block_length v m b true (omega arith))))

-- ---- status bytes alone

module _ (v : View) (limit b : ℕ) where
  pub statuses_end : (n : ℕ) → n ≤ 0 → statuses v limit b n ≡ []
  unfolding statuses
  statuses_end zero h = refl
  statuses_end (suc n) h = absurd (omega arith)

  pub statuses_stop : (n : ℕ) → limit ≤ b → statuses v limit b n ≡ []
  unfolding statuses
  statuses_stop zero h = refl
  statuses_stop (suc n) h = rw (le-ltb b limit h)

  pub statuses_more : (n : ℕ) → 0 < n → b < limit → statuses v limit b n ≡ status_at v b ∷ statuses v limit (b + 1) (n - 1)
  unfolding statuses
  statuses_more zero h l = absurd (omega arith)
  statuses_more (suc n) h l = rw (lt-ltb b limit l, sub-one)

-- at most one byte for each block below the limit
pub statuses_within : (v : View) (limit b n : ℕ) → length (statuses v limit b n) ≤ limit - b
unfolding statuses
statuses_within v limit b zero = omega arith
statuses_within v limit b (suc n) =
    if_one (λ (l : List ℕ). length l ≤ limit - b) (ltb b limit)
    (λ e. omega (arith, ltb-true b limit e, statuses_within v limit (b + 1) n)) (λ e. omega arith)

-- ---- the limit

-- no block below a command's limit is outside the memory
pub limit_within : (e : Entry) (blocks : ℕ) → limit_of e blocks ≤ blocks
unfolding limit_of
limit_within e blocks =
    if_one (λ (n : ℕ). n ≤ blocks) e.wide (λ w. omega arith) (λ w.
    if_one (λ (n : ℕ). n ≤ blocks) (ltb blocks 0x100) (λ h. omega arith) (λ h. ltb-false blocks 0x100 h))
