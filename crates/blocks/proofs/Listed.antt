-- A read and a status listing as a loop writes them, n blocks so far: what each of its tests says of what is still to be written.
-- Assumes nothing.
use mathlib.Core.Path.{◌≡◌}
use mathlib.Core.Logic.{inl, inr}
use mathlib.Core.Bool.{Bool, true, false}
use mathlib.Core.List.{List, [], ◌∷◌}
use Prim.Native.Nat.{ℕ, ◌+◌, ◌-◌, ◌*◌, ◌≤◌, ◌<◌}
use native.Mathlib.Nat.{add-zero, sub-zero, mul-add, mul-one}
use native.Mathlib.Omega.{arith}
use lib.ListN.{length, take, drop}
use Rattle.std.specs.Prelude.{if◌then◌else◌}
use Rattle.put.specs.Put.{Put}
use Rattle.put.proofs.Written.{Written, Next, none, whole, room}
use Rattle.rights.specs.declared.View.{View}
use Rattle.rights.specs.Blocks.{readable_at, status_at}
use Rattle.tag.specs.Work.{block_shown, listing}
use Rattle.tag.specs.Blocks.{statuses}
use Rattle.tag.proofs.Listing.{block_length, listing_end, listing_stop, listing_more, listing_within, statuses_end, statuses_stop, statuses_more, statuses_within}

-- one block after n
after : (first n : ℕ) → first + n + 1 ≡ first + (n + 1)
after first n = omega arith

fewer : (count n : ℕ) → count - n - 1 ≡ count - (n + 1)
fewer count n = omega arith

-- ---- a read

module _ (v : View) (m : List ℕ) (limit first count : ℕ) (status : Bool) where
  pub none_read : {out : List ℕ} → 5 * limit ≤ length out
      → Written (listing v m limit first count status) (listing v m limit (first + 0) (count - 0) status) out out 0
  none_read h = rw (add-zero, sub-zero) (none (omega (arith, listing_within v m limit first count status)))

  module _ (n : ℕ) {L out₀ out : List ℕ} {at : ℕ}
      (w : Written L (listing v m limit (first + n) (count - n) status) out₀ out at) where
    pub all_read : count ≤ n → Put L out₀ out at
    all_read h = whole (rw (listing_end v m limit (first + n) (count - n) status (omega arith)) at w)

    pub outside_read : limit ≤ first + n → Put L out₀ out at
    outside_read h = whole (rw (listing_stop v m limit (first + n) (count - n) status (inl h)) at w)

    pub unreadable : readable_at v (first + n) ≡ false → Put L out₀ out at
    unreadable e = whole (rw (listing_stop v m limit (first + n) (count - n) status (inr e)) at w)

    module _ (h : n < count) (k : first + n < limit) (e : readable_at v (first + n) ≡ true) where
      pub next_read : Next L (block_shown v m (first + n) status) (listing v m limit (first + (n + 1)) (count - (n + 1)) status) out₀ out at
      next_read = record { written = rw (listing_more v m limit (first + n) (count - n) status (omega arith) k e, after, fewer) at w }

      long : 4 * limit ≤ length m → length (block_shown v m (first + n) status) ≡ (if status then 5 else 4)
      long fits = block_length v m (first + n) status (omega arith)

      -- the next block has room
      pub next_room : 4 * limit ≤ length m → (if status then 5 else 4) ≤ length (take (length out - at) (drop at out))
      next_room fits = rw (← long fits) (room next_read)

      -- and after it is the place of the one that follows, where all have one size
      pub next_place : 4 * limit ≤ length m → {size j : ℕ} {xs ys : List ℕ} → size ≡ (if status then 5 else 4)
          → Put (block_shown v m (first + n) status) xs ys j → size * (n + 1) ≡ size * n + j
      next_place fits s p = rw (mul-add, mul-one, p.count, long fits, s)

-- ---- status bytes alone

pub none_told : (v : View) (limit first count : ℕ) {out : List ℕ} → limit ≤ length out
    → Written (statuses v limit first count) (statuses v limit (first + 0) (count - 0)) out out 0
none_told v limit first count h = rw (add-zero, sub-zero) (none (omega (arith, statuses_within v limit first count)))

module _ (v : View) (limit first count n : ℕ) {L out₀ out : List ℕ} {at : ℕ}
    (w : Written L (statuses v limit (first + n) (count - n)) out₀ out at) where
  pub all_told : count ≤ n → {k : ℕ} → k ≡ at → Put L out₀ out k
  all_told h e = rw e (whole (rw (statuses_end v limit (first + n) (count - n) (omega arith)) at w))

  pub outside_told : limit ≤ first + n → Put L out₀ out at
  outside_told h = whole (rw (statuses_stop v limit (first + n) (count - n) h) at w)

  pub next_told : n < count → first + n < limit
      → Next L (status_at v (first + n) ∷ []) (statuses v limit (first + (n + 1)) (count - (n + 1))) out₀ out at
  next_told h k =
      record { written = rw (statuses_more v limit (first + n) (count - n) (omega arith) k, after, fewer) at w }
