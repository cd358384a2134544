-- Entries and their bytes, from a place on: one more, and the end.
-- Assumes nothing.
use mathlib.Core.Path.{◌≡◌, refl, ap}
use mathlib.Core.List.{List, [], ◌∷◌}
use Prim.Native.Nat.{ℕ, zero, suc, ◌+◌, ◌-◌, ◌*◌, ◌/◌, ◌≤◌, ◌<◌}
use native.Mathlib.Numerals.{add-one}
use native.Mathlib.Omega.{arith}
use lib.ListN.{length, get_or, take, drop, drop_of_length-le, length-append}
use lib.Seq.{drop-cons}
use Rattle.put.specs.Put.{Put}
use Rattle.put.specs.Number.{number_at, bytes_of}
use Rattle.put.proofs.Written.{Written, Next, room, whole}
use Rattle.put.proofs.Numbers.{length_bytes}
use Rattle.caselines.specs.Limits.{uid_length}
use Rattle.caselines.specs.Entries.{entries_from, entries_in, entry_bytes}

-- ---- entries, from bytes

entries_length : (k at : ℕ) (bytes : List ℕ) → length (entries_from k at bytes) ≡ k
unfolding entries_from
entries_length zero at bytes = refl
entries_length (suc k) at bytes = ap suc (entries_length k (at + uid_length) bytes)

pub entries_most_lem : (bytes : List ℕ) {n : ℕ} → length bytes ≤ uid_length * n → length (entries_in bytes) ≤ n
entries_most_lem bytes h = omega (arith, entries_length (length bytes / uid_length) 0 bytes)

module _ {L out₀ out : List ℕ} {i : ℕ} (n : ℕ) (bytes : List ℕ) (w : Written L (entries_from (n - i) (uid_length * i) bytes) out₀ out i) where
  -- the entry that comes next, and the end
  pub entry : i < n → Next L (number_at uid_length bytes (uid_length * i) ∷ []) (entries_from (n - (i + 1)) (uid_length * (i + 1)) bytes) out₀ out i
  unfolding entries_from
  entry h =
      let e : n - i ≡ suc (n - (i + 1)) = omega arith in
      let f : uid_length * (i + 1) ≡ uid_length * i + uid_length = omega arith in
      record { written = rw f (rw e at w) }

  pub entries_end : n ≤ i → Put L out₀ out i
  unfolding entries_from
  entries_end h = let e : n - i ≡ 0 = omega arith in whole (rw e at w)

  pub entries_all : i ≡ n → Put L out₀ out n
  entries_all h = rw (← h) (entries_end (omega arith))

-- ---- bytes, of entries

pub entry_bytes_length : (s : List ℕ) → length (entry_bytes s) ≡ uid_length * length s
unfolding entry_bytes
entry_bytes_length [] = refl
entry_bytes_length (e ∷ s) = simp length-append (omega (arith, length_bytes uid_length e, entry_bytes_length s))

module _ {L out₀ out : List ℕ} {at : ℕ} (i : ℕ) (s : List ℕ) (w : Written L (entry_bytes (drop i s)) out₀ out at) where
  pub eight : i < length s → Next L (bytes_of uid_length (get_or s i 0)) (entry_bytes (drop (i + 1) s)) out₀ out at
  unfolding entry_bytes
  eight h = record { written = rw add-one (rw (drop-cons s i 0 h) at w) }

  pub eight_room : i < length s → uid_length ≤ length (take (length out - at) (drop at out))
  eight_room h = omega (arith, room (eight h), length_bytes uid_length (get_or s i 0))

  pub entry_bytes_end : length s ≤ i → Put L out₀ out at
  unfolding entry_bytes
  entry_bytes_end h = whole (rw (drop_of_length-le s h) at w)
