-- The requests sent: how many they are as the walk counts them, and that each has 16 slots.
-- Assumes nothing.
use mathlib.Core.Path.{◌≡◌, refl, sym, ap, ◌∙◌}
use mathlib.Core.List.{List, [], ◌∷◌, ◌++◌}
use Prim.Native.Nat.{ℕ, zero, suc, ◌+◌, ◌*◌, ◌^◌, ◌≤◌, ◌<◌}
use native.Mathlib.Omega.{arith}
use lib.ListN.{length, length-append}
use lib.Pow.{pow_pos}
use Rattle.tray.specs.Tray.{Request, asks, speaks_in, those, joined, total, longer, follow, sent, requests_sent, search_sends, Each, none, more}
use Rattle.tray.specs.Steps.{costs, requests}
use Rattle.tray.specs.Tags.{Proper, frames_of, frames_sent}
use Rattle.tray.proofs.Slots.{total_same, longer_below}

-- ---- how many

length_joined : {A : Type 0} (f : ℕ → List A) (k s : ℕ) → length (joined f k s) ≡ total (λ x. length (f x)) k s
unfolding joined total
length_joined f zero s = refl
length_joined f (suc k) s = length-append (f s) (joined f k (s + 1)) ∙ ap (λ (n : ℕ). length (f s) + n) (length_joined f k (s + 1))

-- a slot costs as many as follow from it
length_follow : (us : List ℕ) (again : ℕ → ℕ → List Request) (number : ℕ → ℕ → ℕ) (mask bits : ℕ) → number mask bits ≡ length (again mask bits)
    → costs us number mask bits ≡ length (follow us again mask bits)
unfolding costs follow
length_follow [] again number mask bits e = refl
length_follow (u ∷ []) again number mask bits e = refl
length_follow (u ∷ v ∷ us) again number mask bits e = e

-- "The result gives the number of Inventory requests sent": what the walk counts is how many the definition sends
pub walk_counts : (left : ℕ) (uids : List ℕ) (mask bits : ℕ) → requests left uids mask bits ≡ length (sent left uids mask bits)
unfolding requests sent
walk_counts zero uids mask bits = refl
walk_counts (suc left) uids mask bits =
    let each : ℕ → List Request = λ s. follow (those (speaks_in mask bits s) uids) (sent left uids) (longer mask bits s) (bits + 4) in
    let n : total (λ s. length (each s)) 16 0 ≡ length (joined each 16 0) = sym (length_joined each 16 0) in
    omega (
      arith,
      n,
      total_same _ (λ s. length (each s)) 16 0 (λ s a b.
          length_follow (those (speaks_in mask bits s) uids) (sent left uids) (requests left uids) (longer mask bits s) (bits + 4)
          (walk_counts left uids (longer mask bits s) (bits + 4))),
    )

-- the frames sent are as many
length_frames : (qs : List Request) → length (frames_of qs) ≡ length qs
unfolding frames_of
length_frames [] = refl
length_frames (q ∷ qs) = ap (λ (n : ℕ). suc n) (length_frames qs)

pub as_many_frames : (uids : List ℕ) → length (frames_sent uids) ≡ search_sends uids
as_many_frames uids = length_frames (requests_sent uids)

-- ---- each has 16 slots

pub each_both : {A : Type 0} {P : A → Type 0} {us vs : List A} → Each P us → Each P vs → Each P (us ++ vs)
each_both none q = q
each_both (more h p) q = more h (each_both p q)

each_joined : {A : Type 0} {P : A → Type 0} (f : ℕ → List A) (k s : ℕ) → ((x : ℕ) → s ≤ x → x < s + k → Each P (f x)) → Each P (joined f k s)
unfolding joined
each_joined f zero s e = none
each_joined f (suc k) s e = each_both (e s (omega arith) (omega arith)) (each_joined f k (s + 1) (λ x a b. e x (omega arith) (omega arith)))

each_follow : {P : Request → Type 0} (us : List ℕ) (again : ℕ → ℕ → List Request) (mask bits : ℕ) → Each P (again mask bits)
    → Each P (follow us again mask bits)
unfolding follow
each_follow [] again mask bits e = none
each_follow (u ∷ []) again mask bits e = none
each_follow (u ∷ v ∷ us) again mask bits e = e

proper : (left : ℕ) (uids : List ℕ) (mask bits : ℕ) → bits + 4 * left ≡ 64 → mask < 2 ^ bits → Each Proper (sent left uids mask bits)
unfolding sent
proper zero uids mask bits e m = none
proper (suc left) uids mask bits e m =
    more {u = asks mask bits} (record { short = omega arith; low = m })
    (each_joined _ 16 0 (λ s a b. each_follow (those (speaks_in mask bits s) uids) (sent left uids) (longer mask bits s) (bits + 4)
    (proper left uids (longer mask bits s) (bits + 4) (omega arith) (longer_below mask bits s m (omega arith)))))

pub each_proper : (uids : List ℕ) → Each Proper (requests_sent uids)
each_proper uids = proper 16 uids 0 0 refl (pow_pos 0)
