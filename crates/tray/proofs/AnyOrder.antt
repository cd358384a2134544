-- The search does not depend on the order in which the UIDs are given: two lists in which each number stands equally often give the same.
-- Assumes nothing.
use mathlib.Core.Path.{◌≡◌, refl, sym, ap, ◌∙◌}
use mathlib.Core.Bool.{Bool, false}
use mathlib.Core.List.{List, [], ◌∷◌}
use Prim.Native.Nat.{ℕ, zero, suc, ◌+◌, ◌≤◌, ◌<◌}
use native.Mathlib.Omega.{arith}
use lib.Dec.{eqb}
use lib.ListN.{length}
use borrow.Author.Tests.{eqb-true, eq-eqb}
use Rattle.std.specs.Prelude.{if◌then◌else◌}
use Rattle.tray.specs.Tray.{Request, asks, speaks_in, those, joined, longer, heard, found, follow, sent, requests_sent}
use Rattle.tray.specs.Tray.{is_in, any_equal, search_given, times_in}
use Rattle.tray.proofs.Slots.{same_test}
use Rattle.tray.proofs.Weigh.{weigh, weigh_length, weigh_times}
use Rattle.tray.proofs.Theorems.{times_none, times_one}

-- each number stands equally often in both
abbrev pub Rearranged : List ℕ → List ℕ → Type 0
Rearranged us vs = (u : ℕ) → times_in u us ≡ times_in u vs

-- ---- what is weighed is the same

-- a list without the first of a number
unfoldable without : ℕ → List ℕ → List ℕ
without u [] = []
without u (v ∷ vs) = if eqb u v then vs else v ∷ without u vs

weigh_without : (w : ℕ → ℕ) (u : ℕ) (vs : List ℕ) → 0 < times_in u vs → weigh w vs ≡ w u + weigh w (without u vs)
unfolding weigh times_in without
weigh_without w u [] h = absurd (omega arith)
weigh_without w u (v ∷ vs) h = grind (arith, weigh_without w u vs, eqb-true u v)

-- a number that stands in the one list stands in the other
stands : (u : ℕ) (us vs : List ℕ) → Rearranged (u ∷ us) vs → 0 < times_in u vs
unfolding times_in
stands u us vs r = let e = rw (eq-eqb u u refl) at (r u) in omega arith

times_without : (u x : ℕ) (us vs : List ℕ) → Rearranged (u ∷ us) vs → times_in x us ≡ times_in x (without u vs)
unfolding times_in
times_without u x us vs r =
    let e : times_in x vs ≡ (if eqb x u then 1 else 0) + times_in x (without u vs) =
    sym (weigh_times x vs) ∙ weigh_without (λ v. if eqb x v then 1 else 0) u vs (stands u us vs r)
    ∙ ap (λ (n : ℕ). (if eqb x u then 1 else 0) + n) (weigh_times x (without u vs)) in
    omega (arith, r x ∙ e)

no_more : (v : ℕ) (vs : List ℕ) → Rearranged [] (v ∷ vs) → ⊥
unfolding times_in
no_more v vs r = let e = rw (eq-eqb v v refl) at (r v) in omega arith

same_weight : (w : ℕ → ℕ) (us vs : List ℕ) → Rearranged us vs → weigh w us ≡ weigh w vs
unfolding weigh
same_weight w [] [] r = refl
same_weight w [] (v ∷ vs) r = absurd (no_more v vs r)
same_weight w (u ∷ us) vs r = omega (arith, weigh_without w u vs (stands u us vs r), same_weight w us (without u vs) (λ x. times_without u x us vs r))

same_length : (us vs : List ℕ) → Rearranged us vs → length us ≡ length vs
same_length us vs r = sym (weigh_length us) ∙ same_weight (λ u. 1) us vs r ∙ weigh_length vs

-- ---- and so are those that pass a test

weigh_those : (test : ℕ → Bool) (w : ℕ → ℕ) (us : List ℕ) → weigh w (those test us) ≡ weigh (λ u. if test u then w u else 0) us
unfolding weigh those
weigh_those test w [] = refl
weigh_those test w (u ∷ us) = grind (arith, weigh_those test w us)

same_those : (test : ℕ → Bool) (us vs : List ℕ) → Rearranged us vs → Rearranged (those test us) (those test vs)
same_those test us vs r u =
    let w : ℕ → ℕ = λ v. if eqb u v then 1 else 0 in
    sym (weigh_times u (those test us)) ∙ weigh_those test w us ∙ same_weight (λ v. if test v then w v else 0) us vs r ∙ sym (weigh_those test w vs)
    ∙ weigh_times u (those test vs)

-- ---- a slot gives the same

alone : (u v : ℕ) → Rearranged (u ∷ []) (v ∷ []) → u ≡ v
unfolding times_in
alone u v r = grind (arith, eqb-true u v, eq-eqb u u refl, r u)

data Alike (us vs : List ℕ) : Type 0 where
  nobody : us ≡ [] → vs ≡ [] → Alike us vs
  single : (u : ℕ) → us ≡ u ∷ [] → vs ≡ u ∷ [] → Alike us vs
  several : {u v u' v' : ℕ} {us' vs' : List ℕ} → us ≡ u ∷ u' ∷ us' → vs ≡ v ∷ v' ∷ vs' → Alike us vs

alike : (us vs : List ℕ) → Rearranged us vs → Alike us vs
alike us vs r = go us vs r (same_length us vs r)
  where
    go : (us vs : List ℕ) → Rearranged us vs → length us ≡ length vs → Alike us vs
    go [] [] r l = nobody refl refl
    go [] (v ∷ vs) r l = absurd (omega arith)
    go (u ∷ us) [] r l = absurd (omega arith)
    go (u ∷ []) (v ∷ []) r l = single u refl (ap (λ (x : ℕ). x ∷ []) (sym (alone u v r)))
    go (u ∷ []) (v ∷ v' ∷ vs) r l = absurd (omega arith)
    go (u ∷ u' ∷ us) (v ∷ []) r l = absurd (omega arith)
    go (u ∷ u' ∷ us) (v ∷ v' ∷ vs) r l = several refl refl

same_heard : {us vs : List ℕ} (again again' : ℕ → ℕ → List ℕ) (mask bits : ℕ) → Alike us vs → again mask bits ≡ again' mask bits
    → heard us again mask bits ≡ heard vs again' mask bits
unfolding heard
same_heard again again' mask bits (nobody p q) e = rw (p, q)
same_heard again again' mask bits (single u p q) e = rw (p, q)
same_heard again again' mask bits (several p q) e = rw (p, q) e

same_follow : {us vs : List ℕ} (again again' : ℕ → ℕ → List Request) (mask bits : ℕ) → Alike us vs → again mask bits ≡ again' mask bits
    → follow us again mask bits ≡ follow vs again' mask bits
unfolding follow
same_follow again again' mask bits (nobody p q) e = rw (p, q)
same_follow again again' mask bits (single u p q) e = rw (p, q)
same_follow again again' mask bits (several p q) e = rw (p, q) e

joined_same : {A : Type 0} (f g : ℕ → List A) (k s : ℕ) → ((x : ℕ) → f x ≡ g x) → joined f k s ≡ joined g k s
unfolding joined
joined_same f g zero s e = refl
joined_same f g (suc k) s e = rw (e s, joined_same f g k (s + 1) e)

-- ---- two UIDs are equal in the one if in the other

-- "two UIDs are equal" where a number stands twice, and only there
pub few_times : (us : List ℕ) → any_equal us ≡ false → (u : ℕ) → times_in u us ≤ 1
few_times us d u = grind (arith, times_one u us d, times_none u us)

in_times : (u : ℕ) (us : List ℕ) → times_in u us ≡ 0 → is_in u us ≡ false
unfolding is_in times_in
in_times u [] e = refl
in_times u (v ∷ us) e = grind (arith, in_times u us)

pub times_few : (us : List ℕ) → ((u : ℕ) → times_in u us ≤ 1) → any_equal us ≡ false
unfolding any_equal times_in
times_few [] f = refl
times_few (u ∷ us) f =
    let h = rw (eq-eqb u u refl) at (f u) in
    rw (in_times u us (omega arith)) (times_few us (λ x. omega (arith, f x)))

same_equal : (us vs : List ℕ) → Rearranged us vs → any_equal us ≡ any_equal vs
same_equal us vs r =
    same_test false _ _
    (λ e. times_few vs (λ u. omega (arith, r u, few_times us e u)))
    (λ e. times_few us (λ u. omega (arith, r u, few_times vs e u)))

-- ---- and the whole search

module _ (us vs : List ℕ) (r : Rearranged us vs) where
  slots_alike : (mask bits slot : ℕ) → Alike (those (speaks_in mask bits slot) us) (those (speaks_in mask bits slot) vs)
  slots_alike mask bits slot = alike _ _ (same_those (speaks_in mask bits slot) us vs r)

  same_found : (left mask bits : ℕ) → found left us mask bits ≡ found left vs mask bits
  unfolding found
  same_found zero mask bits = refl
  same_found (suc left) mask bits =
      joined_same _ _ 16 0 (λ x. same_heard (found left us) (found left vs) (longer mask bits x) (bits + 4) (slots_alike mask bits x)
      (same_found left (longer mask bits x) (bits + 4)))

  same_sent : (left mask bits : ℕ) → sent left us mask bits ≡ sent left vs mask bits
  unfolding sent
  same_sent zero mask bits = refl
  same_sent (suc left) mask bits =
      ap (λ (qs : List Request). asks mask bits ∷ qs)
      (joined_same _ _ 16 0 (λ x. same_follow (sent left us) (sent left vs) (longer mask bits x) (bits + 4) (slots_alike mask bits x)
      (same_sent left (longer mask bits x) (bits + 4))))

  -- the same requests, in the same order
  pub same_requests : requests_sent us ≡ requests_sent vs
  same_requests = same_sent 16 0 0

  -- the same result and the same list
  pub any_order : (room : List ℕ) → search_given us room ≡ search_given vs room
  unfolding search_given
  any_order room = rw (same_length us vs r, same_equal us vs r, same_found 16 0 0, same_requests)
