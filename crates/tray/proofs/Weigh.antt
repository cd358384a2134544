-- What is found weighs what is there, whatever each UID weighs: so many UIDs, and each as often.
-- Assumes nothing.
use mathlib.Core.Path.{◌≡◌, refl, sym, ap, ◌∙◌}
use mathlib.Core.Bool.{Bool, true, false}
use mathlib.Core.List.{List, [], ◌∷◌, ◌++◌}
use Prim.Native.Nat.{ℕ, zero, suc, ◌+◌, ◌*◌, ◌/◌, ◌%◌, ◌^◌, ◌≤◌, ◌<◌}
use native.Mathlib.Nat.{mod-lt, mod-one, mod-eq_of_lt}
use native.Mathlib.Omega.{arith}
use lib.Dec.{eqb}
use lib.ListN.{length}
use lib.Pow.{pow_pos}
use borrow.Author.Tests.{eqb-true, eqb-false}
use Rattle.std.specs.Prelude.{if◌then◌else◌}
use Rattle.rights.proofs.Cases.{neither}
use Rattle.tag.specs.Inventory.{fits}
use Rattle.tray.specs.Tray.{speaks_in, those, joined, total, longer, heard, found, is_in, any_equal, times_in, Each, none, more}
use Rattle.tray.proofs.Slots.{answer_longer, total_same, total_none, total_add, total_one, longer_below}

unfoldable pub weigh : (ℕ → ℕ) → List ℕ → ℕ
weigh w [] = 0
weigh w (u ∷ us) = w u + weigh w us

weigh_append : (w : ℕ → ℕ) (us vs : List ℕ) → weigh w (us ++ vs) ≡ weigh w us + weigh w vs
unfolding weigh
weigh_append w [] vs = omega arith
weigh_append w (u ∷ us) vs = omega (arith, weigh_append w us vs)

weigh_joined : (w : ℕ → ℕ) (f : ℕ → List ℕ) (k s : ℕ) → weigh w (joined f k s) ≡ total (λ x. weigh w (f x)) k s
unfolding weigh joined total
weigh_joined w f zero s = refl
weigh_joined w f (suc k) s = weigh_append w (f s) (joined f k (s + 1)) ∙ ap (λ (n : ℕ). weigh w (f s) + n) (weigh_joined w f k (s + 1))

pub weigh_length : (us : List ℕ) → weigh (λ u. 1) us ≡ length us
unfolding weigh
weigh_length [] = refl
weigh_length (u ∷ us) = omega (arith, weigh_length us)

pub weigh_times : (u : ℕ) (us : List ℕ) → weigh (λ v. if eqb u v then 1 else 0) us ≡ times_in u us
unfolding weigh times_in
weigh_times u [] = refl
weigh_times u (v ∷ us) = ap (λ (n : ℕ). (if eqb u v then 1 else 0) + n) (weigh_times u us)

-- ---- the slots of a request share out those that its mask fits

module _ (w : ℕ → ℕ) (mask bits : ℕ) where
  -- what one more UID adds in a slot
  one_more : (u : ℕ) (us : List ℕ) (x : ℕ) → fits mask bits u ≡ true
      → weigh w (those (speaks_in mask bits x) (u ∷ us)) ≡ (if eqb (u / 2 ^ bits % 16) x then w u else 0) + weigh w (those (speaks_in mask bits x) us)
  unfolding those speaks_in weigh
  one_more u us x e = grind arith

  no_more : (u : ℕ) (us : List ℕ) (x : ℕ) → fits mask bits u ≡ false
      → weigh w (those (speaks_in mask bits x) (u ∷ us)) ≡ weigh w (those (speaks_in mask bits x) us)
  unfolding those speaks_in
  no_more u us x e = rw e

  pub shared_out : (us : List ℕ) → total (λ x. weigh w (those (speaks_in mask bits x) us)) 16 0 ≡ weigh w (those (fits mask bits) us)
  unfolding those weigh
  shared_out [] = total_none 16 0
  shared_out (u ∷ us) = here (fits mask bits u) refl (shared_out us)
    where
      here : (b : Bool) → fits mask bits u ≡ b → total (λ x. weigh w (those (speaks_in mask bits x) us)) 16 0 ≡ weigh w (those (fits mask bits) us)
          → total (λ x. weigh w (those (speaks_in mask bits x) (u ∷ us))) 16 0 ≡ weigh w (those (fits mask bits) (u ∷ us))
      here true e r =
          let t = u / 2 ^ bits % 16 in
          let l : t < 16 = mod-lt (u / 2 ^ bits) (omega arith) in
          total_same _ _ 16 0 (λ x a b. one_more u us x e)
          ∙ total_add (λ x. if eqb t x then w u else 0) (λ x. weigh w (those (speaks_in mask bits x) us)) 16 0
          ∙ rw e (omega (arith, total_one (w u) t 16 0 (omega arith) (omega arith)))
      here false e r = total_same _ _ 16 0 (λ x a b. no_more u us x e) ∙ rw e r

-- ---- a slot gives what answers in it, if the search that goes again does

weigh_heard : (w : ℕ → ℕ) (us : List ℕ) (again : ℕ → ℕ → List ℕ) (mask bits : ℕ) → (2 ≤ length us → weigh w (again mask bits) ≡ weigh w us)
    → weigh w (heard us again mask bits) ≡ weigh w us
unfolding heard
weigh_heard w [] again mask bits e = refl
weigh_heard w (u ∷ []) again mask bits e = refl
weigh_heard w (u ∷ v ∷ us) again mask bits e = e (omega arith)

-- ---- where all UIDs differ no two have all 64 bits of a mask

in_those : (test : ℕ → Bool) (u : ℕ) (us : List ℕ) → is_in u us ≡ false → is_in u (those test us) ≡ false
unfolding those is_in
in_those test u [] e = e
in_those test u (v ∷ us) e = grind (arith, in_those test u us)

differ_those : (test : ℕ → Bool) (us : List ℕ) → any_equal us ≡ false → any_equal (those test us) ≡ false
unfolding those any_equal
differ_those test [] e = e
differ_those test (u ∷ us) e = grind (arith, differ_those test us, in_those test u us)

pub each_those : {P : ℕ → Type 0} (test : ℕ → Bool) {us : List ℕ} → Each P us → Each (λ u. P u × (test u ≡ true)) (those test us)
unfolding those
each_those test none = none
each_those {P} test (more {u} {us} p ps) = here (test u) refl (each_those test ps)
  where
    here : (b : Bool) → test u ≡ b → Each (λ u. P u × (test u ≡ true)) (those test us) → Each (λ u. P u × (test u ≡ true)) (those test (u ∷ us))
    here true f r = rw f (more (p, f) r)
    here false f r = rw f r

two_same : (n : ℕ) {us : List ℕ} → Each (λ u. u ≡ n) us → any_equal us ≡ false → 2 ≤ length us → ⊥
unfolding any_equal is_in
two_same n none e l = omega arith
two_same n (more p none) e l = omega arith
two_same n (more {u} p (more {u = v} {us} q r)) e l = eqb-false u v (neither (eqb u v) _ (neither _ _ e).0).0 (p ∙ sym q)

pub each_map : {P Q : ℕ → Type 0} → ((u : ℕ) → P u → Q u) → {us : List ℕ} → Each P us → Each Q us
each_map f none = none
each_map f (more {u} p ps) = more (f u p) (each_map f ps)

-- .. so that a mask of 64 bits fits one at most
pub apart : (uids : List ℕ) → Each (λ u. u < 2 ^ 64) uids → false ≡ any_equal uids → (mask : ℕ) → length (those (fits mask 64) uids) < 2
unfolding fits
apart uids ok differ mask =
    grind (arith, two_same mask (each_map whole (each_those (fits mask 64) ok)) (differ_those (fits mask 64) uids (sym differ)))
  where
    whole : (u : ℕ) → (u < 2 ^ 64) × (fits mask 64 u ≡ true) → u ≡ mask
    whole u p = sym (mod-eq_of_lt p.0) ∙ eqb-true _ _ p.1

-- ---- the search

-- every UID fits the empty mask
pub everyone : (us : List ℕ) → those (fits 0 0) us ≡ us
unfolding those fits
everyone [] = refl
everyone (u ∷ us) = let e : u % 1 ≡ 0 = mod-one u in rw (e, everyone us)

module _ (w : ℕ → ℕ) (uids : List ℕ) (ok : Each (λ u. u < 2 ^ 64) uids) (differ : any_equal uids ≡ false) where
  node : (k mask bits : ℕ) → mask < 2 ^ bits
      → ((x : ℕ) → x < 16 → 2 ≤ length (those (fits (longer mask bits x) (bits + 4)) uids)
      → weigh w (found k uids (longer mask bits x) (bits + 4)) ≡ weigh w (those (fits (longer mask bits x) (bits + 4)) uids))
      → weigh w (found (suc k) uids mask bits) ≡ weigh w (those (fits mask bits) uids)
  unfolding found
  node k mask bits m again = weigh_joined w _ 16 0 ∙ total_same _ _ 16 0 slot ∙ shared_out w mask bits uids
    where
      slot : (x : ℕ) → 0 ≤ x → x < 0 + 16
          → weigh w (heard (those (speaks_in mask bits x) uids) (found k uids) (longer mask bits x) (bits + 4)) ≡ weigh w (those (speaks_in mask bits x) uids)
      slot x a b =
          let q = answer_longer mask bits x m uids in
          weigh_heard w (those (speaks_in mask bits x) uids) (found k uids) (longer mask bits x) (bits + 4)
          (λ l. again x (omega arith) (rw q at l) ∙ ap (weigh w) (sym q))

  all_found : (k mask bits : ℕ) → bits + 4 * suc k ≡ 64 → mask < 2 ^ bits → weigh w (found (suc k) uids mask bits) ≡ weigh w (those (fits mask bits) uids)
  all_found zero mask bits e m =
      let b : bits + 4 ≡ 64 = omega arith in
      node 0 mask bits m (λ x l h. absurd (omega (arith, rw b at h, apart uids ok (sym differ) (longer mask bits x))))
  all_found (suc k) mask bits e m = node (suc k) mask bits m (λ x l h. all_found k (longer mask bits x) (bits + 4) (omega arith) (longer_below mask bits x m l))

  pub all_weigh : weigh w (found 16 uids 0 0) ≡ weigh w uids
  all_weigh = all_found 15 0 0 refl (pow_pos 0) ∙ ap (weigh w) (everyone uids)
