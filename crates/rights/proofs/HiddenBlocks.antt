-- What a shut session keeps from being read, written, opened or changed: the laws that the theorem of secrecy, above this crate, cites.
-- Assumes nothing.
use mathlib.Core.Path.{◌≡◌, refl, sym, ◌∙◌}
use mathlib.Core.Logic.{◌≢◌}
use mathlib.Core.Bool.{Bool, true, false, not, ◌&&◌, ◌||◌}
use Prim.Native.Nat.{ℕ, suc, ◌+◌, ◌≤◌, ◌<◌}
use native.Mathlib.Omega.{arith}
use lib.Dec.{leb, ltb, eqb}
use borrow.Author.Tests.{leb-true, leb-false, ltb-false, le-leb, le-ltb, eq-eqb, ne_eqb, eqb-true, not-false}
use Rattle.std.specs.Prelude.{if◌then◌else◌, Option, None, Ok}
use Rattle.rights.specs.declared.Keys.{Keys}
use Rattle.rights.specs.declared.Session.{Session}
use Rattle.rights.specs.declared.View.{View}
use Rattle.rights.specs.declared.passwords.Presentation.{Presentation}
use Rattle.rights.specs.Passwords.{session_of, is_open, password_of, present_of}
use Rattle.rights.specs.Blocks.{area_of, register_of, named, protection, serves, may_read, readable_at, writable_at, locked_at, barred_at, any_barred, hidden_by, in_session, OnlyThis, OnlyThese}
use Rattle.rights.specs.Registers.{permits, register_verdict}
use Rattle.rights.proofs.Cases.{if_one, if_both, both, join}
use Rattle.rights.proofs.Borders.{hidden_in, hidden_unreadable, hidden_unwritable}
use Rattle.rights.proofs.Sessions.{opens_alone}
use Rattle.rights.proofs.Possible.{done_allowed}

-- of two tests that never both hold, one holds
pub other_false : (h r : Bool) → (h ≡ true → r ≡ false) → r ≡ true → h ≡ false
other_false true r never e = let z : ◌≡◌ {A = ℕ} 0 1 = cc (never refl) in absurd (omega arith)
other_false false r never e = refl

pub none_open : (n : ℕ) → is_open None n ≡ false
unfolding is_open
none_open n = refl

-- ---- blocks that may be read or written are not hidden

module _ (chosen : ℕ → Bool) (v : View) (shut : (n : ℕ) → chosen n ≡ true → is_open v.session n ≡ false) (b : ℕ) where
  pub readable_unhidden : readable_at v b ≡ true → hidden_by chosen v.areas b ≡ false
  readable_unhidden = other_false _ _ (hidden_unreadable chosen v shut b)

  pub writable_unhidden : writable_at v b ≡ true → hidden_by chosen v.areas b ≡ false
  writable_unhidden = other_false _ _ (hidden_unwritable chosen v shut b)

-- ---- and what is hidden is what only the sessions of the set make readable

-- the one session that a password opens is its own
open_is : (n k : ℕ) → is_open (session_of n) k ≡ true → k ≡ n
unfolding session_of is_open
open_is n k e = go (leb n 3) refl
  where
    go : (b : Bool) → leb n 3 ≡ b → k ≡ n
    go true h = eqb-true k n (sym (opens_alone n k (leb-true n 3 h)) ∙ e)
    go false h =
        let over : 3 < n = leb-false n 3 h in
        let other : (m : ℕ) → m ≤ 3 → eqb n m ≡ false = λ m l. ne_eqb n m (λ q. omega arith) in
        let none : false ≡ true = rw (other 0 (omega arith), other 1 (omega arith), other 2 (omega arith), other 3 (omega arith)) at e in
        let z : ◌≡◌ {A = ℕ} 0 1 = cc in absurd (omega arith)

-- the register of a block that is not readable to all, but in a session
guarded_in : (i f : ℕ) (s : Option Session) → may_read i f None ≡ false → may_read i f s ≡ true
    → ((not (eqb i 1) ≡ true) × (leb 2 (protection f) ≡ true)) × (is_open s (named f) ≡ true)
unfolding may_read serves is_open
guarded_in i f s h k = go (eqb i 1) (ltb (protection f) 2) refl (eqb (named f) 0) h k
  where
    go : (x y : Bool) → ltb (protection f) 2 ≡ y → (z : Bool)
        → (if x then true else if y then true else if z then false else false) ≡ false
        → (if x then true else if y then true else if z then false else is_open s (named f)) ≡ true
        → ((not x ≡ true) × (leb 2 (protection f) ≡ true)) × (is_open s (named f) ≡ true)
    go true y e z h k = let z : ◌≡◌ {A = ℕ} 0 1 = cc in absurd (omega arith)
    go false true e z h k = let z : ◌≡◌ {A = ℕ} 0 1 = cc in absurd (omega arith)
    go false false e true h k = let z : ◌≡◌ {A = ℕ} 0 1 = cc in absurd (omega arith)
    go false false e false h k = ((refl, le-leb 2 (protection f) (ltb-false (protection f) 2 e)), k)

module _ (chosen : ℕ → Bool) (v : View) (b : ℕ) where
  abbrev register : ℕ
  register = register_of v.areas (area_of v.areas b)

  abbrev name : ℕ
  name = named register

  only_these : chosen 0 ≡ false → hidden_by chosen v.areas b ≡ true → OnlyThese chosen v b
  unfolding readable_at may_read serves
  only_these zeroth h =
      let p = hidden_in chosen v.areas b h in
      let some : name ≢ 0 = λ q. let z : ◌≡◌ {A = ℕ} 0 1 = cc (rw q at p.names) in omega arith in
      let own : is_open (session_of name) name ≡ true = opens_alone name name (omega arith) ∙ eq-eqb name name refl in
      record {
        by = name;
        one = p.names;
        opens = simp (p.later, le-ltb (protection register) 2 p.guarded, ne_eqb name 0 some) own;
        others = λ s shut. hidden_unreadable chosen (in_session v s) shut b h;
      }

  these_only : OnlyThese chosen v b → hidden_by chosen v.areas b ≡ true
  unfolding hidden_by readable_at
  these_only o =
      let s = guarded_in (area_of v.areas b) register (session_of o.by) (o.others None (λ n e. none_open n)) o.opens in
      let is : name ≡ o.by = open_is o.by name s.1 in
      join s.0.0 (join s.0.1 (rw is o.one))

  -- demand 3: "that only that password makes readable", of a set of passwords 1 to 3
  pub hidden_only : chosen 0 ≡ false
      → (hidden_by chosen v.areas b ≡ true → OnlyThese chosen v b) × (OnlyThese chosen v b → hidden_by chosen v.areas b ≡ true)
  hidden_only zeroth = (only_these zeroth, these_only)

-- and of one password
pub hidden_by_one : (p : ℕ) → p ≢ 0 → (v : View) (b : ℕ)
    → (hidden_by (λ n. eqb n p) v.areas b ≡ true → OnlyThis p v b) × (OnlyThis p v b → hidden_by (λ n. eqb n p) v.areas b ≡ true)
hidden_by_one p some v b =
    let law = hidden_only (λ n. eqb n p) v b (ne_eqb 0 p (λ q. some (sym q))) in
    let same : (n : ℕ) → eqb n p ≡ true → n ≡ p = λ n e. eqb-true n p e in (
      λ h. let o = law.0 h in record { opens = rw (same o.by o.one) at o.opens; others = λ s shut. o.others s (λ n e. rw (same n e) shut) },
      λ o. law.1 (record { by = p; one = eq-eqb p p refl; opens = o.opens; others = λ s shut. o.others s (shut p (eq-eqb p p refl)) }),
    )

-- "any block not writable or locked": where none is, the first is writable, and none of the others is
pub none_barred : (v : View) (b n : ℕ) → any_barred v b (suc n) ≡ false → (writable_at v b ≡ true) × (any_barred v (b + 1) n ≡ false)
unfolding any_barred barred_at
none_barred v b n h = go (locked_at v b) (writable_at v b) (any_barred v (b + 1) n) h
  where
    go : (l w r : Bool) → ((l || not w) || r) ≡ false → (w ≡ true) × (r ≡ false)
    go true w r h = let z : ◌≡◌ {A = ℕ} 0 1 = cc in absurd (omega arith)
    go false true r h = (refl, h)
    go false false r h = let z : ◌≡◌ {A = ℕ} 0 1 = cc in absurd (omega arith)

-- ---- sessions

-- the sessions of a set stay shut, unless a password of the set is presented
module _ (guarding : ℕ → Bool) (k : Keys)
    (shut : (n : ℕ) → guarding n ≡ true → is_open k.session n ≡ false)
    (n w : ℕ) (never : (guarding n && eqb (password_of k n) w) ≡ false) where
  abbrev Stays : Presentation → Type 0
  Stays p = (c : ℕ) → guarding c ≡ true → is_open p.keys.session c ≡ false

  pub present_shut : Stays (present_of k n w)
  unfolding present_of
  present_shut =
      if_one Stays (ltb 3 n) (λ over. shut) (λ within.
      if_one Stays (not (eqb (password_of k n) w))
      (λ wrong c g. none_open c)
      (λ right c g. go (not-false _ right) c g (ltb-false 3 n within) (eqb c n) refl))
    where
      go : eqb (password_of k n) w ≡ true → (c : ℕ) → guarding c ≡ true → n ≤ 3 → (same : Bool) → eqb c n ≡ same → is_open (session_of n) c ≡ false
      go right c g h true e =
          let q : c ≡ n = eqb-true c n e in
          let p : (guarding n && eqb (password_of k n) w) ≡ true = join (rw q at g) right in
          let z : ◌≡◌ {A = ℕ} 0 1 = cc in absurd (omega arith)
      go right c g h false e = opens_alone n c h ∙ e

-- two presentations tell the same, and leave the same session open
pub record SamePresented (p q : Presentation) : Type 0 where
  pub answer : p.answer ≡ q.answer
  pub session : p.keys.session ≡ q.keys.session

-- so it is of two keys with the same session whose passwords of a number are both right or both wrong
pub present_same : (k l : Keys) (n w : ℕ) → k.session ≡ l.session → eqb (password_of k n) w ≡ eqb (password_of l n) w
    → SamePresented (present_of k n w) (present_of l n w)
unfolding present_of
present_same k l n w s e =
    rw e
    (if_both SamePresented (ltb 3 n) (record { answer = refl; session = s })
    (if_both SamePresented (not (eqb (password_of l n) w)) (record { answer = refl; session = refl }) (record { answer = refl; session = refl })))

-- a register is written only in the configuration session
pub written_open : (e : ℕ) (v : View) (address x : ℕ) → register_verdict e v address x ≡ Ok tt → is_open v.session 0 ≡ true
unfolding permits
written_open e v address x h = (both (is_open v.session 0) (not v.lockcfg) (done_allowed e v address x h).0).0
