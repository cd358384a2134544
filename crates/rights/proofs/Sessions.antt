-- Laws of presenting and changing passwords.
-- Assumes nothing.
use mathlib.Core.Path.{◌≡◌, refl}
use mathlib.Core.Logic.{◌≢◌}
use mathlib.Core.Bool.{Bool, true, false, not}
use Prim.Native.Nat.{ℕ, zero, suc, ◌≤◌, ◌<◌}
use native.Mathlib.Omega.{arith}
use lib.Dec.{ltb, eqb}
use lib.ListN.{length}
use lib.Seq.{get_or-set_same, get_or-set_other}
use borrow.Author.Tests.{le-ltb, lt-ltb, ltb-false, ne_eqb, eq-eqb}
use Rattle.std.specs.Prelude.{if◌then◌else◌, Option, None, Ok, Err}
use Rattle.rights.specs.declared.Keys.{Keys}
use Rattle.rights.specs.declared.Session.{Session}
use Rattle.rights.specs.Verdict.{Verdict, after_verdict}
use Rattle.rights.specs.declared.passwords.Presentation.{Presentation}
use Rattle.rights.specs.Passwords.{session_of, is_open, password_of, with_session, with_password, present_of, change_verdict}
use Rattle.rights.proofs.Cases.{if_one}

-- "number over 3 is 10h, sessions unchanged"
pub over_presented : (k : Keys) (n w : ℕ) → 3 < n → present_of k n w ≡ record { answer = Err 0x10; keys = k }
unfolding present_of
over_presented k n w h = rw (lt-ltb 3 n h)

-- "Wrong value: 0Fh, no session open": the outcome names no password, so it is the same whatever the password is
pub wrong_presented : (k : Keys) (n w : ℕ) → n ≤ 3 → password_of k n ≢ w → present_of k n w ≡ record { answer = Err 0x0F; keys = with_session k None }
unfolding present_of
wrong_presented k n w h d = rw (le-ltb 3 n h, ne_eqb _ _ d)

-- "Right: that session alone is open."
pub right_presented : (k : Keys) (n w : ℕ) → n ≤ 3 → password_of k n ≡ w → present_of k n w ≡ record { answer = Ok tt; keys = with_session k (session_of n) }
unfolding present_of
right_presented k n w h d = rw (le-ltb 3 n h, eq-eqb _ _ d)

pub opens_alone : (n m : ℕ) → n ≤ 3 → is_open (session_of n) m ≡ eqb m n
unfolding session_of is_open
opens_alone zero m h = refl
opens_alone (suc zero) m h = refl
opens_alone (suc (suc zero)) m h = refl
opens_alone (suc (suc (suc zero))) m h = refl
opens_alone (suc (suc (suc (suc n)))) m h = absurd (omega arith)

-- and no presentation changes a password
pub present_keeps : (k : Keys) (n w : ℕ) → (present_of k n w).keys.passwords ≡ k.passwords
unfolding present_of
present_keeps k n w =
    if_one (λ (p : Presentation). p.keys.passwords ≡ k.passwords) (ltb 3 n) (λ e. refl)
    (λ e. if_one (λ (p : Presentation). p.keys.passwords ≡ k.passwords) (not (eqb (password_of k n) w)) (λ e. refl) (λ e. refl))

-- changing password n leaves the others, and the session, whatever the verdict
pub change_leaves : (d : Verdict) (k : Keys) (n w m : ℕ) → m ≢ n → password_of (after_verdict d k (with_password k n w)) m ≡ password_of k m
change_leaves (Ok tt) k n w m other = get_or-set_other k.passwords n m w 0 other
change_leaves (Err c) k n w m other = refl

pub change_keeps : (d : Verdict) (k : Keys) (n w : ℕ) → (after_verdict d k (with_password k n w)).session ≡ k.session
change_keeps (Ok tt) k n w = refl
change_keeps (Err c) k n w = refl

-- "otherwise replaced": the password is the one given
pub change_replaces : (k : Keys) (n w : ℕ) → n < length k.passwords → password_of (with_password k n w) n ≡ w
change_replaces k n w h = get_or-set_same k.passwords n w 0 h

-- a password is replaced only in its own session, and its number is one of the four
pub change_open : (s : Option Session) (n : ℕ) → change_verdict s n ≡ Ok tt → (n ≤ 3) × (is_open s n ≡ true)
unfolding change_verdict
change_open s n e = go (ltb 3 n) (is_open s n) refl e
  where
    go : (o t : Bool) → ltb 3 n ≡ o → (if◌then◌else◌ {A = Verdict} o (Err 0x10) (if not t then Err 0x0F else Ok tt)) ≡ Ok tt → (n ≤ 3) × (t ≡ true)
    go true t w e = let z : ◌≡◌ {A = ℕ} 0 1 = cc in absurd (omega arith)
    go false true w e = (ltb-false 3 n w, refl)
    go false false w e = let z : ◌≡◌ {A = ℕ} 0 1 = cc in absurd (omega arith)
