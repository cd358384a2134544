-- Every verdict of a command is success or an error code of document 01, so that it may be held: "a held answer is success or one error
-- code of this page".
-- Assumes nothing.
use mathlib.Core.Path.{◌≡◌, refl}
use mathlib.Core.Bool.{Bool, true, false, not}
use Prim.Native.Nat.{ℕ, ◌+◌}
use lib.Dec.{leb, ltb, eqb}
use Rattle.std.specs.Prelude.{Option, Some}
use Rattle.rights.specs.declared.View.{View}
use Rattle.rights.specs.Verdict.{Verdict}
use Rattle.rights.specs.declared.Keys.{Keys}
use Rattle.rights.specs.declared.Session.{Session}
use Rattle.rights.specs.declared.passwords.Presentation.{Presentation}
use Rattle.rights.specs.Passwords.{is_open, password_of, present_of, change_verdict}
use Rattle.rights.specs.Blocks.{readable_at, writable_at, locked_at, crosses_at, any_barred}
use Rattle.rights.specs.Registers.{is_register, allows, permits, register_verdict}
use Rattle.rights.proofs.Cases.{if_one}
use Rattle.tag.specs.Rules.{is_code, held_rule}
use Rattle.tag.specs.Blocks.{read_verdict, status_verdict, write_verdict, lock_verdict}
use Rattle.tag.specs.Commands.{unless}

abbrev pub Coded : Verdict → Type 0
Coded v = held_rule (Some v) ≡ true

pub read_coded : (v : View) (limit first : ℕ) → Coded (read_verdict v limit first)
unfolding held_rule is_code read_verdict
read_coded v limit first =
    if_one Coded (leb limit first) (λ e. refl) (λ e.
    if_one Coded (not (readable_at v first)) (λ e. refl) (λ e. refl))

pub status_coded : (limit first : ℕ) → Coded (status_verdict limit first)
unfolding held_rule is_code status_verdict
status_coded limit first = if_one Coded (leb limit first) (λ e. refl) (λ e. refl)

pub write_coded : (v : View) (limit first more : ℕ) → Coded (write_verdict v limit first more)
unfolding held_rule is_code write_verdict
write_coded v limit first more =
    if_one Coded (ltb 4 (more + 1)) (λ e. refl) (λ e.
    if_one Coded (leb limit (first + more)) (λ e. refl) (λ e.
    if_one Coded (crosses_at v.areas first more) (λ e. refl) (λ e.
    if_one Coded (any_barred v first (more + 1)) (λ e. refl) (λ e. refl))))

pub lock_coded : (v : View) (b : ℕ) → Coded (lock_verdict v b)
unfolding held_rule is_code lock_verdict
lock_coded v b =
    if_one Coded (ltb 1 b) (λ e. refl) (λ e.
    if_one Coded (locked_at v b) (λ e. refl) (λ e.
    if_one Coded (not (writable_at v b)) (λ e. refl) (λ e. refl)))

-- 11h and 12h, of AFI and DSFID
pub unless_coded : (locked : Bool) (c : ℕ) → is_code c ≡ true → Coded (unless locked c)
unfolding held_rule
unless_coded true c h = h
unless_coded false c h = refl

pub present_coded : (k : Keys) (n w : ℕ) → Coded (present_of k n w).answer
unfolding held_rule is_code present_of
present_coded k n w =
    let P : Presentation → Type 0 = λ p. Coded p.answer in
    if_one P (ltb 3 n) (λ e. refl) (λ e.
    if_one P (not (eqb (password_of k n) w)) (λ e. refl) (λ e. refl))

pub change_coded : (s : Option Session) (n : ℕ) → Coded (change_verdict s n)
unfolding held_rule is_code change_verdict
change_coded s n =
    if_one Coded (ltb 3 n) (λ e. refl) (λ e.
    if_one Coded (not (is_open s n)) (λ e. refl) (λ e. refl))

pub register_coded : (e : ℕ) (v : View) (address x : ℕ) → Coded (register_verdict e v address x)
unfolding held_rule is_code register_verdict
register_coded e v address x =
    if_one Coded (not (is_register address)) (λ h. refl) (λ h.
    if_one Coded (not (permits v)) (λ h. refl) (λ h.
    if_one Coded (not (allows e v.areas address x)) (λ h. refl) (λ h. refl)))
