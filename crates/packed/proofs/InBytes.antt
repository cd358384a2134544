-- The rules for bytes 64 to 71, tested on the bytes as they lie.
-- Assumes nothing.
use Prim.Native.Nat.{ℕ}
use mathlib.Core.Path.{◌≡◌, refl, sym}
use mathlib.Core.Bool.{Bool, true, false, not, ◌&&◌, ◌||◌}
use mathlib.Core.List.{List}
use lib.ListN.{get_or}
use lib.Dec.{leb, eqb}
use borrow.Author.Tests.{eqb-true}
use Rattle.std.specs.Prelude.{Option}
use Rattle.rights.specs.Verdict.{Verdict}
use Rattle.rights.specs.declared.Session.{Session}
use Rattle.rights.specs.Passwords.{any_open}
use Rattle.rights.specs.Registers.{possible}
use Rattle.rights.proofs.Cases.{and_true, and_false, if_one}
use Rattle.record.specs.declared.State.{State}
use Rattle.record.specs.declared.Round.{Round}
use Rattle.record.specs.Tests.{is_ready, is_quiet, no_round, none_held}
use Rattle.tag.specs.Rules.{last_end, off_rule, round_rule, held_rule, together_rule, sound}
use Rattle.tag.specs.Image.{areas_in, tag_in}
use Rattle.packed.specs.Bytes.{state_in, session_in, round_in, held_in, front_in, record_in, lasting_rule, value_rule, unused_rule, record_rule}
use Rattle.packed.specs.Parts.{value_part, passing_part}

-- ---- what a byte stands for, and its test

pub ready_in : (b : ℕ) → is_ready (state_in b) ≡ eqb b 0
ready_in b =
    let P : State → Type 0 = λ s. is_ready s ≡ eqb b 0 in
    if_one P (eqb b 0) (λ zero. sym zero) (λ other. if_one P (eqb b 1) (λ e. sym other) (λ e. sym other))

pub quiet_in : (b : ℕ) → is_quiet (state_in b) ≡ eqb b 1
quiet_in b =
    let P : State → Type 0 = λ s. is_quiet s ≡ eqb b 1 in
    if_one P (eqb b 0) (λ zero. rw (eqb-true b 0 zero)) (λ other. if_one P (eqb b 1) (λ e. sym e) (λ e. sym e))

pub closed_in : (b : ℕ) → not (any_open (session_in b)) ≡ eqb b 0
closed_in b =
    let P : Option Session → Type 0 = λ s. not (any_open s) ≡ eqb b 0 in
    if_one P (eqb b 0) (λ zero. sym zero) (λ other.
    if_one P (eqb b 1) (λ e. sym other) (λ e.
    if_one P (eqb b 2) (λ e. sym other) (λ e.
    if_one P (eqb b 3) (λ e. sym other) (λ e. sym other))))

pub no_round_in : (b slot mask : ℕ) → no_round (round_in b slot mask) ≡ not (eqb b 1)
no_round_in b slot mask = if_one (λ (r : Option Round). no_round r ≡ not (eqb b 1)) (eqb b 1) (λ e. rw e) (λ e. rw e)

pub none_held_in : (b code : ℕ) → none_held (held_in b code) ≡ eqb b 0
none_held_in b code =
    let P : Option Verdict → Type 0 = λ h. none_held h ≡ eqb b 0 in
    if_one P (eqb b 0) (λ zero. sym zero) (λ other. if_one P (eqb b 1) (λ e. sym other) (λ e. sym other))

-- ---- all rules, in the order in which they are tested

in_order : (l v r h u w p o q k t : Bool)
    → ((l && ((v && (r && h)) && (u && w))) && (p && ((o && q) && (k && t)))) ≡ (l && (p && (v && (((r && u) && q) && (((h && w) && k) && (t && o))))))
in_order false v r h u w p o q k t = refl
in_order true false r h u w p o q k t = rw and_false
in_order true true false h u w p o q k t = rw and_false
in_order true true true false u w p o q k t = rw (and_false, and_false)
in_order true true true true false w p o q k t = rw and_false
in_order true true true true true false p o q k t = rw (and_false, and_false)
in_order true true true true true true false o q k t = refl
in_order true true true true true true true false q k t = rw (and_false t, and_false k, and_false q)
in_order true true true true true true true true false k t = refl
in_order true true true true true true true true true false t = refl
in_order true true true true true true true true true true t = rw and_true

pub record_in_parts : (size blocks : ℕ) (r : List ℕ)
    → record_rule size blocks r ≡ (lasting_rule size r && (possible (last_end blocks) (areas_in r) && passing_part r))
unfolding record_rule value_rule unused_rule sound record_in tag_in
record_in_parts size blocks r =
    let round = get_or r 67 0 in
    let held = get_or r 70 0 in
    in_order (lasting_rule size r) (value_part r) (leb round 1) (leb held 2)
    (eqb round 1 || (eqb (get_or r 68 0) 0 && eqb (get_or r 69 0) 0)) (eqb held 2 || eqb (get_or r 71 0) 0)
    (possible (last_end blocks) (areas_in r)) (off_rule (front_in r) (session_in (get_or r 66 0)))
    (round_rule (round_in round (get_or r 68 0) (get_or r 69 0))) (held_rule (held_in held (get_or r 71 0))) (together_rule (front_in r))
