-- No choice: at each entry whatever, exactly one outcome meets the promise of a host call. "It is shown that it leaves no choice between
-- answers". An outcome is what the call returns and every lent buffer as it is left. The promises name the number of a refusal, and its place
-- where it has one: no two refusals have both the same.
-- Assumes nothing.
use Prim.Native.Nat.{ℕ}
use native.Mathlib.Omega.{arith}
use mathlib.Core.Path.{◌≡◌, refl, sym, ap, ◌∙◌}
use mathlib.Core.Bool.{Bool, true, false, not, ◌&&◌}
use mathlib.Core.List.{List}
use lib.Dec.{leb, ltb, eqb}
use lib.ListN.{length}
use borrow.Author.Tests.{eqb-true, not-true}
use Rattle.std.specs.Prelude.{if◌then◌else◌, is_some, Option, Some, None, Ok, Err}
use Rattle.std.specs.Result.{result_err}
use Rattle.put.proofs.Only.{one_result}
use Rattle.rights.proofs.Cases.{if_one, both}
use Rattle.record.specs.declared.Tag.{Tag}
use Rattle.record.specs.declared.Refusal.{Refusal}
use Rattle.record.specs.declared.Refusal.TheVariants as refusal
use Rattle.record.specs.declared.Outcome.{Outcome}
use Rattle.tag.specs.Rules.{blocks_of, sound}
use Rattle.tag.specs.Step.{Event}
use Rattle.tag.specs.Image.{header_rule}
use Rattle.tag.specs.Fault.{Fault, header_fault, is_protection, is_end, is_reserved, letter_of}
use Rattle.tag.specs.Host.{number_of, place_of, fault_of, Reply, length_in, tag_after, is_memory, fits_image, least_room, is_image, EventGiven, event_given, EventGives}
use Rattle.tag.specs.Host.{LoadGiven, Fills, load_given, LoadGives, SaveGiven, save_given, SaveGives, factory_given, FactoryGives}
use Rattle.tag.proofs.Refused.{event_number, save_number}
use Rattle.tag.proofs.Faults.{some_fault, fault_named}

-- there is an outcome that meets a promise, and any two that meet it are equal
pub record ExactlyOne {O : Type 0} (Meets : O → Type 0) : Type 0 where
  pub outcome : O
  pub meets : Meets outcome
  pub only : (o p : O) → Meets o → Meets p → o ≡ p

-- ---- what is returned

-- the refusal of a number and a place
unfoldable pub refusal_of : ℕ → ℕ → Option Refusal
refusal_of n place =
    if eqb n 1 then Some refusal.Memory else
    if eqb n 2 then Some refusal.Room else
    if eqb n 3 then Some refusal.Record else
    if eqb n 4 then Some refusal.Image else
    if eqb n 0x5A then Some (refusal.Mark place) else
    if eqb n 0x5B then Some (refusal.Lock place) else
    if eqb n 0x5C then Some (refusal.Protection place) else
    if eqb n 0x5D then Some (refusal.End place) else
    if eqb n 0x5E then Some (refusal.Reserved place) else
    if eqb n 6 then Some refusal.Tags else
    if eqb n 7 then Some refusal.Equal else
    if eqb n 18 then Some refusal.Small else None

refusal_again : (r : Option Refusal) → refusal_of (number_of r) (place_of r) ≡ r
unfolding refusal_of
refusal_again None = refl
refusal_again (Some refusal.Memory) = refl
refusal_again (Some refusal.Room) = refl
refusal_again (Some refusal.Record) = refl
refusal_again (Some refusal.Image) = refl
refusal_again (Some (refusal.Mark place)) = refl
refusal_again (Some (refusal.Lock place)) = refl
refusal_again (Some (refusal.Protection place)) = refl
refusal_again (Some (refusal.End place)) = refl
refusal_again (Some (refusal.Reserved place)) = refl
refusal_again (Some refusal.Tags) = refl
refusal_again (Some refusal.Equal) = refl
refusal_again (Some refusal.Small) = refl

-- refusals of one number and one place are one
one_refusal : (r s : Option Refusal) {n p : ℕ} → number_of r ≡ n → number_of s ≡ n → place_of r ≡ p → place_of s ≡ p → r ≡ s
one_refusal r s h k u v =
    sym (refusal_again r) ∙ ap (λ n. refusal_of n (place_of r)) (one_result h k) ∙ ap (refusal_of (number_of s)) (one_result u v) ∙ refusal_again s

-- so a fault is that of one refusal
pub one_fault : (r s : Option Refusal) {f : Fault} → fault_of r ≡ f → fault_of s ≡ f → r ≡ s
one_fault r s h k =
    one_refusal r s (ap (λ (g : Fault). g.number) h) (ap (λ (g : Fault). g.number) k)
    (ap (λ (g : Fault). g.place) h) (ap (λ (g : Fault). g.place) k)

not_placed : true ≡ false → ⊥
not_placed h = let z : ◌≡◌ {A = ℕ} 0 1 = ap (λ (b : Bool). if b then 0 else 1) h in omega arith

-- the numbers that come with a place
abbrev pub has_place : ℕ → Bool
has_place n = leb 0x5A n && leb n 0x5E

-- 5a to 5e alone have a place
pub no_place : (r : Option Refusal) → has_place (number_of r) ≡ false → place_of r ≡ 0
no_place None h = refl
no_place (Some refusal.Memory) h = refl
no_place (Some refusal.Room) h = refl
no_place (Some refusal.Record) h = refl
no_place (Some refusal.Image) h = refl
no_place (Some (refusal.Mark place)) h = absurd (not_placed h)
no_place (Some (refusal.Lock place)) h = absurd (not_placed h)
no_place (Some (refusal.Protection place)) h = absurd (not_placed h)
no_place (Some (refusal.End place)) h = absurd (not_placed h)
no_place (Some (refusal.Reserved place)) h = absurd (not_placed h)
no_place (Some refusal.Tags) h = refl
no_place (Some refusal.Equal) h = refl
no_place (Some refusal.Small) h = refl

-- 02, of number 5: "It becomes 5a size mark, 5b lock byte, 5c protection byte, 5d area end, 5e reserved byte". No refusal has it any more
pub no_five : (r : Option Refusal) → number_of r ≡ 5 → ⊥
unfolding refusal_of
no_five r h =
    let e : number_of (refusal_of 5 (place_of r)) ≡ number_of r = ap number_of (rw h at (refusal_again r)) in
    omega (arith, h, e)

-- "A refusal returns its number": some refusal has it, and it is one without a place
abbrev pub Numbered : ℕ → Type 0
Numbered n = (eqb (number_of (refusal_of n 0)) n && not (has_place n)) ≡ true

pub numbered : (a b c : Bool) (p q r : ℕ) → Numbered p → Numbered q → Numbered r → Numbered (if a then p else if b then q else if c then r else 0)
unfolding refusal_of
numbered true b c p q r x y z = x
numbered false true c p q r x y z = y
numbered false false true p q r x y z = z
numbered false false false p q r x y z = refl

pub some_refusal : {n : ℕ} → Numbered n → number_of (refusal_of n 0) ≡ n
some_refusal {n} d = eqb-true (number_of (refusal_of n 0)) n (both (eqb (number_of (refusal_of n 0)) n) (not (has_place n)) d).0

-- and no other has it
pub one_numbered : (r s : Option Refusal) {n : ℕ} → Numbered n → number_of r ≡ n → number_of s ≡ n → r ≡ s
one_numbered r s {n} d h k =
    let none = not-true (has_place n) (both (eqb (number_of (refusal_of n 0)) n) (not (has_place n)) d).1 in
    one_refusal r s h k (no_place r (rw h none)) (no_place s (rw k none))

-- what a call returns that is refused by this, or by nothing
abbrev outcome_of : Option Refusal → ℕ → Tag → Reply
outcome_of None l t = Ok (record { length = l; tag = t })
outcome_of (Some r) l t = Err r

-- replies to calls on one record are one that have one refusal or none, one length, and one record after them
one_outcome : (t : Tag) (r s : Reply) {l : ℕ} {u : Tag} → result_err r ≡ result_err s → length_in r ≡ l → length_in s ≡ l → tag_after t r ≡ u
    → tag_after t s ≡ u → r ≡ s
one_outcome t (Ok o) (Ok p) e k l v w = λ i. Ok (record { length = one_result k l i; tag = one_result v w i })
one_outcome t (Ok o) (Err q) e k l v w = absurd (not_placed (sym (ap is_some e)))
one_outcome t (Err q) (Ok o) e k l v w = absurd (not_placed (ap is_some e))
one_outcome t (Err q) (Err p) e k l v w = ap (λ (r : Option Refusal). outcome_of r 0 t) e

-- a call on t that is refused by this, or by nothing, returns what is given
record Replies (t : Tag) (n at l : ℕ) (u : Tag) (r : Option Refusal) : Type 0 where
  number : number_of (result_err (outcome_of r l u)) ≡ n
  place : place_of (result_err (outcome_of r l u)) ≡ at
  length : length_in (outcome_of r l u) ≡ l
  tag : tag_after t (outcome_of r l u) ≡ u

-- and some refusal, or none, has the number and the place that are given
abbrev Placed : Tag → ℕ → ℕ → ℕ → Tag → Type 0
Placed t n place l u = Replies t n place l u (refusal_of n place)

refused : (t : Tag) (q : Refusal) → Placed t (number_of (Some q)) (place_of (Some q)) 0 t
refused t q = rw (refusal_again (Some q)) (record { number = refl; place = refl; length = refl; tag = refl })

-- ---- the calls

pub record EventOutcome : Type 0 where
  pub result : Reply
  pub memory : List ℕ
  pub room : List ℕ

-- an event's number has no place
pub event_numbered : (t : Tag) (e : Event) (m x : List ℕ) → Numbered (event_given t e m x).number
unfolding refusal_of
event_numbered t e m x =
    rw (event_number t e m x) (numbered (not (is_memory m)) (ltb (length x) least_room) (not (sound (blocks_of m) t)) 1 2 3 refl refl refl)

pub one_event : (t : Tag) (e : Event) (m x : List ℕ) → ExactlyOne (λ (o : EventOutcome). EventGives t e m x o.memory o.room o.result)
unfolding event_given refusal_of
one_event t e m x = let g = event_given t e m x in record {
  outcome = record { result = outcome_of (refusal_of g.number 0) g.length g.tag; memory = g.memory; room = g.room };
  meets = record { number = given.number; length = given.length; tag = given.tag; memory = refl; room = refl };
  only = λ o p h k i. record {
    result = one_outcome t o.result p.result
        (one_numbered (result_err o.result) (result_err p.result) (event_numbered t e m x) h.number k.number)
        h.length k.length h.tag k.tag i;
    memory = one_result h.memory k.memory i;
    room = one_result h.room k.room i;
  };
}
  where
    P : EventGiven → Type 0
    P g = Placed t g.number 0 g.length g.tag

    given : P (event_given t e m x)
    given =
        if_one P (not (is_memory m)) (λ q. refused t refusal.Memory) (λ q.
        if_one P (ltb (length x) least_room) (λ q. refused t refusal.Room) (λ q.
        if_one P (not (sound (blocks_of m) t)) (λ q. refused t refusal.Record) (λ q. record { number = refl; place = refl; length = refl; tag = refl })))

-- of loading, and of making a factory tag
pub record LoadOutcome : Type 0 where
  pub result : Reply
  pub memory : List ℕ

one_filled : (t : Tag) (g : LoadGiven) → Placed t g.number g.place g.length g.tag → ExactlyOne (λ (o : LoadOutcome). Fills g t o.memory o.result)
one_filled t g given = record {
  outcome = record { result = outcome_of (refusal_of g.number g.place) g.length g.tag; memory = g.memory };
  meets = record { number = given.number; place = given.place; length = given.length; tag = given.tag; memory = refl };
  only = λ o p h k i. record {
    result = one_outcome t o.result p.result
        (one_refusal (result_err o.result) (result_err p.result) h.number k.number h.place k.place) h.length k.length h.tag k.tag i;
    memory = one_result h.memory k.memory i;
  };
}

-- the letter of a place has a refusal at that place
letter_placed : (t : Tag) (place : ℕ) → (letter_of place ≡ 0 → ⊥) → Placed t (letter_of place) place 0 t
unfolding letter_of
letter_placed t place =
    let P : ℕ → Type 0 = λ n. (n ≡ 0 → ⊥) → Placed t n place 0 t in
    if_one P (eqb place 0) (λ e h. refused t (refusal.Mark place)) (λ e.
    if_one P (eqb place 11) (λ e h. refused t (refusal.Lock place)) (λ e.
    if_one P (is_protection place) (λ e h. refused t (refusal.Protection place)) (λ e.
    if_one P (is_end place) (λ e h. refused t (refusal.End place)) (λ e.
    if_one P (is_reserved place) (λ e h. refused t (refusal.Reserved place)) (λ e h. absurd (h refl))))))

pub one_load : (t : Tag) (i m : List ℕ) → ExactlyOne (λ (o : LoadOutcome). LoadGives t i m o.memory o.result)
unfolding load_given refusal_of
one_load t i m = one_filled t (load_given t i m) given
  where
    P : LoadGiven → Type 0
    P g = Placed t g.number g.place g.length g.tag

    wrong : header_rule (blocks_of m) i ≡ false → Placed t (header_fault (blocks_of m) i).number (header_fault (blocks_of m) i).place 0 t
    wrong h =
        let e = (fault_named (blocks_of m) i h).letter in
        rw e (letter_placed t (header_fault (blocks_of m) i).place (λ z. some_fault (blocks_of m) i h (e ∙ z)))

    given : P (load_given t i m)
    given =
        if_one P (not (is_image i)) (λ q. refused t refusal.Image) (λ q.
        if_one P (not (fits_image m i)) (λ q. refused t refusal.Memory) (λ q.
        if_one P (not (header_rule (blocks_of m) i)) (λ q. wrong (not-true _ q)) (λ q. record { number = refl; place = refl; length = refl; tag = refl })))

pub one_factory : (t : Tag) (uid : ℕ) (m : List ℕ) → ExactlyOne (λ (o : LoadOutcome). FactoryGives t uid m o.memory o.result)
unfolding factory_given refusal_of
one_factory t uid m = one_filled t (factory_given t uid m) given
  where
    P : LoadGiven → Type 0
    P g = Placed t g.number g.place g.length g.tag

    given : P (factory_given t uid m)
    given = if_one P (not (is_memory m)) (λ q. refused t refusal.Memory) (λ q. record { number = refl; place = refl; length = refl; tag = refl })

pub record SaveOutcome : Type 0 where
  pub result : Reply
  pub image : List ℕ

-- a number of saving has no place either
save_numbered : (t : Tag) (m i : List ℕ) → Numbered (save_given t m i).number
unfolding refusal_of
save_numbered t m i = rw (save_number t m i) (numbered (not (is_image i)) (not (fits_image m i)) (not (sound (blocks_of m) t)) 4 1 3 refl refl refl)

pub one_save : (t : Tag) (m i : List ℕ) → ExactlyOne (λ (o : SaveOutcome). SaveGives t m i o.image o.result)
unfolding save_given refusal_of
one_save t m i = let g = save_given t m i in record {
  outcome = record { result = outcome_of (refusal_of g.number 0) g.length g.tag; image = g.image };
  meets = record { number = given.number; length = given.length; tag = given.tag; image = refl };
  only = λ o p h k j. record {
    result = one_outcome t o.result p.result
        (one_numbered (result_err o.result) (result_err p.result) (save_numbered t m i) h.number k.number)
        h.length k.length h.tag k.tag j;
    image = one_result h.image k.image j;
  };
}
  where
    P : SaveGiven → Type 0
    P g = Placed t g.number 0 g.length g.tag

    given : P (save_given t m i)
    given =
        if_one P (not (is_image i)) (λ q. refused t refusal.Image) (λ q.
        if_one P (not (fits_image m i)) (λ q. refused t refusal.Memory) (λ q.
        if_one P (not (sound (blocks_of m) t)) (λ q. refused t refusal.Record) (λ q.
        record { number = refl; place = refl; length = refl; tag = refl })))
