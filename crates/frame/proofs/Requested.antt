-- What is known of a frame that is heard as a request: laws for the crates above, so that nobody there unfolds `heard_of`.
-- Assumes nothing.
use mathlib.Core.Path.{◌≡◌, refl, ◌∙◌}
use mathlib.Core.Bool.{Bool, false}
use mathlib.Core.List.{List}
use Prim.Native.Nat.{ℕ, ◌-◌, ◌≤◌}
use native.Mathlib.Omega.{arith}
use lib.ListN.{length, length-take, length-drop}
use borrow.Author.Tests.{eqb-true, not-false}
use Rattle.record.specs.declared.Front.{Front}
use Rattle.tag.specs.declared.Entry.{Entry}
use Rattle.tag.specs.declared.Heard.{Heard}
use Rattle.tag.specs.declared.Heard.TheVariants.{Request}
use Rattle.tag.specs.Table.{entry_of, length_of}
use Rattle.tag.specs.Frame.{option_flag, code_of, end_of, after_code, fields_at, fields_from, unlisted, check7, check8, heard_of}
use Rattle.tag.proofs.Came.{Hears, hears}
use Rattle.tag.proofs.Came as shape
use Rattle.frame.proofs.Within.{long_enough, within}

-- a frame f that is heard as a request of a row e of the table, with Option_flag or without, whose fields begin at start: they lie within the
-- frame and have the row's length, and the row is that of the frame's code, which is listed
pub record Requested (f : List ℕ) (e : Entry) (o : Bool) (start : ℕ) : Type 0 where
  pub entry : e ≡ entry_of (code_of f)
  pub option : o ≡ option_flag f
  pub long : 4 ≤ length f
  pub least : 2 ≤ start
  pub most : start ≤ end_of f
  pub listed : unlisted e.command ≡ false
  pub sized : length (fields_from start f) ≡ length_of e (fields_from start f)

-- what is heard decides the request
same_request : (f : List ℕ) {d e : Entry} {p o : Bool} {n m : ℕ} → Request d p n ≡ Request e o m → Requested f d p n → Requested f e o m
same_request f {d} {e} {p} {o} {n} {m} h r =
    let same : (d ≡ e) × (p ≡ o) × (n ≡ m) = (cc, cc, cc) in rw (← same.0, ← same.1, ← same.2) r

-- check 8, of fields that lie within the frame
sized_by : (f : List ℕ) → fields_at f ≤ end_of f → check8 f ≡ false
    → length (fields_from (fields_at f) f) ≡ length_of (entry_of (code_of f)) (fields_from (fields_at f) f)
unfolding check8
sized_by f w e =
    let n : length (fields_from (fields_at f) f) ≡ end_of f - fields_at f = simp (length-take, length-drop) (omega arith) in
    n ∙ eqb-true _ _ (not-false _ e)

least_place : (f : List ℕ) → 2 ≤ fields_at f
unfolding fields_at after_code
least_place f = grind arith

module _ (t : Front) (f : List ℕ) where
  -- nothing but a frame that passes all checks is heard so
  heard_as : {x : Heard} {e : Entry} {o : Bool} {start : ℕ} → Hears t f x → x ≡ Request e o start → Requested f e o start
  unfolding check7
  heard_as shape.silent h = absurd cc
  heard_as shape.another h = absurd cc
  heard_as shape.inventory h = absurd cc
  heard_as (shape.wrong c k) h = absurd cc
  heard_as (shape.passes p) h =
      let long = long_enough f p.two in
      let most = within t f long p.five p.six in
      same_request f h
      (record {
        entry = refl;
        option = refl;
        long = long;
        least = least_place f;
        most = most;
        listed = p.seven;
        sized = sized_by f most p.eight;
      })

  pub requested : {e : Entry} {o : Bool} {start : ℕ} → heard_of t f ≡ Request e o start → Requested f e o start
  requested h = heard_as (hears t f) h
