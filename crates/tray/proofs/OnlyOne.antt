-- The numbers of the search in their order, what stays where it is refused, and no choice: at each entry whatever, exactly one outcome meets the
-- promise.
-- Assumes nothing.
use Prim.Native.Nat.{ℕ}
use mathlib.Core.Path.{◌≡◌, refl, sym, ap, ◌∙◌}
use mathlib.Core.Bool.{Bool}
use mathlib.Core.List.{List}
use native.Mathlib.Omega.{arith}
use lib.Dec.{ltb}
use lib.ListN.{length}
use Rattle.std.specs.Prelude.{if◌then◌else◌, Result, Ok, Err}
use Rattle.std.specs.Result.{result_err}
use Rattle.record.specs.declared.Refusal.{Refusal}
use Rattle.record.specs.declared.Refusal.TheVariants as refusal
use Rattle.tag.specs.Host.{number_of}
use Rattle.tag.proofs.Refused.{chosen}
use Rattle.rights.proofs.Cases.{if_one}
use Rattle.tag.proofs.OnlyOne.{ExactlyOne, refusal_of, Numbered, numbered, one_numbered}
use Rattle.tray.specs.Tray.{SearchGiven, given, requests_in, search_given, any_equal}

-- "6 for more than 256 tags, then 7 if two UIDs are equal, then 18 if the list's room is too small for all"
pub search_number : (uids room : List ℕ)
    → (search_given uids room).number ≡ (if ltb 256 (length uids) then 6 else if any_equal uids then 7 else if ltb (length room) (length uids) then 18 else 0)
unfolding search_given
search_number uids room = chosen (λ (g : SearchGiven). g.number) (ltb 256 (length uids)) (any_equal uids) (ltb (length room) (length uids)) _ _ _ _

-- "the list is unchanged and the number is 0"
stays : (room : List ℕ) (done : SearchGiven) (a b c : Bool)
    → let g = if a then given 6 0 room else if b then given 7 0 room else if c then given 18 0 room else done in
    (g.number ≡ done.number → ⊥) → (g.requests ≡ 0) × (g.list ≡ room)
stays room done a b c n = grind (arith, n)

pub refused_stays : (uids room : List ℕ) → ((search_given uids room).number ≡ 0 → ⊥)
    → ((search_given uids room).requests ≡ 0) × ((search_given uids room).list ≡ room)
unfolding search_given
refused_stays uids room n = stays room _ (ltb 256 (length uids)) (any_equal uids) (ltb (length room) (length uids)) n

-- what is returned, and the list's room as it is left
pub record SearchOutcome : Type 0 where
  pub result : Result ℕ Refusal
  pub list : List ℕ

abbrev given_by : SearchOutcome → SearchGiven
given_by o = given (number_of (result_err o.result)) (requests_in o.result) o.list

-- an outcome that gives this
record Gives (g : SearchGiven) : Type 0 where
  outcome : SearchOutcome
  gives : given_by outcome ≡ g

-- of one refusal or none, and of one number of requests, there is one result
one_result : (r s : Result ℕ Refusal) → result_err r ≡ result_err s → requests_in r ≡ requests_in s → r ≡ s
one_result (Ok n) (Ok k) e h = ap (λ (n : ℕ). Ok n) h
one_result (Ok n) (Err q) e h = cc
one_result (Err q) (Ok n) e h = cc
one_result (Err q) (Err p) e h = cc

pub one_search : (uids room : List ℕ) → ExactlyOne (λ (o : SearchOutcome). given_by o ≡ search_given uids room)
unfolding search_given refusal_of
one_search uids room = record {
  outcome = some.outcome;
  meets = some.gives;
  only = λ o p h k i. record {
    result =
        one_result o.result p.result
        (one_numbered (result_err o.result) (result_err p.result) numbers (ap (λ (x : SearchGiven). x.number) h) (ap (λ (x : SearchGiven). x.number) k))
        (ap (λ (x : SearchGiven). x.requests) (h ∙ sym k)) i;
    list = ((h ∙ sym k) i).list;
  };
}
  where
    numbers : Numbered (search_given uids room).number
    numbers = rw (search_number uids room) (numbered (ltb 256 (length uids)) (any_equal uids) (ltb (length room) (length uids)) 6 7 18 refl refl refl)

    some : Gives (search_given uids room)
    some =
        if_one Gives (ltb 256 (length uids)) (λ q. record { outcome = record { result = Err refusal.Tags; list = room }; gives = refl }) (λ q.
        if_one Gives (any_equal uids) (λ q. record { outcome = record { result = Err refusal.Equal; list = room }; gives = refl }) (λ q.
        if_one Gives (ltb (length room) (length uids)) (λ q. record { outcome = record { result = Err refusal.Small; list = room }; gives = refl }) (λ q.
        record { outcome = record { result = Ok _; list = _ }; gives = refl })))
