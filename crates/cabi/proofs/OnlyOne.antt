-- No choice: at each entry whatever, exactly one outcome meets the promise of a call of the boundary. An outcome is the result and every lent
-- buffer as it is left.
-- Assumes nothing.
use mathlib.Core.Path.{refl}
use mathlib.Core.List.{List}
use Prim.Native.Nat.{ℕ}
use Rattle.put.proofs.Only.{one_result}
use Rattle.tag.proofs.OnlyOne.{ExactlyOne}
use Rattle.cabi.specs.Calls.{EventLeft, event_left, EventLeaves, LoadLeft, FillLeaves, load_left, LoadLeaves, SaveLeft, save_left, SaveLeaves, factory_left, FactoryLeaves}
use Rattle.cabi.specs.Calls.{SearchLeft, search_left, SearchLeaves}

pub one_event : (k : ℕ) (frame r m x : List ℕ) → ExactlyOne (λ (o : EventLeft). EventLeaves k frame r m x o.bytes o.memory o.room o.result)
one_event k frame r m x = record {
  outcome = event_left k frame r m x;
  meets = record { result = refl; bytes = refl; memory = refl; room = refl };
  only = λ o p g h i. record {
    result = one_result g.result h.result i;
    bytes = one_result g.bytes h.bytes i;
    memory = one_result g.memory h.memory i;
    room = one_result g.room h.room i;
  };
}

one_filled : (g : LoadLeft) → ExactlyOne (λ (o : LoadLeft). FillLeaves g o.bytes o.memory o.result)
one_filled g = record {
  outcome = g;
  meets = record { result = refl; bytes = refl; memory = refl };
  only = λ o p h k i. record {
    result = one_result h.result k.result i;
    bytes = one_result h.bytes k.bytes i;
    memory = one_result h.memory k.memory i;
  };
}

pub one_load : (i r m : List ℕ) → ExactlyOne (λ (o : LoadLeft). LoadLeaves i r m o.bytes o.memory o.result)
one_load i r m = one_filled (load_left i r m)

pub one_factory : (uid : ℕ) (r m : List ℕ) → ExactlyOne (λ (o : LoadLeft). FactoryLeaves uid r m o.bytes o.memory o.result)
one_factory uid r m = one_filled (factory_left uid r m)

pub one_save : (r m i : List ℕ) → ExactlyOne (λ (o : SaveLeft). SaveLeaves r m i o.image o.result)
one_save r m i = record {
  outcome = save_left r m i;
  meets = record { result = refl; image = refl };
  only = λ o p g h i. record { result = one_result g.result h.result i; image = one_result g.image h.image i };
}

pub one_search : (uids x : List ℕ) → ExactlyOne (λ (o : SearchLeft). SearchLeaves uids x o.list o.result)
one_search uids x = record {
  outcome = search_left uids x;
  meets = record { result = refl; list = refl };
  only = λ o p g h i. record { result = one_result g.result h.result i; list = one_result g.list h.list i };
}
