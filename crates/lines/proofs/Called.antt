-- A call leaves no choice: at each entry whatever exactly one outcome meets its promise. And what it wrote is within out.
-- Assumes nothing.
use mathlib.Core.Path.{refl}
use mathlib.Core.List.{List, ◌++◌}
use Prim.Native.Nat.{ℕ, ◌≤◌}
use lib.ListN.{length, drop}
use Rattle.put.proofs.Only.{one_result, one_put}
use Rattle.tag.proofs.OnlyOne.{ExactlyOne}
use Rattle.lines.specs.declared.Fed.{Fed}
use Rattle.lines.specs.Calls.{Given, Gives}
use Rattle.text.proofs.Pieces.{put_within}

-- an outcome: the result, and every lent buffer as it is left
pub record Left : Type 0 where
  pub result : Fed
  pub memory : List ℕ
  pub room : List ℕ
  pub out : List ℕ

pub one_call : (g : Given) (o : List ℕ) → ExactlyOne (λ (l : Left). Gives g o l.memory l.room l.out l.result)
one_call g o = record {
  outcome = record { result = record { progress = g.progress; length = length g.text }; memory = g.memory; room = g.room; out = g.text ++ drop (length g.text) o };
  meets = record { progress = refl; memory = refl; room = refl; out = record { count = refl; is = refl } };
  only = λ a b h k i. record {
    result = record { progress = one_result h.progress k.progress i; length = (one_put h.out k.out).0 i };
    memory = one_result h.memory k.memory i;
    room = one_result h.room k.room i;
    out = (one_put h.out k.out).1 i;
  };
}

pub call_within : {g : Given} {o m x o' : List ℕ} {r : Fed} → Gives g o m x o' r → r.length ≤ length o'
call_within h = put_within h.out
