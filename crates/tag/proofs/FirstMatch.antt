-- "Checks, first match wins": what is heard of a frame is what the first matching check of 01's list says.
-- Assumes nothing.
use Prim.Native.Nat.{ℕ}
use mathlib.Core.Path.{◌≡◌, refl}
use mathlib.Core.Bool.{Bool}
use mathlib.Core.List.{List, [], ◌∷◌}
use Rattle.std.specs.Prelude.{if◌then◌else◌}
use Rattle.record.specs.declared.Front.{Front}
use Rattle.tag.specs.declared.Heard.{Heard}
use Rattle.tag.specs.declared.Heard.TheVariants as heard
use Rattle.tag.specs.Table.{entry_of}
use Rattle.tag.specs.Frame.{flag_bit, code_of, option_flag, fields_at, heard_of}
use Rattle.tag.specs.Frame.{check2, check3, check4, check5, check6, select_of_another, check7, check8, check9, check10}

-- a check: whether it matches, and what is then heard
pub record Check : Type 0 where
  pub matches : Bool
  pub says : Heard

-- 01's list, from check 2 on; "Inventory goes to its own section" after check 4
pub listed : Front → List ℕ → List Check
listed t f =
    record { matches = check2 f; says = heard.Silence } ∷
    record { matches = check3 f; says = heard.Silence } ∷
    record { matches = check4 f; says = heard.Silence } ∷
    record { matches = flag_bit 3 f; says = heard.Inventory } ∷
    record { matches = check5 f; says = heard.Silence } ∷
    record { matches = check6 t f; says = if select_of_another t f then heard.Deselected else heard.Silence } ∷
    record { matches = check7 f; says = heard.Error 0x02 } ∷
    record { matches = check8 f; says = heard.Silence } ∷
    record { matches = check9 f; says = heard.Silence } ∷
    record { matches = check10 f; says = heard.Error 0x03 } ∷ []

-- what the first matching one says, and x where none matches
pub first_match : List Check → Heard → Heard
first_match [] x = x
first_match (c ∷ cs) x = if c.matches then c.says else first_match cs x

pub first_match_lem : (t : Front) (f : List ℕ)
    → heard_of t f ≡ first_match (listed t f) (heard.Request (entry_of (code_of f)) (option_flag f) (fields_at f))
unfolding heard_of first_match listed
first_match_lem t f = refl
