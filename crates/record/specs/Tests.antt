-- Tests of a record's passing parts.
-- Assumes nothing.
use Rattle.std.specs.Prelude.{Bool, true, false, Option, Some, None}
use Rattle.rights.specs.Verdict.{Verdict}
use Rattle.record.specs.declared.State.{State}
use Rattle.record.specs.declared.State.TheVariants.{Ready, Quiet, Selected}
use Rattle.record.specs.declared.Round.{Round}

abbrev pub is_ready : State → Bool
is_ready Ready = true
is_ready Quiet = false
is_ready Selected = false

abbrev pub is_quiet : State → Bool
is_quiet Ready = false
is_quiet Quiet = true
is_quiet Selected = false

abbrev pub is_selected : State → Bool
is_selected Ready = false
is_selected Quiet = false
is_selected Selected = true

abbrev pub no_round : Option Round → Bool
no_round None = true
no_round (Some o) = false

abbrev pub none_held : Option Verdict → Bool
none_held None = true
none_held (Some v) = false
