-- The later parts of `heard_of`, by which its code is cut in functions.
-- Assumes nothing.
use Rattle.std.specs.Prelude.{List, ℕ, if◌then◌else◌}
use Rattle.record.specs.declared.Front.{Front}
use Rattle.tag.specs.declared.Heard.{Heard}
use Rattle.tag.specs.declared.Heard.TheVariants as heard
use Rattle.tag.specs.Table.{entry_of}
use Rattle.tag.specs.Frame.{option_flag, code_of, fields_at, check5, check6, select_of_another, check7, check8, check9, check10}

-- checks 7 to 10
abbrev pub asked_of : List ℕ → Heard
asked_of f =
    if check7 f then heard.Error 0x02 else
    if check8 f then heard.Silence else
    if check9 f then heard.Silence else
    if check10 f then heard.Error 0x03 else
    heard.Request (entry_of (code_of f)) (option_flag f) (fields_at f)

-- checks 5 to 10
abbrev pub meant_of : Front → List ℕ → Heard
meant_of t f =
    if check5 f then heard.Silence else
    if check6 t f then (if select_of_another t f then heard.Deselected else heard.Silence) else
    asked_of f
