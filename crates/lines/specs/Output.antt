-- "Session program": the whole output of a whole input.
-- Assumes nothing.
use Rattle.std.specs.Prelude.{ℕ, ◌+◌, List, [], ◌∷◌, ◌++◌, replicate, ltb, if◌then◌else◌, Option, Some, None}
use Rattle.record.specs.declared.Tag.{Tag}
use Rattle.tag.specs.Step.{step}
use Rattle.tag.specs.Image.{factory}
use Rattle.record.specs.declared.Kind.{Kind}
use Rattle.text.specs.Text.{hex_or, decimal_of}
use Rattle.lines.specs.Form.{lines_of, form_of, event_in}

-- what stands between two lines: the number of the next line, and the tag with its memory
pub record Bench : Type 0 where
  pub number : ℕ
  pub tag : Tag
  pub memory : List ℕ

-- "`tagrun` starts with a factory 16 Kbit tag of UID E0 02 23 04 01 D6 C8 F0", which "has zero memory"; "line number from 1"
abbrev pub first_tag : Tag
first_tag = factory 63 0xE002230401D6C8F0

abbrev pub first_memory : List ℕ
first_memory = replicate 2048 0

unfoldable pub at_first : Bench
at_first = record { number = 1; tag = first_tag; memory = first_memory }

-- the greatest number of 64 bits has no next one
unfoldable pub next_number : ℕ → ℕ
next_number n = if ltb n 0xFFFFFFFFFFFFFFFF then n + 1 else n

-- `-` for silence, and `?` for a line of no form
abbrev pub dash : ℕ
dash = 0x2D

abbrev pub question : ℕ
question = 0x3F

-- "Each output line: line number from 1 in decimal, a space, then the whole answer in hex, `-` for silence, or `?`"
unfoldable pub text_of : ℕ → ℕ → List ℕ → List ℕ
text_of number mark answer = decimal_of number ++ (0x20 ∷ (hex_or mark answer ++ (0x0A ∷ [])))

-- an output line, and the bench after it
pub record Said : Type 0 where
  pub text : List ℕ
  pub bench : Bench

-- "`?` for a line of no such form, which is no event"
abbrev pub said_by : Option Kind → Bench → List ℕ → Said
said_by (Some k) b l =
    let s = step b.tag b.memory (event_in k l) in
    record { text = text_of b.number dash s.answer; bench = record { number = next_number b.number; tag = s.tag; memory = s.memory } }
said_by None b l =
    record { text = text_of b.number question []; bench = record { number = next_number b.number; tag = b.tag; memory = b.memory } }

-- line by line
unfoldable pub output_from : Bench → List (List ℕ) → List ℕ
output_from b [] = []
output_from b (l ∷ ls) = let s = said_by (form_of l) b l in s.text ++ output_from s.bench ls

unfoldable pub output_of : List ℕ → List ℕ
output_of input = output_from at_first (lines_of input)
