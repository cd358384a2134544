-- What the calls give: a byte taken, and the end of the input. The line so far is kept up to 129 bytes: a line of 129 bytes or more has no
-- form, whatever they are.
-- Assumes nothing.
use Rattle.std.specs.Prelude.{ℕ, ◌+◌, ◌≡◌, List, [], ◌∷◌, ◌++◌, take, set, replicate, ltb, eqb, if◌then◌else◌, Option, Some, None}
use Rattle.put.specs.Put.{Put}
use Rattle.record.specs.declared.Tag.{Tag}
use Rattle.tag.specs.Host.{event_given}
use Rattle.record.specs.declared.Kind.{Kind}
use Rattle.lines.specs.declared.Progress.{Progress}
use Rattle.lines.specs.declared.Fed.{Fed}
use Rattle.lines.specs.Form.{form_of, event_in}
use Rattle.lines.specs.Output.{first_tag, next_number, dash, question, text_of}

-- a session that begins, beside the memory `first_memory`
unfoldable pub started : Progress
started = record { tag = first_tag; number = 1; length = 0; line = replicate 129 0 }

-- the line so far
abbrev pub so_far : Progress → List ℕ
so_far p = take p.length p.line

-- one byte more
unfoldable pub with_byte : Progress → ℕ → Progress
with_byte p b =
    if ltb p.length 129
    then record { tag = p.tag; number = p.number; length = p.length + 1; line = set p.line p.length b }
    else p

-- after a line: the next number, and none of the next line
abbrev pub after_line : Progress → Tag → Progress
after_line p t = record { tag = t; number = next_number p.number; length = 0; line = p.line }

-- the bytes that a call writes, how far the session is then, and memory and room as it leaves them
pub record Given : Type 0 where
  pub text : List ℕ
  pub progress : Progress
  pub memory : List ℕ
  pub room : List ℕ

abbrev pub nothing : Progress → List ℕ → List ℕ → Given
nothing p m x = record { text = []; progress = p; memory = m; room = x }

-- a line that has a form, or none; where the host call refuses, as it never does in a session, no byte is answered
abbrev pub line_given : Option Kind → Progress → List ℕ → List ℕ → List ℕ → Given
line_given (Some k) p l m x =
    let g = event_given p.tag (event_in k l) m x in
    record { text = text_of p.number dash (take g.length g.room); progress = after_line p g.tag; memory = g.memory; room = g.room }
line_given None p l m x = record { text = text_of p.number question []; progress = after_line p p.tag; memory = m; room = x }

-- the line so far ends
unfoldable pub ended : Progress → List ℕ → List ℕ → Given
ended p m x = line_given (form_of (so_far p)) p (so_far p) m x

-- a byte is taken: "Lines end in a newline"
unfoldable pub fed : Progress → ℕ → List ℕ → List ℕ → Given
fed p b m x = if eqb b 0x0A then ended p m x else nothing (with_byte p b) m x

-- the input ends: "a last one may lack it"
unfoldable pub finished : Progress → List ℕ → List ℕ → Given
finished p m x = if eqb p.length 0 then nothing p m x else ended p m x

-- a call that is to give g leaves memory, room and out, which was o, as m', x' and o', and returns r
pub record Gives (g : Given) (o m' x' o' : List ℕ) (r : Fed) : Type 0 where
  pub progress : r.progress ≡ g.progress
  pub memory : m' ≡ g.memory
  pub room : x' ≡ g.room
  pub out : Put g.text o o' r.length

-- what a call for each byte of an input, and one for its end, write
unfoldable pub written : Progress → List ℕ → List ℕ → List ℕ → List ℕ
written p m x [] = (finished p m x).text
written p m x (b ∷ bs) = let g = fed p b m x in g.text ++ written g.progress g.memory g.room bs
