-- Parts of the rules for bytes that are a record, as single functions test them: that all together are `record_rule` is the law `record_in_parts`. And
-- a record of which only the passing parts are written.
-- Assumes nothing.
use Rattle.std.specs.Prelude.{ℕ, Bool, true, ◌&&◌, ◌||◌, ◌≡◌, List, ◌++◌, get_or, take, leb, eqb}
use Rattle.record.specs.declared.Tag.{Tag}
use Rattle.tag.specs.Rules.{off_rule, round_rule, held_rule, together_rule}
use Rattle.tag.specs.Image.{header_of}
use Rattle.packed.specs.Bytes.{session_in, round_in, held_in, front_in, record_in, record_rule, passing_of, record_of}

-- "64 field (0, 1), 65 state (0 Ready, 1 Quiet, 2 Selected), 66 session (0 none, 1 to 4 for passwords 0 to 3)"
abbrev pub value_part : List ℕ → Bool
value_part r = leb (get_or r 64 0) 1 && (leb (get_or r 65 0) 2 && leb (get_or r 66 0) 4)

-- "67 round (0 none, 1 open)", no "slot or mask without a round", and the rule of rounds
abbrev pub round_part : List ℕ → Bool
round_part r =
    (leb (get_or r 67 0) 1 && (eqb (get_or r 67 0) 1 || (eqb (get_or r 68 0) 0 && eqb (get_or r 69 0) 0)))
    && round_rule (round_in (get_or r 67 0) (get_or r 68 0) (get_or r 69 0))

-- "70 held (0 none, 1 success, 2 error)", no "code without a held error", and the rule of held answers
abbrev pub held_part : List ℕ → Bool
held_part r =
    (leb (get_or r 70 0) 2 && (eqb (get_or r 70 0) 2 || eqb (get_or r 71 0) 0))
    && held_rule (held_in (get_or r 70 0) (get_or r 71 0))

-- all that is asked of bytes 64 to 71
abbrev pub passing_part : List ℕ → Bool
passing_part r =
    value_part r && (round_part r && (held_part r && (together_rule (front_in r) && off_rule (front_in r) (session_in (get_or r 66 0)))))

-- bytes that were r and are r': their last eight are the passing parts of t, and the others stay. It follows that r' is the record of t where r
-- was a record with the lasting parts of t; that stands here because it needs bytes to be below 256, which who is lent a slice of them knows
pub record PassingLeft (t : Tag) (r r' : List ℕ) : Type 0 where
  pub is : r' ≡ take 64 r ++ passing_of t
  pub whole : (size blocks : ℕ) → record_rule size blocks r ≡ true → header_of size t ≡ header_of size (record_in r) → r' ≡ record_of size t
