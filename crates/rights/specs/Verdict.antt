-- What a verdict comes to: what is refused with an error leaves a thing as it was, and what is granted makes it new.
-- Assumes nothing.
use Rattle.std.specs.Prelude.{ℕ, Result, Ok, Err}

-- "Success begins 00h; an error is 01h, code"
abbrev pub Verdict : Type 0
Verdict = Result (Unit {0}) ℕ

-- a thing after a verdict
abbrev pub after_verdict {ℓ} : {A : Type ℓ} → Verdict → A → A → A
after_verdict (Ok u) old new = new
after_verdict (Err c) old new = old

-- the new thing where it is granted, else the error
abbrev pub granting : {A : Type 0} → Verdict → A → Result A ℕ
granting (Ok u) new = Ok new
granting (Err c) new = Err c
