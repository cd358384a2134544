-- "Passwords and registers", the passwords: presenting and changing one.
-- Assumes nothing.
use Rattle.std.specs.Prelude.{ℕ, Bool, true, false, not, get_or, set, ltb, eqb, if◌then◌else◌, Option, Some, None, Result, Ok, Err, MatchResult, ◌≡◌, ◌≤◌, ◌<◌}
use Rattle.rights.specs.declared.Session.{Session}
use Rattle.rights.specs.declared.Session.TheVariants.{Configuration, User1, User2, User3}
use Rattle.rights.specs.declared.Keys.{Keys}
use Rattle.rights.specs.Verdict.{Verdict}
use Rattle.rights.specs.declared.passwords.Presentation.{Presentation}
use Rattle.rights.specs.declared.passwords.UnknownPassword.{UnknownPassword}

-- "four 64-bit passwords (number 0 is configuration)": the session that each opens
unfoldable pub session_of : ℕ → Option Session
session_of n =
    if eqb n 0 then Some Configuration else
    if eqb n 1 then Some User1 else
    if eqb n 2 then Some User2 else
    if eqb n 3 then Some User3 else None

-- and the number of the password that opens a session
abbrev pub password_number : Session → ℕ
password_number Configuration = 0
password_number User1 = 1
password_number User2 = 2
password_number User3 = 3

-- the result is that session, or an error for a number over 3
abbrev pub Opens : ℕ → Result Session UnknownPassword → Type 0
Opens n r = MatchResult r (λ s. (session_of n ≡ Some s) × (n ≤ 3)) (λ e. (e.0 ≡ n) × (3 < n))

-- the session of password n is the open one
unfoldable pub is_open : Option Session → ℕ → Bool
is_open None n = false
is_open (Some Configuration) n = eqb n 0
is_open (Some User1) n = eqb n 1
is_open (Some User2) n = eqb n 2
is_open (Some User3) n = eqb n 3

abbrev pub any_open : Option Session → Bool
any_open None = false
any_open (Some s) = true

abbrev pub password_of : Keys → ℕ → ℕ
password_of k n = get_or k.passwords n 0

abbrev pub with_session : Keys → Option Session → Keys
with_session k s = record { passwords = k.passwords; session = s }

-- "Present B3h .. number over 3 is 10h, sessions unchanged. Wrong value: 0Fh, no session open. Right: that session alone is open."
unfoldable pub present_of : Keys → ℕ → ℕ → Presentation
present_of k n w =
    if ltb 3 n then record { answer = Err 0x10; keys = k } else
    if not (eqb (password_of k n) w) then record { answer = Err 0x0F; keys = with_session k None } else
    record { answer = Ok tt; keys = with_session k (session_of n) }

-- "Write password B1h, same fields: number over 3 is 10h; its session not open 0Fh"
unfoldable pub change_verdict : Option Session → ℕ → Verdict
change_verdict s n =
    if ltb 3 n then Err 0x10 else
    if not (is_open s n) then Err 0x0F else Ok tt

-- "otherwise replaced, session kept"
abbrev pub with_password : Keys → ℕ → ℕ → Keys
with_password k n w = record { passwords = set k.passwords n w; session = k.session }
