-- "Record rules": each a definition of its own, joined in `sound`. Those of the registers are `possible`, of the crate rights.
-- Assumes nothing.
use Rattle.std.specs.Prelude.{ℕ, ◌-◌, ◌/◌, Bool, true, not, ◌&&◌, ◌||◌, List, length, leb, eqb, Option, Some, None, Ok, Err}
use Rattle.rights.specs.Verdict.{Verdict}
use Rattle.rights.specs.declared.Session.{Session}
use Rattle.rights.specs.Passwords.{any_open}
use Rattle.rights.specs.Registers.{possible}
use Rattle.record.specs.declared.Front.{Front}
use Rattle.record.specs.declared.Tag.{Tag}
use Rattle.record.specs.declared.Round.{Round}
use Rattle.record.specs.Tests.{is_ready, is_quiet, no_round, none_held}

-- "4 bytes a block", and E: 63 for 512 blocks, 255 for 2,048
abbrev pub blocks_of : List ℕ → ℕ
blocks_of m = length m / 4

abbrev pub last_end : ℕ → ℕ
last_end blocks = blocks / 8 - 1

-- "With the field off nothing passing is set and the state is Ready."
unfoldable pub off_rule : Front → Option Session → Bool
off_rule f s = f.field || ((is_ready f.state && not (any_open s)) && (no_round f.round && none_held f.held))

-- "A round has slot 0 to 15 and mask length at most 60"
unfoldable pub round_rule : Option Round → Bool
round_rule None = true
round_rule (Some o) = leb o.slot 15 && leb o.mask 60

-- the error codes of document 01: 02h, 03h, 0Fh to 15h
unfoldable pub is_code : ℕ → Bool
is_code c = (eqb c 0x02 || eqb c 0x03) || (leb 0x0F c && leb c 0x15)

-- "a held answer is success or one error code of this page"
unfoldable pub held_rule : Option Verdict → Bool
held_rule None = true
held_rule (Some (Ok tt)) = true
held_rule (Some (Err c)) = is_code c

-- "A round never stands with a held answer nor in Quiet."
unfoldable pub together_rule : Front → Bool
together_rule f = no_round f.round || (none_held f.held && not (is_quiet f.state))

-- all record rules, for a memory of so many blocks
unfoldable pub sound : ℕ → Tag → Bool
sound blocks t =
    possible (last_end blocks) t.vault.areas
    && ((off_rule t.front t.vault.keys.session && round_rule t.front.round)
    && (held_rule t.front.held && together_rule t.front))
