-- Entries of 8 bytes: UIDs "as they travel", and a list with "each entry lowest byte first".
-- Assumes nothing.
use Rattle.std.specs.Prelude.{ℕ, zero, suc, ◌+◌, ◌/◌, List, [], ◌∷◌, ◌++◌, length}
use Rattle.put.specs.Number.{number_at, bytes_of}
use Rattle.caselines.specs.Limits.{uid_length}

-- so many entries, from a place of the bytes on
unfoldable pub entries_from : ℕ → ℕ → List ℕ → List ℕ
entries_from zero at bytes = []
entries_from (suc k) at bytes = number_at uid_length bytes at ∷ entries_from k (at + uid_length) bytes

-- the entries that bytes stand for
abbrev pub entries_in : List ℕ → List ℕ
entries_in bytes = entries_from (length bytes / uid_length) 0 bytes

-- the bytes of a list
unfoldable pub entry_bytes : List ℕ → List ℕ
entry_bytes [] = []
entry_bytes (e ∷ es) = bytes_of uid_length e ++ entry_bytes es
