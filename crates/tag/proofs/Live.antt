-- The record rules of a tag in the field, one by one, and how they come from `sound` and lead back to it. With the field on, the rule for
-- the field off asks nothing.
-- Assumes nothing.
use mathlib.Core.Path.{◌≡◌}
use mathlib.Core.Bool.{true, ◌&&◌}
use Prim.Native.Nat.{ℕ}
use Rattle.std.specs.Prelude.{None}
use Rattle.rights.specs.Registers.{possible}
use Rattle.rights.proofs.Cases.{both, join}
use Rattle.record.specs.declared.Tag.{Tag}
use Rattle.tag.specs.Rules.{last_end, off_rule, round_rule, held_rule, together_rule, sound}

abbrev pub Live : ℕ → Tag → Type 0
Live e t = record {
  registers : possible e t.vault.areas ≡ true;
  field : t.front.field ≡ true;
  round : round_rule t.front.round ≡ true;
  held : held_rule t.front.held ≡ true;
  together : together_rule t.front ≡ true;
}

-- a tag in the field with neither round nor held answer
abbrev pub Clear : ℕ → Tag → Type 0
Clear e t = record {
  registers : possible e t.vault.areas ≡ true;
  field : t.front.field ≡ true;
  round : t.front.round ≡ None;
  held : t.front.held ≡ None;
}

pub registers_possible : (blocks : ℕ) (t : Tag) → sound blocks t ≡ true → possible (last_end blocks) t.vault.areas ≡ true
unfolding sound
registers_possible blocks t h = (both (possible (last_end blocks) t.vault.areas) _ h).0

pub sound_live : (blocks : ℕ) (t : Tag) → sound blocks t ≡ true → t.front.field ≡ true → Live (last_end blocks) t
unfolding sound
sound_live blocks t h on =
    let off = off_rule t.front t.vault.keys.session in
    let passing = both (off && round_rule t.front.round) _ (both (possible (last_end blocks) t.vault.areas) _ h).1 in
    let second = both _ _ passing.1 in
    record { registers = registers_possible blocks t h; field = on; round = (both off _ passing.0).1; held = second.0; together = second.1 }

pub live_sound : (blocks : ℕ) (t : Tag) → Live (last_end blocks) t → sound blocks t ≡ true
unfolding sound off_rule
live_sound blocks t l =
    let off : off_rule t.front t.vault.keys.session ≡ true = rw l.field in
    join l.registers (join (join off l.round) (join l.held l.together))

pub clear_live : (e : ℕ) (t : Tag) → Clear e t → Live e t
unfolding round_rule held_rule together_rule
clear_live e t c =
    record { registers = c.registers; field = c.field; round = rw c.round; held = rw c.held; together = rw c.round }
