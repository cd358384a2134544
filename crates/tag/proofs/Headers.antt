-- Headers: the record that is read of one, and the one that is written of a record, give each other back.
-- Assumes nothing.
use Prim.Native.Nat.{ℕ, zero, suc, ◌+◌, ◌-◌, ◌^◌, ◌≤◌, ◌<◌}
use native.Mathlib.Omega.{arith}
use mathlib.Core.Path.{◌≡◌, refl, ap, ◌∙◌}
use mathlib.Core.Bool.{true, false}
use mathlib.Core.List.{List, ◌++◌}
use lib.ListN.{length, get_or, drop, replicate, length-append, length-drop, take-append-drop}
use lib.Seq.{drop_at}
use borrow.Author.Tests.{eqb-true, eq-eqb}
use Rattle.put.specs.Number.{number_at, bytes_of}
use Rattle.put.proofs.RoundTrips.{places_at, places, all_places, number_of_bytes, bytes_of_number}
use Rattle.rights.proofs.Cases.{both, join}
use Rattle.rights.specs.Registers.{possible}
use Rattle.record.specs.declared.Tag.{Tag}
use Rattle.tag.specs.Rules.{last_end, off_rule, round_rule, held_rule, together_rule, sound}
use Rattle.tag.specs.Image.{mark_of, areas_in, passwords_in, tag_in, mark_rule, lock_rule, zeros, reserved_rule, header_rule, header_of, image_of}
use Rattle.tag.proofs.Locks.{Bits, bits_byte, byte_bits}
use Rattle.tag.proofs.Off.{Off, is_off}

-- ---- from an image to its record, and back

-- the header rules, one by one
pub record Header (blocks : ℕ) (i : List ℕ) : Type 0 where
  pub mark : mark_rule i ≡ true
  pub locks : lock_rule i ≡ true
  pub registers : possible (last_end blocks) (areas_in i) ≡ true
  pub reserved : reserved_rule i ≡ true

pub header_rules : {blocks : ℕ} {i : List ℕ} → header_rule blocks i ≡ true → Header blocks i
unfolding header_rule
header_rules h =
    let halves = both _ _ h in
    let l = both _ _ halves.0 in
    let r = both _ _ halves.1 in
    record { mark = l.0; locks = l.1; registers = r.0; reserved = r.1 }

zero_places : (k : ℕ) (s : List ℕ) (at : ℕ) → zeros k s at ≡ true → replicate k 0 ≡ places_at k s at
unfolding zeros places_at
zero_places zero s at h = refl
zero_places (suc k) s at h =
    let p = both _ _ h in
    rw (eqb-true (get_or s at 0) 0 p.0, zero_places k s (at + 1) p.1)

-- bytes that begin with a header, of a memory of so many bytes, and their record's header
pub header_again : (size : ℕ) (i : List ℕ) → ((n : ℕ) → get_or i n 0 < 256) → get_or i 0 0 ≡ mark_of size → lock_rule i ≡ true → reserved_rule i ≡ true → header_of size (tag_in i) ≡ places_at 64 i 0
unfolding lock_rule reserved_rule header_of tag_in places_at
header_again size i b mark locks reserved =
    rw (zero_places 13 i 51 reserved, ← mark, bits_byte (get_or i 11 0) locks, bytes_of_number 8 i 1 b, bytes_of_number 8 i 19 b, bytes_of_number 8 i 27 b, bytes_of_number 8 i 35 b, bytes_of_number 8 i 43 b)

module _ {blocks : ℕ} {i : List ℕ} (h : Header blocks i) where
  -- "Loading gives a tag with the field off.", by which only the registers could break a record rule
  pub sound_in : sound blocks (tag_in i) ≡ true
  unfolding sound off_rule round_rule held_rule together_rule tag_in
  sound_in = join h.registers refl

  pub image_again : ((n : ℕ) → get_or i n 0 < 256) → 64 ≤ length i → image_of (tag_in i) (drop 64 i) ≡ i
  unfolding image_of mark_rule
  image_again b l =
      rw (length-drop, header_again (length i - 64) i b (eqb-true (get_or i 0 0) (mark_of (length i - 64)) h.mark) h.locks h.reserved, places 64 i 0 l) (take-append-drop 64 i)

pub field_in : (i : List ℕ) → (tag_in i).front.field ≡ false
unfolding tag_in
field_in i = refl

-- ---- from a record to its image, and back

-- what an image can hold of a record: numbers of 64 bits, and four passwords
pub record Lasting (t : Tag) : Type 0 where
  pub uid : t.front.uid < 2 ^ 64
  pub four : length t.vault.keys.passwords ≡ 4
  pub passwords : (n : ℕ) → get_or t.vault.keys.passwords n 0 < 2 ^ 64

pub header_length_lem : (size : ℕ) (t : Tag) → length (header_of size t) ≡ 64
unfolding header_of bytes_of
header_length_lem size t = refl

-- what bytes say of a record's lasting parts that no place of them says alone
pub record Says (i : List ℕ) (t : Tag) : Type 0 where
  pub uid : number_at 8 i 1 ≡ t.front.uid
  pub passwords : passwords_in i ≡ t.vault.keys.passwords
  pub locks : Bits (get_or i 11 0) t.vault.lock0 t.vault.lock1 t.front.lockafi t.front.lockdsfid t.vault.lockcfg

-- a record's header, whatever comes after it
pub header_says : (size : ℕ) (t : Tag) (rest : List ℕ) → Lasting t → Says (header_of size t ++ rest) t
unfolding header_of number_at bytes_of places_at
header_says size t rest l =
    let ps = t.vault.keys.passwords in
    let i = header_of size t ++ rest in
    let p : number_at 8 i 19 ≡ get_or ps 0 0 = number_of_bytes 8 (get_or ps 0 0) (l.passwords 0) in
    let q : number_at 8 i 27 ≡ get_or ps 1 0 = number_of_bytes 8 (get_or ps 1 0) (l.passwords 1) in
    let r : number_at 8 i 35 ≡ get_or ps 2 0 = number_of_bytes 8 (get_or ps 2 0) (l.passwords 2) in
    let s : number_at 8 i 43 ≡ get_or ps 3 0 = number_of_bytes 8 (get_or ps 3 0) (l.passwords 3) in
    record {
      uid = number_of_bytes 8 t.front.uid l.uid;
      passwords = rw (p, q, r, s) (all_places 4 ps l.four);
      locks = byte_bits _ _ _ _ _;
    }

module _ (t : Tag) (m : List ℕ) where
  pub tag_again : Lasting t → Off t.front t.vault.keys.session → tag_in (image_of t m) ≡ t
  unfolding tag_in image_of header_of bytes_of
  tag_again l o =
      let a = header_says (length m) t m l in
      rw (a.uid, a.passwords, a.locks.bit0, a.locks.bit1, a.locks.bit2, a.locks.bit3, a.locks.bit4) (is_off t o)

  pub image_length : length (image_of t m) ≡ 64 + length m
  unfolding image_of
  image_length = length-append (header_of (length m) t) m ∙ rw header_length_lem

  pub memory_again : drop 64 (image_of t m) ≡ m
  unfolding image_of
  memory_again = drop_at (header_of (length m) t) m 64 (header_length_lem (length m) t)

  -- possible registers are all that the header rules ask of a record
  pub header_right : (blocks : ℕ) → possible (last_end blocks) t.vault.areas ≡ true → header_rule blocks (image_of t m) ≡ true
  unfolding header_rule mark_rule lock_rule reserved_rule zeros image_of header_of bytes_of
  header_right blocks p =
      let size : length m ≡ length (image_of t m) - 64 = omega (arith, image_length) in
      let locks = byte_bits t.vault.lock0 t.vault.lock1 t.front.lockafi t.front.lockdsfid t.vault.lockcfg in
      join (join (eq-eqb _ _ (ap mark_of size)) locks.most) (join p refl)
