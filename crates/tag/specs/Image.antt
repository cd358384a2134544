-- "Image: 64-byte header, then user memory."
-- Assumes nothing.
use Rattle.std.specs.Prelude.{ℕ, zero, suc, ◌+◌, ◌-◌, ◌*◌, Bool, true, false, ◌&&◌, List, [], ◌∷◌, ◌++◌, length, get_or, replicate, leb, eqb, if◌then◌else◌, None}
use Rattle.put.specs.Number.{number_at, bytes_of}
use Rattle.rights.specs.declared.Areas.{Areas}
use Rattle.rights.specs.declared.Session.TheVariants as session
use Rattle.rights.specs.Registers.{one_if, registers_of, possible}
use Rattle.record.specs.declared.Tag.{Tag}
use Rattle.record.specs.declared.State.TheVariants.{Ready}
use Rattle.tag.specs.Rules.{last_end}
use Rattle.tag.specs.Frame.{bit}

abbrev pub header_length : ℕ
header_length = 64

-- ---- from image to record

-- "Byte 0: 1 for 16 Kbit, 2 for 64 Kbit", by the length of the user memory
abbrev pub mark_of : ℕ → ℕ
mark_of size = if eqb size 2048 then 1 else 2

-- "12 to 18 RFA1SS, ENDA1, RFA2SS, ENDA2, RFA3SS, ENDA3, RFA4SS"
abbrev pub areas_in : List ℕ → Areas
areas_in i = record { rfa1ss = get_or i 12 0; enda1 = get_or i 13 0; rfa2ss = get_or i 14 0; enda2 = get_or i 15 0; rfa3ss = get_or i 16 0; enda3 = get_or i 17 0; rfa4ss = get_or i 18 0 }

-- "19 to 50 passwords 0 to 3"
abbrev pub passwords_in : List ℕ → List ℕ
passwords_in i = number_at 8 i 19 ∷ number_at 8 i 27 ∷ number_at 8 i 35 ∷ number_at 8 i 43 ∷ []

-- "1 to 8 UID; 9 AFI; 10 DSFID; 11 locks (bits 0, 1 blocks 0, 1; bit 2 AFI; bit 3 DSFID; bit 4 LOCK_CFG; others 0)". "Loading gives a tag with
-- the field off."
unfoldable pub tag_in : List ℕ → Tag
tag_in i = record {
  front = record { uid = number_at 8 i 1; afi = get_or i 9 0; dsfid = get_or i 10 0; lockafi = bit 2 (get_or i 11 0); lockdsfid = bit 3 (get_or i 11 0); field = false; state = Ready; round = None; held = None };
  vault = record { areas = areas_in i; lock0 = bit 0 (get_or i 11 0); lock1 = bit 1 (get_or i 11 0); lockcfg = bit 4 (get_or i 11 0); keys = record { passwords = passwords_in i; session = None } };
}

-- ---- header rules, in the order of the bytes

-- byte 0 fits the image's length
unfoldable pub mark_rule : List ℕ → Bool
mark_rule i = eqb (get_or i 0 0) (mark_of (length i - header_length))

-- byte 11: "others 0"
unfoldable pub lock_rule : List ℕ → Bool
lock_rule i = leb (get_or i 11 0) 0x1F

-- k bytes from a place on are zero
unfoldable pub zeros : ℕ → List ℕ → ℕ → Bool
zeros zero s at = true
zeros (suc k) s at = eqb (get_or s at 0) 0 && zeros k s (at + 1)

-- "51 to 63 zero"
unfoldable pub reserved_rule : List ℕ → Bool
reserved_rule i = zeros 13 i 51

unfoldable pub header_rule : ℕ → List ℕ → Bool
header_rule blocks i =
    (mark_rule i && lock_rule i) && (possible (last_end blocks) (areas_in i) && reserved_rule i)

-- ---- from record to image

abbrev pub lock_byte : Tag → ℕ
lock_byte t =
    one_if t.vault.lock0 + 2 * one_if t.vault.lock1 + 4 * one_if t.front.lockafi + 8 * one_if t.front.lockdsfid + 16 * one_if t.vault.lockcfg

abbrev pub password_bytes : List ℕ → List ℕ
password_bytes ps = bytes_of 8 (get_or ps 0 0) ++ bytes_of 8 (get_or ps 1 0) ++ bytes_of 8 (get_or ps 2 0) ++ bytes_of 8 (get_or ps 3 0)

-- "Saving writes lasting parts only"
unfoldable pub header_of : ℕ → Tag → List ℕ
header_of size t =
    (mark_of size ∷ bytes_of 8 t.front.uid)
    ++ (t.front.afi ∷ t.front.dsfid ∷ lock_byte t ∷ registers_of t.vault.areas)
    ++ password_bytes t.vault.keys.passwords
    ++ replicate 13 0

unfoldable pub image_of : Tag → List ℕ → List ℕ
image_of t m = header_of (length m) t ++ m

-- "A factory tag has zero memory, passwords, locks, AFI, DSFID and RFAiSS, and all ends at E."
unfoldable pub factory : ℕ → ℕ → Tag
factory e uid = record {
  front = record { uid = uid; afi = 0; dsfid = 0; lockafi = false; lockdsfid = false; field = false; state = Ready; round = None; held = None };
  vault = record { areas = record { rfa1ss = 0; enda1 = e; rfa2ss = 0; enda2 = e; rfa3ss = 0; enda3 = e; rfa4ss = 0 }; lock0 = false; lock1 = false; lockcfg = false; keys = record { passwords = 0 ∷ 0 ∷ 0 ∷ 0 ∷ []; session = None } };
}
