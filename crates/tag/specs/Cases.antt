-- "Bench cases": the starred ones, one table, over which proofs/Starred makes one claim; the error of 01 that no starred case sees; and the
-- session that 01 prints. Expected bytes are literals: of 01, or of the second model where 01 gives no bytes. An expected record is the case's own,
-- with what its events change.
-- Assumes nothing.
use Rattle.std.specs.Prelude.{ℕ, suc, ◌≡◌, true, List, [], ◌∷◌, ◌++◌, reverse, replicate, Option, Some}
use Rattle.put.specs.Number.{bytes_of}
use Rattle.crc.specs.Crc.{crc_bytes}
use Rattle.rights.specs.declared.Areas.{Areas}
use Rattle.rights.specs.declared.Session.{Session}
use Rattle.rights.specs.declared.Session.TheVariants.{Configuration}
use Rattle.rights.specs.Passwords.{with_session}
use Rattle.rights.specs.Blocks.{area_of}
use Rattle.record.specs.declared.Tag.{Tag}
use Rattle.record.specs.Update.{with_round, with_front, with_vault, with_keys, running}
use Rattle.tag.specs.Step.{Event, field_on, end_of_frame, request, run}
use Rattle.tag.specs.Image.{factory}

-- k bytes, as they are written: the first is the highest of the number
unfoldable pub bytes : ℕ → ℕ → List ℕ
bytes k n = reverse (bytes_of k n)

-- bytes and the CRC after them; registers, a block and its area; or a record, memory, events, the answers to them, and record and memory
-- after them
pub data Case : Type 0 where
  checked : List ℕ → List ℕ → Case
  placed : Areas → ℕ → ℕ → Case
  played : Tag → List ℕ → List Event → List (List ℕ) → Tag → List ℕ → Case

-- what a case says; of events the whole outcome: every answer, every part of the record, lasting or passing, and every byte of the memory
unfoldable pub Fact : Case → Type 0
Fact (checked s c) = crc_bytes s ≡ c
Fact (placed a b i) = area_of a b ≡ i
Fact (played t m es answers t' m') = run t m es ≡ record { answers = answers; tag = t'; memory = m' }

-- every case of a list holds, numbered from n on: where one does not, antt refuses the line of its number
pub data Hold : ℕ → List Case → Type 0 where
  end : {n : ℕ} → Hold n []
  case : (n : ℕ) {c : Case} {cs : List Case} → Fact c → Hold (suc n) cs → Hold n (c ∷ cs)

-- ---- the tags and memories of the cases

unfoldable pub ends : ℕ → ℕ → ℕ → ℕ → Areas
ends second x y z = record { rfa1ss = 0; enda1 = x; rfa2ss = second; enda2 = y; rfa3ss = 0; enda3 = z; rfa4ss = 0 }

unfoldable pub ours : ℕ
ours = 0xE002230401D6C8F0

-- a UID whose highest four bits are 0, so that slot 0 is its own after a mask of 60 bits, and whose lowest four are not
unfoldable pub low : ℕ
low = 0x0002230401D6C8F5

-- a tag with these area registers
unfoldable pub with_areas : Tag → Areas → Tag
with_areas t a = let v = t.vault in with_vault t (record { areas = a; lock0 = v.lock0; lock1 = v.lock1; lockcfg = v.lockcfg; keys = v.keys })

-- "64 Kbit, ENDA1 = 12, other ends 255", and with RFA2SS = 09h
unfoldable pub split : Tag
split = with_areas (factory 255 ours) (ends 0 12 255 255)

unfoldable pub split_hidden : Tag
split_hidden = with_areas (factory 255 ours) (ends 0x09 12 255 255)

-- a tag with its field on; with a session open; with a round at slot 0, of such a mask length
unfoldable pub with_field : Tag → Tag
with_field t = with_front t (record {
  uid = t.front.uid;
  afi = t.front.afi;
  dsfid = t.front.dsfid;
  lockafi = t.front.lockafi;
  lockdsfid = t.front.lockdsfid;
  field = true;
  state = t.front.state;
  round = t.front.round;
  held = t.front.held;
})

unfoldable pub in_session : Option Session → Tag → Tag
in_session s t = with_vault t (with_keys t.vault (with_session t.vault.keys s))

unfoldable pub in_round : ℕ → Tag → Tag
in_round mask t = with_front t (with_round t.front (running 0 mask))

-- 8,192 bytes, zero but for 01h to 0Ch in blocks 102 to 104
unfoldable pub filled : List ℕ
filled = replicate 408 0 ++ bytes 12 0x0102030405060708090A0B0C ++ replicate 7772 0

unfoldable pub cases : List Case
cases =
    -- "CRC of 00 is 78 F0; of 00 F0 6B is 11 67; of 00 00 F0 C8 D6 01 04 23 02 E0 is 64 A3 (001)."
    checked (bytes 1 0x00) (bytes 2 0x78F0)
    ∷ checked (bytes 3 0x00F06B) (bytes 2 0x1167)
    ∷ checked (bytes 10 0x0000F0C8D601042302E0) (bytes 2 0x64A3)
    -- "64 Kbit, ENDA1 = 12, other ends 255: block 103 is Area 1 (004), 104 Area 2."
    ∷ placed (ends 0 12 255 255) 103 1
    ∷ placed (ends 0 12 255 255) 104 2
    -- "Same, RFA2SS = 09h, no session: five blocks from 102 give two; one from 104 gives 15h."
    ∷ played split_hidden filled
    (field_on ∷ request (bytes 6 0x02236604565E) ∷ request (bytes 5 0x02206809BF) ∷ [])
    ([] ∷ (bytes 11 0x000102030405060708405F) ∷ (bytes 4 0x0115B351) ∷ [])
    (with_field split_hidden) filled
    -- "Same: writing four from 102 gives 0Fh, nothing written."
    ∷ played split filled
    (field_on ∷ request (bytes 22 0x02246603AAAAAAAAAAAAAAAAAAAAAAAAAAAAAAAA5818) ∷ [])
    ([] ∷ (bytes 4 0x010F68EE) ∷ [])
    (with_field split) filled
    -- and with RFA2SS = 09h too
    ∷ played split_hidden filled
    (field_on ∷ request (bytes 22 0x02246603AAAAAAAAAAAAAAAAAAAAAAAAAAAAAAAA5818) ∷ [])
    ([] ∷ (bytes 4 0x010F68EE) ∷ [])
    (with_field split_hidden) filled
    -- "16 Kbit: 30h of block 511 answers; 512 gives 10h."
    ∷ played (factory 63 ours) (replicate 2048 0)
    (field_on ∷ request (bytes 6 0x0230FF014FAD) ∷ request (bytes 6 0x023000021460) ∷ [])
    ([] ∷ (bytes 7 0x000000000077CF) ∷ (bytes 4 0x01101E06) ∷ [])
    (with_field (factory 63 ours)) (replicate 2048 0)
    -- "Factory: 24h of two from FEh succeeds; of three, 10h."
    ∷ played (factory 63 ours) (replicate 2048 0)
    (field_on ∷ request (bytes 14 0x0224FE0101020304050607087171) ∷ [])
    ([] ∷ (bytes 3 0x0078F0) ∷ [])
    (with_field (factory 63 ours)) (replicate 1016 0 ++ bytes 8 0x0102030405060708 ++ replicate 1024 0)
    ∷ played (factory 63 ours) (replicate 2048 0)
    (field_on ∷ request (bytes 18 0x0224FE020102030405060708090A0B0C0ECA) ∷ [])
    ([] ∷ (bytes 4 0x01101E06) ∷ [])
    (with_field (factory 63 ours)) (replicate 2048 0)
    -- "ENDA1 = 12: ENDA2 = 12 gives 13h; 13 is taken. Then ENDA1 = 5 gives 13h."
    ∷ played split (replicate 8192 0)
    (field_on ∷ request (bytes 14 0x02B3020000000000000000004CC5) ∷ request (bytes 7 0x02A102070CA555) ∷ request (bytes 7 0x02A102070D2C44)
    ∷ request (bytes 7 0x02A1020505D4FB) ∷ request (bytes 6 0x02A00207708D) ∷ [])
    ([] ∷ (bytes 3 0x0078F0) ∷ (bytes 4 0x01138534) ∷ (bytes 3 0x0078F0) ∷ (bytes 4 0x01138534) ∷ (bytes 4 0x000DA2D4) ∷ [])
    (with_field (in_session (Some Configuration) (with_areas split (ends 0 12 13 255)))) (replicate 8192 0)
    -- "Session 2 open, wrong password 1: 0Fh, session 2 closed."
    ∷ played (factory 63 ours) (replicate 2048 0)
    (field_on ∷ request (bytes 14 0x02B302020000000000000000B65E) ∷ request (bytes 14 0x02B3020101000000000000000E09)
    ∷ request (bytes 14 0x02B1020207000000000000009A69) ∷ [])
    ([] ∷ (bytes 3 0x0078F0) ∷ (bytes 4 0x010F68EE) ∷ (bytes 4 0x010F68EE) ∷ [])
    (with_field (factory 63 ours)) (replicate 2048 0)
    -- "16 slots: mask length 60 is heard, 61 is silence."
    ∷ played (factory 63 low) (replicate 2048 0)
    (field_on ∷ request (bytes 13 0x06013CF5C8D60104230200752E) ∷ [])
    ([] ∷ (bytes 12 0x0000F5C8D601042302000BD3) ∷ [])
    (with_field (in_round 60 (factory 63 low))) (replicate 2048 0)
    ∷ played (factory 63 low) (replicate 2048 0)
    (field_on ∷ request (bytes 13 0x06013DF5C8D601042302008863) ∷ [])
    ([] ∷ [] ∷ [])
    (with_field (factory 63 low)) (replicate 2048 0)
    ∷ []

-- ---- "Errors that have looked right", the one that no starred case sees: "Dropping a held answer's work along with the answer."

unfoldable pub errors : List Case
errors =
    -- the work of a held answer is done, and an end of frame gives the answer out
    played (factory 63 ours) (replicate 2048 0)
    (field_on ∷ request (bytes 9 0x422100AABBCCDD934E) ∷ end_of_frame ∷ end_of_frame ∷ [])
    ([] ∷ [] ∷ (bytes 3 0x0078F0) ∷ [] ∷ [])
    (with_field (factory 63 ours)) (bytes 4 0xAABBCCDD ++ replicate 2044 0)
    -- another frame drops the answer, and the work stays
    ∷ played (factory 63 ours) (replicate 2048 0)
    (field_on ∷ request (bytes 9 0x422100AABBCCDD934E) ∷ request (bytes 5 0x0220004750) ∷ end_of_frame ∷ [])
    ([] ∷ [] ∷ (bytes 7 0x00AABBCCDD627C) ∷ [] ∷ [])
    (with_field (factory 63 ours)) (bytes 4 0xAABBCCDD ++ replicate 2044 0)
    ∷ []

-- ---- the session that 01 prints, over `run`

unfoldable pub session : List Event
session =
    field_on
    ∷ request (bytes 5 0x260100F60A)
    ∷ request (bytes 5 0x0220004750)
    ∷ request (bytes 6 0x023000021460)
    ∷ request (bytes 14 0x02B3020100000000000000013899)
    ∷ request (bytes 14 0x02B3020000000000000000004CC5)
    ∷ []

unfoldable pub printed : List (List ℕ)
printed =
    []
    ∷ (bytes 12 0x0000F0C8D601042302E064A3)
    ∷ (bytes 7 0x000000000077CF)
    ∷ (bytes 4 0x01101E06)
    ∷ (bytes 4 0x010F68EE)
    ∷ (bytes 3 0x0078F0)
    ∷ []
