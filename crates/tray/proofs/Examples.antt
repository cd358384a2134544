-- The search on small trays, computed.
-- Assumes nothing.
use mathlib.Core.Path.{◌≡◌, refl}
use mathlib.Core.List.{[], ◌∷◌}
use Rattle.put.specs.Number.{bytes_of}
use Rattle.crc.specs.Crc.{crc_bit, crc_bits, crc_byte, crc_from, crc_of, crc_bytes}
use Rattle.tag.specs.Inventory.{fits}
use Rattle.tray.specs.Tray.{speaks_in, those, joined, heard, found, follow, sent, search_finds, search_sends, search_given, given, any_equal, is_in}
use Rattle.tray.specs.Tags.{frames_of, frames_sent}

-- no tags: one request, and none is found
pub none_there : (search_finds [] ≡ []) × (search_sends [] ≡ 1)
unfolding found sent joined heard follow those
none_there = (refl, refl)

-- UID 10h before 02h: the lowest group is compared first, and each has a slot of its own
pub lowest_first : (search_finds (0x02 ∷ 0x10 ∷ []) ≡ 0x10 ∷ 0x02 ∷ []) × (search_sends (0x02 ∷ 0x10 ∷ []) ≡ 1)
unfolding found sent joined heard follow those speaks_in fits
lowest_first = (refl, refl)

-- two of three collide in slot 0, and the search goes again with the mask 0: two frames, each with its CRC
pub two_frames : frames_sent (0xE002230401D6C8F0 ∷ 0xE002230401D6C8E0 ∷ 0xE002230401D6C8F1 ∷ [])
    ≡ (0x06 ∷ 0x01 ∷ 0x00 ∷ 0xCD ∷ 0x09 ∷ []) ∷ (0x06 ∷ 0x01 ∷ 0x04 ∷ 0x00 ∷ 0xF8 ∷ 0x8A ∷ []) ∷ []
unfolding frames_of sent joined follow those speaks_in fits bytes_of crc_bit crc_bits crc_byte crc_from crc_of crc_bytes
two_frames = refl

-- 7 before 18, and the room stays
pub equal_first : search_given (0x05 ∷ 0x05 ∷ []) (0x09 ∷ []) ≡ given 7 0 (0x09 ∷ [])
unfolding search_given any_equal is_in
equal_first = refl
