-- How long lines, buffers and answer lines are at most.
-- Assumes nothing.
use Rattle.std.specs.Prelude.{ℕ, ◌+◌, ◌*◌}
use Rattle.packed.specs.Bytes.{record_length}

-- "lends n (0 to 9,000) bytes of 0 as memory"
abbrev pub memory_most : ℕ
memory_most = 9000

-- "lends n (0 to 11,000) bytes of EEh as room"
abbrev pub room_most : ℕ
room_most = 11000

-- "an image of 0 to 8,300 bytes"
abbrev pub image_most : ℕ
image_most = 8300

-- "a frame of 0 to 1,100 bytes"
abbrev pub frame_most : ℕ
frame_most = 1100

-- "8 bytes, a UID as it travels"
abbrev pub uid_length : ℕ
uid_length = 8

-- "a list of n entries (0 to 300)"
abbrev pub entries_most : ℕ
entries_most = 300

-- ".. 8 bytes each as they travel, 0 to 300 of them"
abbrev pub tags_most : ℕ
tags_most = 300

-- the longest line that has a form, `PUT 0 ` and a whole memory in hex, and one byte more
abbrev pub line_most : ℕ
line_most = 6 + 2 * memory_most + 1

-- three characters and two numbers of at most 20 figures with a space each, an answer as long as the room, the record, and two sums of four
-- digits, each with the space or newline after it
abbrev pub row_most : ℕ
row_most = 45 + (2 * room_most + 1) + (2 * record_length + 1) + 10
