-- What the boundary's calls do to the bytes of a record is what the host's calls do to the record.
-- Assumes nothing.
use Prim.Native.Nat.{ℕ, ◌+◌}
use mathlib.Core.Path.{◌≡◌, refl}
use mathlib.Core.Bool.{Bool, true, false, not}
use mathlib.Core.List.{List}
use lib.ListN.{length}
use lib.Dec.{ltb}
use Rattle.std.specs.Prelude.{if◌then◌else◌}
use Rattle.record.specs.declared.Tag.{Tag}
use Rattle.tag.specs.Rules.{blocks_of, sound}
use Rattle.tag.specs.Step.{event_of}
use Rattle.tag.specs.Image.{header_length, image_of}
use Rattle.tag.specs.Host.{is_memory, fits_image, least_room, is_image, EventGiven, event_refused, event_done, event_given, SaveGiven, save_refused, save_given}
use Rattle.tag.proofs.Headers.{Lasting}
use Rattle.packed.specs.Bytes.{record_of}
use Rattle.packed.specs.Result.{result_of}
use Rattle.packed.proofs.Again.{record_again, rule_again}
use Rattle.cabi.specs.Calls.{kind_in, EventLeft, event_stays, event_left, SaveLeft, save_stays, save_left}

-- what the host's call gives, as the boundary shows it
abbrev pub shown : ℕ → EventGiven → EventLeft
shown size g = record { result = result_of 0 g.number g.length; bytes = record_of size g.tag; memory = g.memory; room = g.room }

pub event_same : (k : ℕ) (frame : List ℕ) (t : Tag) (m x : List ℕ) → Lasting t → ltb 3 k ≡ false
    → event_left k frame (record_of (length m) t) m x ≡ shown (length m) (event_given t (event_of (kind_in k) frame) m x)
unfolding event_left event_given
event_same k frame t m x l h =
    rw (rule_again (length m) t (blocks_of m) l, record_again (length m) t l, h) (go (is_memory m) (ltb (length x) least_room) (sound (blocks_of m) t))
  where
    done : EventGiven
    done = event_done t (event_of (kind_in k) frame) m x

    go : (a b c : Bool)
        → (if not a then event_stays 1 (record_of (length m) t) m x else
        if b then event_stays 2 (record_of (length m) t) m x else
        if not c then event_stays 3 (record_of (length m) t) m x else shown (length m) done)
        ≡ shown (length m) (if not a then event_refused 1 t m x else if b then event_refused 2 t m x else if not c then event_refused 3 t m x else done)
    go false b c = refl
    go true true c = refl
    go true false false = refl
    go true false true = refl

abbrev pub shown_save : SaveGiven → SaveLeft
shown_save g = record { result = result_of 0 g.number g.length; image = g.image }

pub save_same : (t : Tag) (m i : List ℕ) → Lasting t → save_left (record_of (length m) t) m i ≡ shown_save (save_given t m i)
unfolding save_left save_given
save_same t m i l =
    rw (rule_again (length m) t (blocks_of m) l, record_again (length m) t l) (go (is_image i) (fits_image m i) (sound (blocks_of m) t))
  where
    done : SaveGiven
    done = record { number = 0; length = header_length + length m; tag = t; image = image_of t m }

    go : (a b c : Bool)
        → (if not a then save_stays 4 i else if not b then save_stays 1 i else if not c then save_stays 3 i else shown_save done)
        ≡ shown_save (if not a then save_refused 4 t i else if not b then save_refused 1 t i else if not c then save_refused 3 t i else done)
    go false b c = refl
    go true false c = refl
    go true true false = refl
    go true true true = refl
