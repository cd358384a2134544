-- The numbers of refusals, call by call, in their order: 0 where the call is done. Only loading has places.
-- Assumes nothing.
use Prim.Native.Nat.{ℕ}
use mathlib.Core.Path.{◌≡◌, refl}
use mathlib.Core.Bool.{Bool, true, false, not}
use mathlib.Core.List.{List}
use lib.Dec.{ltb}
use lib.ListN.{length}
use Rattle.std.specs.Prelude.{if◌then◌else◌}
use Rattle.record.specs.declared.Tag.{Tag}
use Rattle.tag.specs.Rules.{blocks_of, sound}
use Rattle.tag.specs.Step.{Event}
use Rattle.tag.specs.Image.{header_rule}
use Rattle.tag.specs.Fault.{header_fault}
use Rattle.tag.specs.Host.{is_memory, fits_image, least_room, is_image, EventGiven, event_given, LoadGiven, load_given, SaveGiven, save_given, factory_given}

either : {A : Type 0} (f : A → ℕ) (a : Bool) (p q : A) → f (if a then p else q) ≡ (if a then f p else f q)
either f true p q = refl
either f false p q = refl

pub chosen : {A : Type 0} (f : A → ℕ) (a b c : Bool) (p q r s : A)
    → f (if a then p else if b then q else if c then r else s) ≡ (if a then f p else if b then f q else if c then f r else f s)
chosen f a b c p q r s = rw (either f a p (if b then q else if c then r else s), either f b q (if c then r else s), either f c r s)

-- "An event checks 1, 2, 3 in that order."
pub event_number : (t : Tag) (e : Event) (m x : List ℕ)
    → (event_given t e m x).number ≡ (if not (is_memory m) then 1 else if ltb (length x) least_room then 2 else if not (sound (blocks_of m) t) then 3 else 0)
unfolding event_given
event_number t e m x =
    chosen (λ (g : EventGiven). g.number) (not (is_memory m)) (ltb (length x) least_room) (not (sound (blocks_of m) t)) _ _ _ _

-- 01: "Loading checks 4, then 1, then 5"; 02: "5a to 5e stand where 5 stood."
pub load_number : (t : Tag) (i m : List ℕ)
    → (load_given t i m).number
    ≡ (if not (is_image i) then 4 else if not (fits_image m i) then 1 else if not (header_rule (blocks_of m) i) then (header_fault (blocks_of m) i).number else 0)
unfolding load_given
load_number t i m =
    chosen (λ (g : LoadGiven). g.number) (not (is_image i)) (not (fits_image m i)) (not (header_rule (blocks_of m) i)) _ _ _ _

-- 4 and 1 have no place
pub load_place : (t : Tag) (i m : List ℕ)
    → (load_given t i m).place
    ≡ (if not (is_image i) then 0 else if not (fits_image m i) then 0 else if not (header_rule (blocks_of m) i) then (header_fault (blocks_of m) i).place else 0)
unfolding load_given
load_place t i m =
    chosen (λ (g : LoadGiven). g.place) (not (is_image i)) (not (fits_image m i)) (not (header_rule (blocks_of m) i)) _ _ _ _

-- "saving checks 4, 1, 3"
pub save_number : (t : Tag) (m i : List ℕ)
    → (save_given t m i).number ≡ (if not (is_image i) then 4 else if not (fits_image m i) then 1 else if not (sound (blocks_of m) t) then 3 else 0)
unfolding save_given
save_number t m i =
    chosen (λ (g : SaveGiven). g.number) (not (is_image i)) (not (fits_image m i)) (not (sound (blocks_of m) t)) _ _ _ _

-- "user memory lent is not 2,048 or 8,192 bytes"
pub factory_number : (t : Tag) (uid : ℕ) (m : List ℕ) → (factory_given t uid m).number ≡ (if not (is_memory m) then 1 else 0)
unfolding factory_given
factory_number t uid m = either (λ (g : LoadGiven). g.number) (not (is_memory m)) _ _
