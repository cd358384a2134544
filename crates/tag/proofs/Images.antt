-- Loading and saving, over the calls of the definition: what one writes the other reads, byte for byte and part for part.
-- Assumes nothing.
use Prim.Native.Nat.{ℕ, ◌+◌, ◌<◌}
use native.Mathlib.Omega.{arith}
use mathlib.Core.Path.{◌≡◌, refl}
use mathlib.Core.Bool.{Bool, true, false, not}
use mathlib.Core.List.{List}
use lib.ListN.{length, get_or, drop, length-drop}
use lib.Dec.{eqb}
use borrow.Author.Tests.{eqb-true, eq-eqb}
use Rattle.std.specs.Prelude.{if◌then◌else◌}
use Rattle.rights.proofs.Cases.{or_true, join, or_one}
use Rattle.record.specs.declared.Tag.{Tag}
use Rattle.tag.specs.Rules.{blocks_of, sound}
use Rattle.tag.specs.Image.{tag_in, header_rule, image_of}
use Rattle.tag.specs.Fault.{Fault, header_fault}
use Rattle.tag.specs.Host.{is_memory, fits_image, is_image, load_refused, load_given, LoadGiven, save_given}
use Rattle.tag.proofs.Sizes.{fitting}
use Rattle.tag.proofs.Off.{sound_rules, nothing_passing}
use Rattle.tag.proofs.Faults.{some_fault}
use Rattle.tag.proofs.Headers.{header_rules, sound_in, image_again, field_in, Lasting, tag_again, image_length, memory_again, header_right}

-- ---- lengths

-- a memory, and an image that is longer by a header
record Sized (m i : List ℕ) : Type 0 where
  memory : is_memory m ≡ true
  longer : length i ≡ 64 + length m

module _ {m i : List ℕ} (s : Sized m i) where
  is_image_lem : is_image i ≡ true
  is_image_lem =
      or_one (eqb (length m) 2048) (eqb (length m) 8192) s.memory
      (λ e. rw (eq-eqb (length i) 2112 (omega (arith, eqb-true (length m) 2048 e))))
      (λ e. rw (eq-eqb (length i) 8256 (omega (arith, eqb-true (length m) 8192 e)), or_true))

  fits : fits_image m i ≡ true
  fits = join s.memory (eq-eqb (length i) (64 + length m) s.longer)

sized : (m i : List ℕ) → fits_image m i ≡ true → Sized m i
sized m i h =
    let p = fitting m i h in
    record { memory = p.0; longer = p.1 }

-- ---- calls that refuse nothing

abbrev loaded : List ℕ → LoadGiven
loaded i = record { number = 0; place = 0; length = 0; tag = tag_in i; memory = drop 64 i }

-- an image that loading accepts
record Accepted (m i : List ℕ) : Type 0 where
  sizes : Sized m i
  header : header_rule (blocks_of m) i ≡ true

accepted : (t : Tag) (i m : List ℕ) → (load_given t i m).number ≡ 0 → Accepted m i
unfolding load_given
accepted t i m h = go (is_image i) (fits_image m i) (header_rule (blocks_of m) i) refl refl h
  where
    f : Fault
    f = header_fault (blocks_of m) i

    go : (a b c : Bool) → fits_image m i ≡ b → header_rule (blocks_of m) i ≡ c
        → (if not a then load_refused 4 0 t m else
        if not b then load_refused 1 0 t m else
        if not c then load_refused f.number f.place t m else loaded i).number ≡ 0 → Accepted m i
    go false b c p q h = absurd (omega arith)
    go true false c p q h = absurd (omega arith)
    go true true false p q h = absurd (some_fault (blocks_of m) i q h)
    go true true true p q h = record { sizes = sized m i p; header = q }

loading : (t : Tag) {i m : List ℕ} → Accepted m i → load_given t i m ≡ loaded i
unfolding load_given
loading t a = rw (is_image_lem a.sizes, fits a.sizes, a.header)

saving : (t : Tag) {m j : List ℕ} → Sized m j → sound (blocks_of m) t ≡ true
    → save_given t m j ≡ record { number = 0; length = 64 + length m; tag = t; image = image_of t m }
unfolding save_given
saving t s h = rw (is_image_lem s, fits s, h)

-- ---- the theorems

-- what is loaded is sound, with the field off
pub loaded_sound : (t : Tag) (i m : List ℕ) → (load_given t i m).number ≡ 0
    → (sound (blocks_of m) (load_given t i m).tag ≡ true) × ((load_given t i m).tag.front.field ≡ false)
loaded_sound t i m h = let a = accepted t i m h in rw (loading t a) (sound_in (header_rules a.header), field_in i)

-- an image that is loaded and saved again comes out whole, whatever stood in the record, the memory and the image's room
pub load_save : (t : Tag) (i m j : List ℕ) → ((n : ℕ) → get_or i n 0 < 256) → length j ≡ length i → (load_given t i m).number ≡ 0
    → save_given (load_given t i m).tag (load_given t i m).memory j ≡ record { number = 0; length = length i; tag = (load_given t i m).tag; image = i }
load_save t i m j b e h =
    let a = accepted t i m h in
    let rules = header_rules a.header in
    let l = a.sizes.longer in
    let n : length (drop 64 i) ≡ length m = simp length-drop (omega arith) in
    let s : Sized (drop 64 i) j = record { memory = rw n a.sizes.memory; longer = omega arith } in
    rw (loading t a, saving (tag_in i) s (rw n (sound_in rules)), image_again rules b (omega arith), n, ← l)

-- "a round trip from a record is exact when the field is off": it is saved, and what was saved loads as the same record and memory
pub save_load : (t : Tag) (m j : List ℕ) → Lasting t → t.front.field ≡ false → sound (blocks_of m) t ≡ true → is_memory m ≡ true → length j ≡ 64 + length m
    → (t₀ : Tag) (m₀ : List ℕ) → length m₀ ≡ length m
    → (save_given t m j ≡ record { number = 0; length = 64 + length m; tag = t; image = image_of t m })
    × (load_given t₀ (save_given t m j).image m₀ ≡ record { number = 0; place = 0; length = 0; tag = t; memory = m })
save_load t m j l e h w k t₀ m₀ n =
    let rules = sound_rules h in
    let x = image_length t m in
    let s : Sized m j = record { memory = w; longer = k } in
    let s₀ : Sized m₀ (image_of t m) = record { memory = rw n w; longer = omega arith } in
    let a : Accepted m₀ (image_of t m) = record { sizes = s₀; header = rw n (header_right t m (blocks_of m) rules.registers) } in
    rw (saving t s h) (refl, rw (loading t₀ a, tag_again t m l (nothing_passing _ _ rules.off e), memory_again t m))
