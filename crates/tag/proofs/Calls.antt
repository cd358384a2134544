-- Every host call gives a sound record, with the memory as it leaves it, for a sound one with the memory before it, refused or not: what
-- began sound is not refused by number 3 while the host lends with each record the memory that goes with it.
-- Assumes nothing.
use Prim.Native.Nat.{ℕ, ◌<◌}
use native.Mathlib.Omega.{arith}
use mathlib.Core.Path.{◌≡◌, refl}
use mathlib.Core.Bool.{true, false, not}
use mathlib.Core.List.{List}
use lib.ListN.{length, drop, get_or, length-drop, length-replicate, get_or-replicate}
use lib.Dec.{ltb}
use borrow.Author.Tests.{not-true, not-false}
use Rattle.rights.proofs.Cases.{if_one}
use Rattle.record.specs.declared.Tag.{Tag}
use Rattle.tag.specs.Rules.{blocks_of, sound}
use Rattle.tag.specs.Step.{Event}
use Rattle.tag.specs.Image.{header_length, tag_in, header_rule}
use Rattle.tag.specs.Host.{Reply, tag_after, is_memory, fits_image, least_room, is_image, EventGiven, event_given, EventGives, LoadGiven, load_given, LoadGives, SaveGiven, save_given, SaveGives, factory_given, FactoryGives}
use Rattle.tag.proofs.Sizes.{fitting}
use Rattle.tag.proofs.Sound.{stays_sound, factory_sound}
use Rattle.tag.proofs.Headers.{header_rules, sound_in}

module _ (t : Tag) where
  pub event_sound : (e : Event) (m x : List ℕ) {m' x' : List ℕ} {r : Reply} → EventGives t e m x m' x' r → sound (blocks_of m) t ≡ true
      → sound (blocks_of m') (tag_after t r) ≡ true
  unfolding event_given
  event_sound e m x g h = rw (g.memory, g.tag) given
    where
      After : EventGiven → Type 0
      After o = sound (blocks_of o.memory) o.tag ≡ true

      given : After (event_given t e m x)
      given =
          if_one After (not (is_memory m)) (λ q. h) (λ q.
          if_one After (ltb (length x) least_room) (λ q. h) (λ q.
          if_one After (not (sound (blocks_of m) t)) (λ q. h) (λ q. stays_sound t m e h)))

  pub load_sound : (i m : List ℕ) {m' : List ℕ} {r : Reply} → LoadGives t i m m' r → sound (blocks_of m) t ≡ true → sound (blocks_of m') (tag_after t r) ≡ true
  unfolding load_given
  load_sound i m g h = rw (g.memory, g.tag) given
    where
      After : LoadGiven → Type 0
      After o = sound (blocks_of o.memory) o.tag ≡ true

      loaded : not (fits_image m i) ≡ false → not (header_rule (blocks_of m) i) ≡ false → sound (blocks_of (drop header_length i)) (tag_in i) ≡ true
      loaded fits rule =
          let whole = (fitting m i (not-false _ fits)).1 in
          let part : length (drop header_length i) ≡ length m = simp length-drop (omega arith) in
          rw part (sound_in (header_rules (not-false _ rule)))

      given : After (load_given t i m)
      given =
          if_one After (not (is_image i)) (λ q. h) (λ q.
          if_one After (not (fits_image m i)) (λ q. h) (λ fits.
          if_one After (not (header_rule (blocks_of m) i)) (λ q. h) (λ rule. loaded fits rule)))

  pub save_keeps : (m i : List ℕ) {i' : List ℕ} {r : Reply} → SaveGives t m i i' r → tag_after t r ≡ t
  unfolding save_given
  save_keeps m i g = rw g.tag given
    where
      After : SaveGiven → Type 0
      After o = o.tag ≡ t

      given : After (save_given t m i)
      given =
          if_one After (not (is_image i)) (λ q. refl) (λ q.
          if_one After (not (fits_image m i)) (λ q. refl) (λ q.
          if_one After (not (sound (blocks_of m) t)) (λ q. refl) (λ q. refl)))

  -- "A factory tag" is sound, whatever the record was; where none is made, the record is as sound as it was
  pub made_sound : (uid : ℕ) (m : List ℕ) {m' : List ℕ} {r : Reply} → FactoryGives t uid m m' r → (is_memory m ≡ false → sound (blocks_of m) t ≡ true)
      → sound (blocks_of m') (tag_after t r) ≡ true
  unfolding factory_given
  made_sound uid m g h = rw (g.memory, g.tag) given
    where
      After : LoadGiven → Type 0
      After o = sound (blocks_of o.memory) o.tag ≡ true

      given : After (factory_given t uid m)
      given = if_one After (not (is_memory m)) (λ q. h (not-true _ q)) (λ q. rw (length-replicate {A = ℕ} (length m) 0) (factory_sound (blocks_of m) uid))

  -- "A factory tag has zero memory": every byte of the memory that was lent is 0, whatever it was
  pub factory_zero : (uid : ℕ) (m : List ℕ) {m' : List ℕ} {r : Reply} → FactoryGives t uid m m' r → is_memory m ≡ true
      → (length m' ≡ length m) × ((n : ℕ) → n < length m → get_or m' n 1 ≡ 0)
  unfolding factory_given
  factory_zero uid m g h = rw (g.memory, h) (length-replicate {A = ℕ} (length m) 0, λ n l. get_or-replicate {A = ℕ} (length m) n 0 1 l)
