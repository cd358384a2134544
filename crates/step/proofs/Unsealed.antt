-- An answer with its CRC, from what stood in the room before it.
-- Assumes nothing.
use Prim.Native.Nat.{ℕ, ◌+◌, ◌-◌, ◌≤◌}
use mathlib.Core.Path.{◌≡◌, refl, sym, ap, ◌∙◌}
use mathlib.Core.Logic.{◌⊎◌, inl, inr}
use mathlib.Core.List.{List, [], ◌∷◌, ◌++◌, append_assoc}
use native.Mathlib.Omega.{arith}
use lib.ListN.{length, take, drop, length-append, take-append-drop, length-drop}
use lib.Seq.{length-take-le, take-append_seam, drop-append-add, drop-append-le, drop-drop}
use Rattle.std.specs.Prelude.{Ok, Err}
use Rattle.put.specs.Put.{Put}
use Rattle.crc.specs.Crc.{crc_bytes}
use Rattle.tag.specs.Work.{Answer, silence, verdict, body}
use Rattle.tag.specs.Step.{Stepped, sealed, line_of}
use Rattle.tag.proofs.Lengths.{Sealed}
use Rattle.tag.proofs.Sealed.{sealed_length}
use Rattle.record.specs.declared.Outcome.{Outcome}
use Rattle.step.specs.Gives.{Gives, GivesUnsealed, unsealed_of, sealed_unless_silent, unsealed}

-- ---- less its CRC, an answer is what stands before it

pub unsealed_sealed : (s : List ℕ) → unsealed (sealed s) ≡ s
unsealed_sealed s =
    let e : length (sealed s) - 2 ≡ length s = omega (arith, sealed_length s) in
    rw e (take-append_seam s (crc_bytes s))

pub unsealed_line : (a : Answer) → unsealed (line_of a) ≡ unsealed_of a
unsealed_line silence = refl
unsealed_line (verdict (Ok tt)) = unsealed_sealed (0x00 ∷ [])
unsealed_line (verdict (Err c)) = unsealed_sealed (0x01 ∷ c ∷ [])
unsealed_line (body b) = unsealed_sealed (0x00 ∷ b)

-- ---- and sealed again it is the answer

sealed_some : (s : List ℕ) → 1 ≤ length s → sealed_unless_silent s ≡ sealed s
sealed_some [] h = absurd (omega arith)
sealed_some (b ∷ bs) h = refl

sealed_again : (a : List ℕ) → (a ≡ []) ⊎ Sealed a → a ≡ sealed_unless_silent (unsealed a)
sealed_again a (inl e) = rw e
sealed_again a (inr s) = rw (s.is, unsealed_sealed s.rest, sealed_some s.rest s.some)

-- what stands after it in the room is what stood there
after : (u v x : List ℕ) → drop (length (u ++ v)) (u ++ drop (length u) x) ≡ drop (length (u ++ v)) x
after u v x = rw length-append (drop-append-add u (drop (length u) x) (length v) ∙ drop-drop (length v) (length u) x)

after_sealed : (u x : List ℕ) → drop (length (sealed_unless_silent u)) (u ++ drop (length u) x) ≡ drop (length (sealed_unless_silent u)) x
after_sealed [] x = refl
after_sealed (b ∷ bs) x = after (b ∷ bs) (crc_bytes (b ∷ bs)) x

module _ (s : Stepped) {x m' y : List ℕ} {r : Outcome} (o : GivesUnsealed s x m' y r) where
  said : r.length ≡ length (unsealed s.answer)
  said = ap (λ (d : Outcome). d.length) o.result

  -- there is room for the CRC: an answer without it is two bytes shorter than the longest
  pub below : length s.answer ≤ 10243 → r.length ≤ 10241
  below h = omega (arith, h, said, length-take-le (length s.answer - 2) s.answer (omega arith))

  pub fits : length s.answer ≤ 10243 → 10243 ≤ length x → r.length + 2 ≤ length y
  fits h l =
      let u = unsealed s.answer in
      let f : length y ≡ length u + (length x - length u) = rw o.room (simp (length-append, length-drop)) in
      omega (arith, f, said, below h)

  -- with it the event gives what the definition gives
  pub sealed_gives : {z : List ℕ} {n : ℕ} → (s.answer ≡ []) ⊎ Sealed s.answer → Put (sealed_unless_silent (take r.length y)) y z n
      → Gives s x m' z (record { length = n; tag = r.tag })
  sealed_gives {z} {n} w p =
      let u = unsealed s.answer in
      let e : s.answer ≡ sealed_unless_silent u = sealed_again s.answer w in
      let t : take r.length y ≡ u = rw (said, o.room) (take-append_seam u (drop (length u) x)) in
      let q : Put (sealed_unless_silent u) y z n = rw t at p in
      let k : n ≡ length s.answer = q.count ∙ sym (ap length e) in
      let f : r.tag ≡ s.tag = ap (λ (d : Outcome). d.tag) o.result in
      let a = sealed_unless_silent u in
      let i : z ≡ a ++ drop (length a) x = q.is ∙ rw o.room (ap (λ (l : List ℕ). a ++ l) (after_sealed u x)) in
      record { result = rw (k, f); memory = o.memory; room = i ∙ sym (ap (λ (l : List ℕ). l ++ drop (length l) x) e) }

-- the room is lent up to the longest answer's end: what is given there is given in the whole
pub whole_gives : {s : Stepped} {m' z : List ℕ} {r : Outcome} (x : List ℕ) → length s.answer ≤ 10243 → 10243 ≤ length x
    → Gives s (take 10243 x) m' z r → Gives s x m' (z ++ drop 10243 x) r
whole_gives {s} x h l g =
    let k : length s.answer ≤ length (take 10243 x) = rw (length-take-le 10243 x l) h in
    record {
      result = g.result;
      memory = g.memory;
      room = rw (g.room, append_assoc, ← drop-append-le (length s.answer) (take 10243 x) (drop 10243 x) k, take-append-drop);
    }
