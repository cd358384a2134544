-- A record and its 72 bytes give each other back, so that a host that keeps the bytes keeps the record.
-- Assumes nothing.
use Prim.Native.Nat.{ℕ, zero, suc, ◌<◌}
use native.Mathlib.Omega.{arith}
use mathlib.Core.Path.{◌≡◌, refl, sym, ◌∙◌}
use mathlib.Core.Bool.{Bool, true, false, ◌&&◌, ◌||◌}
use mathlib.Core.List.{List, ◌++◌}
use lib.ListN.{length, get_or}
use lib.Dec.{leb, eqb}
use borrow.Author.Tests.{eqb-true, eq-eqb, leb-true}
use Rattle.std.specs.Prelude.{Option, Some, None, Ok, Err}
use Rattle.put.specs.Number.{bytes_of}
use Rattle.put.proofs.RoundTrips.{places_at, all_places}
use Rattle.rights.specs.Verdict.{Verdict}
use Rattle.rights.specs.declared.Session.{Session}
use Rattle.rights.specs.declared.Session.TheVariants as session
use Rattle.rights.specs.Registers.{one_if}
use Rattle.rights.proofs.Cases.{both, join}
use Rattle.record.specs.declared.Tag.{Tag}
use Rattle.record.specs.declared.State.{State}
use Rattle.record.specs.declared.State.TheVariants.{Ready, Quiet, Selected}
use Rattle.record.specs.declared.Round.{Round}
use Rattle.tag.specs.Rules.{blocks_of, sound}
use Rattle.tag.specs.Image.{mark_of, tag_in, lock_rule, zeros, reserved_rule, header_of}
use Rattle.tag.proofs.Headers.{Lasting, header_says, header_again}
use Rattle.packed.specs.Bytes.{record_length, state_in, session_in, round_in, held_in, record_in, lasting_rule, value_rule, unused_rule, record_rule, is_record, state_byte, session_byte, open_byte, slot_byte, mask_byte, held_byte, code_byte, passing_of, record_of}

-- ---- from a record to its bytes, and back

field_again : (b : Bool) → eqb (one_if b) 1 ≡ b
field_again true = refl
field_again false = refl

state_again : (s : State) → state_in (state_byte s) ≡ s
state_again Ready = refl
state_again Quiet = refl
state_again Selected = refl

session_again : (s : Option Session) → session_in (session_byte s) ≡ s
session_again None = refl
session_again (Some session.Configuration) = refl
session_again (Some session.User1) = refl
session_again (Some session.User2) = refl
session_again (Some session.User3) = refl

round_again : (r : Option Round) → round_in (open_byte r) (slot_byte r) (mask_byte r) ≡ r
round_again None = refl
round_again (Some o) = refl

held_again : (h : Option Verdict) → held_in (held_byte h) (code_byte h) ≡ h
held_again None = refl
held_again (Some (Ok tt)) = refl
held_again (Some (Err code)) = refl

module _ (size : ℕ) (t : Tag) where
  pub record_again : Lasting t → record_in (record_of size t) ≡ t
  unfolding record_in record_of tag_in header_of bytes_of
  record_again l =
      let a = header_says size t (passing_of t) l in
      rw (a.uid, a.passwords, a.locks.bit0, a.locks.bit1, a.locks.bit2, a.locks.bit3, a.locks.bit4, field_again t.front.field, state_again t.front.state, session_again t.vault.keys.session, round_again t.front.round, held_again t.front.held)

  lasting_kept : Lasting t → lasting_rule size (record_of size t) ≡ true
  unfolding lasting_rule lock_rule reserved_rule zeros record_of header_of bytes_of
  lasting_kept l = join (eq-eqb (mark_of size) (mark_of size) refl) (join (header_says size t (passing_of t) l).locks.most refl)

  values_kept : value_rule (record_of size t) ≡ true
  unfolding value_rule record_of header_of bytes_of
  values_kept =
      join (join (go_field t.front.field) (join (go_state t.front.state) (go_session t.vault.keys.session))) (join (go_round t.front.round) (go_held t.front.held))
    where
      go_field : (b : Bool) → leb (one_if b) 1 ≡ true
      go_field true = refl
      go_field false = refl

      go_state : (s : State) → leb (state_byte s) 2 ≡ true
      go_state Ready = refl
      go_state Quiet = refl
      go_state Selected = refl

      go_session : (s : Option Session) → leb (session_byte s) 4 ≡ true
      go_session None = refl
      go_session (Some session.Configuration) = refl
      go_session (Some session.User1) = refl
      go_session (Some session.User2) = refl
      go_session (Some session.User3) = refl

      go_round : (r : Option Round) → leb (open_byte r) 1 ≡ true
      go_round None = refl
      go_round (Some o) = refl

      go_held : (h : Option Verdict) → leb (held_byte h) 2 ≡ true
      go_held None = refl
      go_held (Some (Ok tt)) = refl
      go_held (Some (Err code)) = refl

  unused_kept : unused_rule (record_of size t) ≡ true
  unfolding unused_rule record_of header_of bytes_of
  unused_kept = join (go_round t.front.round) (go_held t.front.held)
    where
      go_round : (r : Option Round) → (eqb (open_byte r) 1 || (eqb (slot_byte r) 0 && eqb (mask_byte r) 0)) ≡ true
      go_round None = refl
      go_round (Some o) = refl

      go_held : (h : Option Verdict) → (eqb (held_byte h) 2 || eqb (code_byte h) 0) ≡ true
      go_held None = refl
      go_held (Some (Ok tt)) = refl
      go_held (Some (Err code)) = refl

  -- the bytes of a record are one where the record keeps the record rules
  pub rule_again : (blocks : ℕ) → Lasting t → record_rule size blocks (record_of size t) ≡ sound blocks t
  unfolding record_rule
  rule_again blocks l = rw (lasting_kept l, values_kept, unused_kept, record_again l)

-- ---- from bytes that are a record to it, and back

field_byte : (b : ℕ) → leb b 1 ≡ true → one_if (eqb b 1) ≡ b
field_byte zero h = refl
field_byte (suc zero) h = refl
field_byte (suc (suc b)) h = absurd (omega (arith, leb-true (suc (suc b)) 1 h))

state_byte_lem : (b : ℕ) → leb b 2 ≡ true → state_byte (state_in b) ≡ b
state_byte_lem zero h = refl
state_byte_lem (suc zero) h = refl
state_byte_lem (suc (suc zero)) h = refl
state_byte_lem (suc (suc (suc b))) h = absurd (omega (arith, leb-true (suc (suc (suc b))) 2 h))

session_byte_lem : (b : ℕ) → leb b 4 ≡ true → session_byte (session_in b) ≡ b
session_byte_lem zero h = refl
session_byte_lem (suc zero) h = refl
session_byte_lem (suc (suc zero)) h = refl
session_byte_lem (suc (suc (suc zero))) h = refl
session_byte_lem (suc (suc (suc (suc zero)))) h = refl
session_byte_lem (suc (suc (suc (suc (suc b))))) h = absurd (omega (arith, leb-true (suc (suc (suc (suc (suc b))))) 4 h))

round_bytes_lem : (b slot mask : ℕ) → leb b 1 ≡ true → (eqb b 1 || (eqb slot 0 && eqb mask 0)) ≡ true → (open_byte (round_in b slot mask) ≡ b) × ((slot_byte (round_in b slot mask) ≡ slot) × (mask_byte (round_in b slot mask) ≡ mask))
round_bytes_lem zero slot mask h k =
    let p = both (eqb slot 0) (eqb mask 0) k in
    (refl, (sym (eqb-true slot 0 p.0), sym (eqb-true mask 0 p.1)))
round_bytes_lem (suc zero) slot mask h k = (refl, (refl, refl))
round_bytes_lem (suc (suc b)) slot mask h k = absurd (omega (arith, leb-true (suc (suc b)) 1 h))

held_bytes_lem : (b code : ℕ) → leb b 2 ≡ true → (eqb b 2 || eqb code 0) ≡ true → (held_byte (held_in b code) ≡ b) × (code_byte (held_in b code) ≡ code)
held_bytes_lem zero code h k = (refl, sym (eqb-true code 0 k))
held_bytes_lem (suc zero) code h k = (refl, sym (eqb-true code 0 k))
held_bytes_lem (suc (suc zero)) code h k = (refl, refl)
held_bytes_lem (suc (suc (suc b))) code h k = absurd (omega (arith, leb-true (suc (suc (suc b))) 2 h))

passing_again : (r : List ℕ) → value_rule r ≡ true → unused_rule r ≡ true → passing_of (record_in r) ≡ places_at 8 r 64
unfolding value_rule unused_rule record_in places_at
passing_again r v u =
    let halves = both (leb (get_or r 64 0) 1 && (leb (get_or r 65 0) 2 && leb (get_or r 66 0) 4)) (leb (get_or r 67 0) 1 && leb (get_or r 70 0) 2) v in
    let first = both (leb (get_or r 64 0) 1) (leb (get_or r 65 0) 2 && leb (get_or r 66 0) 4) halves.0 in
    let next = both (leb (get_or r 65 0) 2) (leb (get_or r 66 0) 4) first.1 in
    let last = both (leb (get_or r 67 0) 1) (leb (get_or r 70 0) 2) halves.1 in
    let unused = both (eqb (get_or r 67 0) 1 || (eqb (get_or r 68 0) 0 && eqb (get_or r 69 0) 0)) (eqb (get_or r 70 0) 2 || eqb (get_or r 71 0) 0) u in
    let o = round_bytes_lem (get_or r 67 0) (get_or r 68 0) (get_or r 69 0) last.0 unused.0 in
    let h = held_bytes_lem (get_or r 70 0) (get_or r 71 0) last.1 unused.1 in
    rw (field_byte (get_or r 64 0) first.0, state_byte_lem (get_or r 65 0) next.0, session_byte_lem (get_or r 66 0) next.1, o.0, o.1.0, o.1.1, h.0, h.1)

same_lasting : (size : ℕ) (r : List ℕ) → header_of size (record_in r) ≡ header_of size (tag_in r)
unfolding header_of record_in
same_lasting size r = refl

in_two : (r : List ℕ) → places_at 64 r 0 ++ places_at 8 r 64 ≡ places_at record_length r 0
unfolding places_at
in_two r = refl

pub bytes_again : (size blocks : ℕ) (r : List ℕ) → ((n : ℕ) → get_or r n 0 < 256) → length r ≡ record_length → record_rule size blocks r ≡ true → record_of size (record_in r) ≡ r
unfolding record_rule lasting_rule record_of
bytes_again size blocks r b e k =
    let rules = (both (lasting_rule size r && (value_rule r && unused_rule r)) (sound blocks (record_in r)) k).0 in
    let halves = both (lasting_rule size r) (value_rule r && unused_rule r) rules in
    let passing = both (value_rule r) (unused_rule r) halves.1 in
    let lasting = both (eqb (get_or r 0 0) (mark_of size)) (lock_rule r && reserved_rule r) halves.0 in
    let zero_bits = both (lock_rule r) (reserved_rule r) lasting.1 in
    let header = header_again size r b (eqb-true (get_or r 0 0) (mark_of size) lasting.0) zero_bits.0 zero_bits.1 in
    rw (same_lasting size r, header, passing_again r passing.0 passing.1) (in_two r ∙ all_places record_length r e)

-- ---- the record rules

-- bytes that are a record keep the record rules
pub record_sound : (m r : List ℕ) → is_record m r ≡ true → sound (blocks_of m) (record_in r) ≡ true
unfolding record_rule
record_sound m r h = (both (lasting_rule (length m) r && (value_rule r && unused_rule r)) (sound (blocks_of m) (record_in r)) h).1
