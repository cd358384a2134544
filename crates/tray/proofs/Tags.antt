-- The tags that the search hears are the tags of document 01: a Ready tag answers its frames where the search hears it, and stays Ready; and so does a
-- whole tray.
-- Assumes nothing.
use mathlib.Core.Path.{◌≡◌, refl, ap, ◌∙◌}
use mathlib.Core.Bool.{Bool, true, false, not}
use mathlib.Core.List.{List, [], ◌∷◌, ◌++◌}
use Prim.Native.Nat.{ℕ, zero, suc, ◌+◌, ◌≤◌, ◌<◌}
use native.Mathlib.Nat.{add-zero, zero-add}
use native.Mathlib.Omega.{arith}
use lib.Dec.{ltb}
use borrow.Author.Tests.{lt-ltb}
use Rattle.std.specs.Prelude.{Option, Some, None}
use Rattle.put.proofs.If.{if_true, if_false}
use Rattle.rights.specs.Verdict.{Verdict}
use Rattle.rights.specs.declared.View.{View}
use Rattle.rights.specs.Vault.{view_of}
use Rattle.record.specs.declared.Front.{Front}
use Rattle.record.specs.declared.Tag.{Tag}
use Rattle.record.specs.declared.Round.{Round}
use Rattle.record.specs.Update.{with_round, with_held, with_front, running}
use Rattle.tag.specs.Rules.{blocks_of}
use Rattle.tag.specs.Work.{Answer, Work, work, silence, verdict, says, perform}
use Rattle.tag.specs.Inventory.{fits, unheard, one_slot, inventory_of, inventory_answer, mask_length, in_slot, slot_of, next_slot}
use Rattle.tag.specs.Step.{Event, end_of_frame, request, line_of, dropped, frame_of, frame_ends, round_ends, work_of, step, run, Stepped}
use Rattle.tag.proofs.Sealed.{saying, inventory_step}
use Rattle.tray.specs.Tray.{Request, speaks_in, those, answering, requests_sent, Each, none, more}
use Rattle.tray.specs.Tags.{ask_frame, Proper, ends, up_to, rounds, Waits, said_in, said_from, last_of, is_silence, still}
use Rattle.tray.specs.Tags.{Placed, Holds, empty, another, speaking}
use Rattle.tray.proofs.Sent.{each_both, each_proper}
use Rattle.tray.proofs.Frames.{told_inventory, asked_fits, asked_not}

-- ---- one step

-- a front with a round open in a slot
abbrev open_at : Front → ℕ → ℕ → Front
open_at f slot bits = with_round (dropped f) (running slot bits)

module _ (t : Tag) (m : List ℕ) (f : Front) (on : f.field ≡ true) where
  -- the frame
  asks_frame : (q : Request) (w : Front) (a : Answer) → inventory_of (dropped f) (ask_frame q) ≡ work w (says a)
      → step (with_front t f) m (request (ask_frame q)) ≡ saying t m w (line_of a)
  asks_frame q w a e = inventory_step (with_front t f) m (ask_frame q) w a on (told_inventory q (dropped f)) e

  -- the end of a frame, in an open round and with none
  next_end : (slot bits : ℕ) → slot < 15
      → step (with_front t (open_at f slot bits)) m end_of_frame ≡ saying t m (open_at f (slot + 1) bits) (line_of (in_slot f (slot + 1) bits))
  unfolding step work_of next_slot perform in_slot slot_of
  next_end slot bits h = rw (if_true _ _ on, lt-ltb slot 15 h)

  quiet_end : step (with_front t (dropped f)) m end_of_frame ≡ saying t m (dropped f) []
  unfolding step work_of perform
  quiet_end = rw (if_true _ _ on)

-- ---- slot by slot

module _ (f : Front) (q : Request) where
  said_fits : fits q.mask q.bits f.uid ≡ true → (slot : ℕ) → line_of (in_slot f slot q.bits) ≡ said_in f q slot
  unfolding in_slot slot_of speaks_in
  said_fits e slot = grind arith

  said_not : fits q.mask q.bits f.uid ≡ false → (slot : ℕ) → [] ≡ said_in f q slot
  unfolding speaks_in
  said_not e slot = rw e

  module _ (t : Tag) (m : List ℕ) (on : f.field ≡ true) where
    ends_open : fits q.mask q.bits f.uid ≡ true → (k slot : ℕ) → slot + k ≤ 15
        → (run (with_front t (open_at f slot q.bits)) m (ends k)).answers ≡ said_from f q k (slot + 1)
    unfolding run ends said_from
    ends_open e zero slot h = refl
    ends_open e (suc k) slot h = rw (next_end t m f on slot q.bits (omega arith), said_fits e (slot + 1), ends_open e k (slot + 1) (omega arith))

    ends_quiet : fits q.mask q.bits f.uid ≡ false → (k slot : ℕ) → (run (with_front t (dropped f)) m (ends k)).answers ≡ said_from f q k slot
    unfolding run ends said_from
    ends_quiet e zero slot = refl
    ends_quiet e (suc k) slot = rw (quiet_end t m f on, ← said_not e slot, ends_quiet e k (slot + 1))

-- A Ready tag in the field, asked, then k ends of frame: in each slot, 0 to k, it answers if the search hears its UID there, and else is silent.
pub tag_says : {u : ℕ} (t : Tag) (m : List ℕ) (q : Request) (k : ℕ) → Waits u t → Proper q → k ≤ 15
    → (run t m (up_to q k)).answers ≡ said_from t.front q (suc k) 0
unfolding run said_from
tag_says t m q k w p h = here (fits q.mask q.bits t.front.uid) refl
  where
    here : (b : Bool) → fits q.mask q.bits t.front.uid ≡ b → (run t m (up_to q k)).answers ≡ said_from t.front q (suc k) 0
    here true e =
        rw (
          asks_frame t m t.front w.field q _ _ (asked_fits q p (dropped t.front) w.state e),
          said_fits (dropped t.front) q e 0,
          ends_open t.front q t m w.field e k 0 (omega arith),
        )
    here false e =
        rw (
          asks_frame t m t.front w.field q _ _ (asked_not q p (dropped t.front) w.state e),
          ← said_not t.front q e 0,
          ends_quiet t.front q t m w.field e k 1,
        )

-- so in slot k it says what the search hears of it
last_said : (f : Front) (q : Request) (k slot : ℕ) → last_of (said_from f q (suc k) slot) ≡ said_in f q (slot + k)
unfolding last_of said_from
last_said f q zero slot = rw (add-zero slot)
last_said f q (suc k) slot =
    let e : slot + suc k ≡ slot + 1 + k = omega arith in
    last_said f q k (slot + 1) ∙ rw e

pub tag_heard : {u : ℕ} (t : Tag) (m : List ℕ) (q : Request) (slot : ℕ) → Waits u t → Proper q → slot < 16
    → last_of (run t m (up_to q slot)).answers ≡ said_in t.front q slot
tag_heard t m q slot w p h = ap last_of (tag_says t m q slot w p (omega arith)) ∙ last_said t.front q slot 0 ∙ rw (zero-add slot)

-- ---- afterwards

-- a work that answers, and alters no more than these two
record Comes (f : Front) (w : Work) : Type 0 where
  pub front : Front
  pub answer : Answer
  pub is : w ≡ work front (says answer)
  pub same : dropped front ≡ dropped f

inventory_comes : (f : Front) (x : List ℕ) → Comes f (inventory_of f x)
unfolding inventory_of
inventory_comes f x = here (unheard f x) (one_slot x) refl refl
  where
    here : (a b : Bool) → unheard f x ≡ a → one_slot x ≡ b → Comes f (inventory_of f x)
    here true b e g = record { front = f; answer = silence; is = rw e; same = refl }
    here false true e g = record { front = f; answer = inventory_answer f; is = rw (e, g); same = refl }
    here false false e g =
        record { front = with_round f (running 0 (mask_length x)); answer = in_slot f 0 (mask_length x); is = rw (e, g); same = refl }

round_comes : (f : Front) (r : Option Round) → Comes f (round_ends r f)
unfolding next_slot
round_comes f None = record { front = f; answer = silence; is = refl; same = refl }
round_comes f (Some o) = here (ltb o.slot 15) refl
  where
    here : (b : Bool) → ltb o.slot 15 ≡ b → Comes f (next_slot f o.slot o.mask)
    here true e = record { front = with_round f (running (o.slot + 1) o.mask); answer = in_slot f (o.slot + 1) o.mask; is = rw e; same = refl }
    here false e = record { front = with_round f None; answer = silence; is = rw e; same = refl }

held_comes : (f : Front) (h : Option Verdict) → Comes f (frame_ends h f)
held_comes f None = round_comes f f.round
held_comes f (Some v) = record { front = with_held f None; answer = verdict v; is = refl; same = refl }

-- the events of a search
data OfSearch : Event → Type 0 where
  asked : (q : Request) → OfSearch (request (ask_frame q))
  ended : OfSearch end_of_frame

event_comes : (f : Front) (v : View) (blocks : ℕ) {e : Event} → OfSearch e → Comes f (work_of f v blocks e)
unfolding work_of frame_of
event_comes f v blocks (asked q) = here f.field refl
  where
    here : (b : Bool) → f.field ≡ b → Comes f (work_of f v blocks (request (ask_frame q)))
    here true e =
        let c = inventory_comes (dropped f) (ask_frame q) in
        record { front = c.front; answer = c.answer; is = if_true _ _ e ∙ rw (told_inventory q (dropped f)) c.is; same = c.same }
    here false e = record { front = f; answer = silence; is = if_false _ _ e; same = refl }
event_comes f v blocks ended = here f.field refl
  where
    here : (b : Bool) → f.field ≡ b → Comes f (work_of f v blocks end_of_frame)
    here true e =
        let c = held_comes f f.held in
        record { front = c.front; answer = c.answer; is = if_true _ _ e ∙ c.is; same = c.same }
    here false e = record { front = f; answer = silence; is = if_false _ _ e; same = refl }

event_still : (t : Tag) (m : List ℕ) {e : Event} → OfSearch e → (still (step t m e).tag ≡ still t) × ((step t m e).memory ≡ m)
unfolding step perform
event_still t m {e} a =
    let c = event_comes t.front (view_of t.vault) (blocks_of m) a in
    let s : step t m e ≡ saying t m c.front (line_of c.answer) = rw c.is in
    (ap (λ (x : Stepped). still x.tag) s ∙ ap (with_front t) c.same, ap (λ (x : Stepped). x.memory) s)

-- ---- any events of a search

run_still : (t : Tag) (m : List ℕ) {es : List Event} → Each OfSearch es → (still (run t m es).tag ≡ still t) × ((run t m es).memory ≡ m)
unfolding run
run_still t m none = (refl, refl)
run_still t m (more {u = e} a b) =
    let s = event_still t m a in
    let r = run_still (step t m e).tag (step t m e).memory b in
    (r.0 ∙ s.0, r.1 ∙ s.1)

each_end : (k : ℕ) → Each OfSearch (ends k)
unfolding ends
each_end zero = none
each_end (suc k) = more ended (each_end k)

each_up_to : (q : Request) (k : ℕ) → Each OfSearch (up_to q k)
each_up_to q k = more (asked q) (each_end k)

each_round : (qs : List Request) → Each OfSearch (rounds qs)
unfolding rounds
each_round [] = none
each_round (q ∷ qs) = each_both (each_up_to q 15) (each_round qs)

still_waits : {u : ℕ} {t t' : Tag} → still t' ≡ still t → Waits u t → Waits u t'
still_waits e w =
    record {
      field = ap (λ (x : Tag). x.front.field) e ∙ w.field;
      state = ap (λ (x : Tag). x.front.state) e ∙ w.state;
      uid = ap (λ (x : Tag). x.front.uid) e ∙ w.uid;
    }

-- After any requests of a search, a further one and any ends of frame, a tag is what it was but for the round and a held answer, and its memory too
pub nothing_else : (t : Tag) (m : List ℕ) (before : List Request) (q : Request) (k : ℕ)
    → (still (run t m (rounds before ++ up_to q k)).tag ≡ still t) × ((run t m (rounds before ++ up_to q k)).memory ≡ m)
nothing_else t m before q k = run_still t m (each_both (each_round before) (each_up_to q k))

-- .. so it is in the field, Ready and of the same UID, if it was
pub still_there : {u : ℕ} (t : Tag) (m : List ℕ) (before : List Request) (q : Request) (k : ℕ) → Waits u t
    → Waits u (run t m (rounds before ++ up_to q k)).tag
still_there t m before q k w = still_waits (nothing_else t m before q k).0 w

-- ---- a request of a search, after others

run_append : (t : Tag) (m : List ℕ) (es fs : List Event)
    → (run t m (es ++ fs)).answers ≡ (run t m es).answers ++ (run (run t m es).tag (run t m es).memory fs).answers
unfolding run
run_append t m [] fs = refl
run_append t m (e ∷ es) fs = ap (λ (x : List (List ℕ)). (step t m e).answer ∷ x) (run_append (step t m e).tag (step t m e).memory es fs)

last_append : (xs : List (List ℕ)) (y : List ℕ) (ys : List (List ℕ)) → last_of (xs ++ y ∷ ys) ≡ last_of (y ∷ ys)
unfolding last_of
last_append [] y ys = refl
last_append (x ∷ []) y ys = refl
last_append (x ∷ z ∷ xs) y ys = last_append (z ∷ xs) y ys

last_run : (xs : List (List ℕ)) (t : Tag) (m : List ℕ) (q : Request) (k : ℕ) → last_of (xs ++ (run t m (up_to q k)).answers) ≡ last_of (run t m (up_to q k)).answers
unfolding run
last_run xs t m q k = last_append xs _ _

-- what a tag says in a slot depends on its UID and DSFID alone
pub said_then : {u : ℕ} (t : Tag) (m : List ℕ) (before : List Request) (q : Request) (slot : ℕ) → Waits u t → Proper q → slot < 16
    → last_of (run t m (rounds before ++ up_to q slot)).answers ≡ said_in t.front q slot
said_then t m before q slot w p h =
    let r = run_still t m (each_round before) in
    let t' = (run t m (rounds before)).tag in
    let m' = (run t m (rounds before)).memory in
    ap last_of (run_append t m (rounds before) (up_to q slot)) ∙ last_run (run t m (rounds before)).answers t' m' q slot
    ∙ tag_heard t' m' q slot (still_waits r.0 w) p h ∙ ap (λ (x : Tag). said_in x.front q slot) r.0

-- ---- a tray

silent_or_not : (f : Front) (q : Request) (slot : ℕ) → is_silence (said_in f q slot) ≡ not (speaks_in q.mask q.bits slot f.uid)
silent_or_not f q slot = grind arith

tray_speaks : {ps : List Placed} {uids : List ℕ} (before : List Request) (q : Request) (slot : ℕ) → Holds ps uids → Proper q → slot < 16
    → speaking (rounds before ++ up_to q slot) ps ≡ answering uids q.mask q.bits slot
unfolding speaking those
tray_speaks before q slot empty p h = refl
tray_speaks before q slot (another {p = c} {ps} {u} {us} w r) p h =
    grind (arith, ap is_silence (said_then c.tag c.memory before q slot w p h), silent_or_not c.tag.front q slot, w.uid, tray_speaks before q slot r p h)

-- each of two parts of a list
each_later : {A : Type 0} {P : A → Type 0} (us : List A) {vs : List A} → Each P (us ++ vs) → Each P vs
each_later [] e = e
each_later (u ∷ us) (more p e) = each_later us e

each_first : {A : Type 0} {P : A → Type 0} {u : A} {us : List A} → Each P (u ∷ us) → P u
each_first (more p e) = p

-- For every request that the search of a tray sends, after those before it, and in each of its slots: those tags of the tray that are not silent are
-- exactly those that the search hears
pub tray_heard : (ps : List Placed) (uids : List ℕ) → Holds ps uids → (before after : List Request) (q : Request)
    → before ++ q ∷ after ≡ requests_sent uids → (slot : ℕ) → slot < 16
    → speaking (rounds before ++ up_to q slot) ps ≡ answering uids q.mask q.bits slot
tray_heard ps uids t before after q e slot h =
    let all : Each Proper (before ++ q ∷ after) = rw e (each_proper uids) in
    tray_speaks before q slot t (each_first (each_later before all)) h
