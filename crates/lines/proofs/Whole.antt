-- The theorem: the calls over any input, one for each byte and one for its end, write its whole output.
-- Assumes nothing.
use mathlib.Core.Path.{◌≡◌, refl, sym, ap, ◌∙◌}
use mathlib.Core.Logic.{⊎_elim}
use mathlib.Core.Bool.{Bool, true, false, and-false}
use mathlib.Core.List.{List, [], ◌∷◌, ◌++◌, append-nil}
use Prim.Native.Nat.{ℕ, ◌≤◌, ◌<◌}
use native.Mathlib.Numerals.{add-one}
use native.Mathlib.Omega.{arith}
use lib.ListN.{length, take, drop, length-append, length-take, length-drop, length-set}
use lib.Seq.{length-take-le, take_all, take_at, take-append-le, take-suc-set}
use lib.Dec.{ltb, eqb}
use borrow.Author.Tests.{le-ltb, lt-ltb, lt-leb, eq-eqb, ne_eqb}
use Rattle.std.specs.Prelude.{if◌then◌else◌, Option, Some, None, bytes_eq, codes}
use Rattle.std.proofs.lemmas.Bool.{false_from_ne_true}
use Rattle.std.proofs.lemmas.Slice.Eq.{bytes_eq-Decides}
use Rattle.rights.proofs.Cases.{if_one}
use Rattle.record.specs.declared.Tag.{Tag}
use Rattle.tag.specs.Rules.{blocks_of, sound}
use Rattle.tag.specs.Step.{Event, step}
use Rattle.tag.specs.Host.{is_memory, least_room, event_done, event_given}
use Rattle.tag.proofs.Sizes.{memory_kept}
use Rattle.tag.proofs.Sound.{stays_sound, factory_sound}
use Rattle.record.specs.declared.Kind.{Kind}
use Rattle.lines.specs.declared.Progress.{Progress}
use Rattle.lines.specs.Form.{lines_from, is_request, form_of, event_in}
use Rattle.lines.specs.Output.{Bench, first_memory, at_first, dash, text_of, said_by, output_from, output_of}
use Rattle.lines.specs.Calls.{started, so_far, with_byte, Given, nothing, line_given, ended, fed, finished, written}
use Rattle.text.proofs.Texts.{less_or_not}

-- ---- a line of over 128 bytes has no form, and so 129 of them tell

unlike_word : (l word : List ℕ) → length word < 129 → 128 < length l → bytes_eq l word ≡ false
unlike_word l word w h =
    false_from_ne_true (bytes_eq l word) (λ e. let f : l ≡ word = (bytes_eq-Decides l word).0 e in omega (arith, ap length f))

long_none : (l : List ℕ) → 128 < length l → form_of l ≡ None
unfolding form_of is_request
long_none l h =
    rw (unlike_word l (codes "ON") (omega arith) h, unlike_word l (codes "OFF") (omega arith) h, unlike_word l (codes "EOF") (omega arith) h, lt-leb _ _ h, and-false)

cut_tells : (p : Progress) (l m x : List ℕ) → line_given (form_of (take 129 l)) p (take 129 l) m x ≡ line_given (form_of l) p l m x
cut_tells p l m x =
    ⊎_elim
    (λ (k : 129 < length l).
    rw (long_none l (omega arith), long_none (take 129 l) (simp length-take (omega arith))))
    (λ (k : length l ≤ 129). rw (take_all 129 l k))
    (less_or_not 129 (length l))

-- ---- how far a session is, between two calls

-- the tag and its memory are such that no call is refused, and of the line so far the first 129 bytes are there
record Stands (p : Progress) (m x line : List ℕ) : Type 0 where
  memory : is_memory m ≡ true
  room : least_room ≤ length x
  legal : sound (blocks_of m) p.tag ≡ true
  whole : length p.line ≡ 129
  most : p.length ≤ 129
  cut : so_far p ≡ take 129 line

abbrev bench : Progress → List ℕ → Bench
bench p m = record { number = p.number; tag = p.tag; memory = m }

-- the length of what is there
there : {p : Progress} {m x : List ℕ} (line : List ℕ) → Stands p m x line → p.length ≡ length (take 129 line)
there {p} line s = sym (length-take-le p.length p.line (omega (arith, s.most, s.whole))) ∙ ap length s.cut

-- an event is not refused
done : (t : Tag) (e : Event) (m x : List ℕ) → is_memory m ≡ true → least_room ≤ length x → sound (blocks_of m) t ≡ true → event_given t e m x ≡ event_done t e m x
unfolding event_given
done t e m x i l s = rw (i, le-ltb _ _ l, s)

-- ---- a line: what is written, and where the session stands then

record Says (f : Option Kind) (p : Progress) (l m x : List ℕ) (g : Given) : Type 0 where
  text : g.text ≡ (said_by f (bench p m) l).text
  next : bench g.progress g.memory ≡ (said_by f (bench p m) l).bench
  stands : Stands g.progress g.memory g.room []

line_says : (f : Option Kind) (p : Progress) (l m x line : List ℕ) → Stands p m x line → Says f p l m x (line_given f p l m x)
line_says (Some k) p l m x line s =
    let e = event_in k l in
    let a = (step p.tag m e).answer in
    rw (done p.tag e m x s.memory s.room s.legal)
    (record {
      text = ap (λ (b : List ℕ). text_of p.number dash b) (take_at a (drop (length a) x) (length a) refl);
      next = refl;
      stands = record {
        memory = rw (memory_kept p.tag m e) s.memory;
        room = simp (length-append, length-drop) (omega (arith, s.room));
        legal = stays_sound p.tag m e s.legal;
        whole = s.whole;
        most = omega arith;
        cut = refl;
      };
    })
line_says None p l m x line s =
    record {
      text = refl;
      next = refl;
      stands = record { memory = s.memory; room = s.room; legal = s.legal; whole = s.whole; most = omega arith; cut = refl };
    }

ended_says : (p : Progress) (m x line : List ℕ) → Stands p m x line → Says (form_of line) p line m x (ended p m x)
unfolding ended
ended_says p m x line s = rw (s.cut, cut_tells p line m x) (line_says (form_of line) p line m x line s)

-- ---- one byte more

byte_stands : (p : Progress) (b : ℕ) (m x line : List ℕ) → Stands p m x line → Stands (with_byte p b) m x (line ++ (b ∷ []))
unfolding with_byte
byte_stands p b m x line s =
    ⊎_elim
    (λ (h : p.length < 129).
    let same : so_far p ≡ line = s.cut ∙ take_all 129 line (omega (arith, length-take 129 line, there line s)) in
    rw (lt-ltb _ _ h)
    (record {
      memory = s.memory;
      room = s.room;
      legal = s.legal;
      whole = length-set p.line p.length b ∙ s.whole;
      most = omega arith;
      cut = rw (add-one, take-suc-set p.line p.length b (omega (arith, s.whole)), same) (sym (take_all 129 (line ++ (b ∷ [])) (simp length-append (omega (arith, there line s, length-take 129 line)))));
    }))
    (λ (h : 129 ≤ p.length).
    rw (le-ltb _ _ h)
    (record {
      memory = s.memory;
      room = s.room;
      legal = s.legal;
      whole = s.whole;
      most = s.most;
      cut = s.cut ∙ sym (take-append-le 129 line (b ∷ []) (omega (arith, there line s, length-take 129 line)));
    }))
    (less_or_not p.length 129)

byte_bench : (p : Progress) (b : ℕ) (m : List ℕ) → bench (with_byte p b) m ≡ bench p m
unfolding with_byte
byte_bench p b m = if_one (λ (q : Progress). bench q m ≡ bench p m) (ltb p.length 129) (λ e. refl) (λ e. refl)

-- ---- the end, and any input

last : (p : Progress) (m x line : List ℕ) → Stands p m x line → (finished p m x).text ≡ output_from (bench p m) (lines_from line [])
unfolding finished lines_from output_from
last p m x [] s = rw (eq-eqb _ _ (there [] s))
last p m x (b ∷ bs) s =
    rw (ne_eqb _ _ (λ (e : p.length ≡ 0). omega (arith, there (b ∷ bs) s, length-take 129 (b ∷ bs))))
    ((ended_says p m x (b ∷ bs) s).text ∙ sym (append-nil _))

abbrev Claim : List ℕ → Type 0
Claim input = (p : Progress) (m x line : List ℕ) → Stands p m x line → written p m x input ≡ output_from (bench p m) (lines_from line input)

from_any : (input : List ℕ) → Claim input
unfolding written fed lines_from output_from
from_any [] p m x line s = last p m x line s
from_any (b ∷ bs) p m x line s = by_test (eqb b 0x0A) (from_any bs)
  where
    by_test : (newline : Bool) → Claim bs → (let g = if newline then ended p m x else nothing (with_byte p b) m x in g.text ++ written g.progress g.memory g.room bs) ≡ output_from (bench p m) (if newline then line ∷ lines_from [] bs else lines_from (line ++ (b ∷ [])) bs)
    by_test true rest =
        let e = ended_says p m x line s in
        rw (e.text, rest (ended p m x).progress (ended p m x).memory (ended p m x).room [] e.stands, e.next)
    by_test false rest =
        rest (with_byte p b) m x (line ++ (b ∷ [])) (byte_stands p b m x line s) ∙ ap (λ (c : Bench). output_from c (lines_from (line ++ (b ∷ [])) bs)) (byte_bench p b m)

-- ---- the whole input

pub writes_output : (x input : List ℕ) → least_room ≤ length x → written started first_memory x input ≡ output_of input
unfolding started at_first output_of
writes_output x input h =
    from_any input started first_memory x []
    (record {
      memory = refl;
      room = h;
      legal = factory_sound 512 0xE002230401D6C8F0;
      whole = refl;
      most = omega arith;
      cut = refl;
    })
