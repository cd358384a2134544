-- The bytes of a record, written in two parts.
-- Assumes nothing.
use Prim.Native.Nat.{ℕ, ◌<◌}
use native.Mathlib.Omega.{arith}
use mathlib.Core.Path.{◌≡◌, ap, sym, ◌∙◌}
use mathlib.Core.Bool.{true}
use mathlib.Core.List.{List, [], ◌++◌}
use lib.ListN.{length, get_or, take, drop, length-take, length-drop, drop_of_length-le}
use lib.Seq.{take_at}
use borrow.Rule.Slice.PartMut.{put_mid, mid_of}
use Rattle.put.specs.Put.{Put}
use Rattle.record.specs.declared.Tag.{Tag}
use Rattle.tag.specs.Image.{header_of}
use Rattle.tag.proofs.Headers.{header_length_lem}
use Rattle.packed.specs.Bytes.{record_length, record_in, record_rule, passing_of, record_of}
use Rattle.packed.proofs.Again.{bytes_again}

-- the passing parts were put at the end
pub passing_put : (t : Tag) (r : List ℕ) {n : ℕ} {ys : List ℕ} → Put (passing_of t) (mid_of 64 8 r) ys n → length r ≡ record_length
    → put_mid 64 8 r ys ≡ take 64 r ++ passing_of t
passing_put t r p l =
    let rest : drop 8 (mid_of 64 8 r) ≡ [] = drop_of_length-le (mid_of 64 8 r) {i = 8} (simp length-take (omega arith)) in
    let none : drop 8 (drop 64 r) ≡ [] = drop_of_length-le (drop 64 r) {i = 8} (simp length-drop (omega arith)) in
    rw (p.is, rest, none)

-- and the header before them
pub record_put : (size : ℕ) (t : Tag) {n : ℕ} {xs ys zs : List ℕ} → Put (header_of size t) xs ys n → zs ≡ take 64 ys ++ passing_of t → zs ≡ record_of size t
unfolding record_of
record_put size t {n} {xs} p e = rw (e, p.is, take_at (header_of size t) (drop (length (header_of size t)) xs) 64 (header_length_lem size t))

-- or it stood there before
pub header_stood : (size blocks : ℕ) (t : Tag) (r : List ℕ) → ((n : ℕ) → get_or r n 0 < 256) → length r ≡ record_length → record_rule size blocks r ≡ true
    → header_of size t ≡ header_of size (record_in r) → take 64 r ++ passing_of t ≡ record_of size t
unfolding record_of
header_stood size blocks t r b l h same =
    let whole = bytes_again size blocks r b l h in
    let header = ap (take 64) (sym whole) ∙ take_at (header_of size (record_in r)) (passing_of (record_in r)) 64 (header_length_lem size (record_in r)) in
    rw (header, same)
