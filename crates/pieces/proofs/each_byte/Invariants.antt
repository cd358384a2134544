-- The bytes that have left the input are those of the calls; within a piece, those before it and the ones fed of it.
use Rattle.std.proofs.Common.{ℕ, List, ◌++◌, Ok, take}
use Rattle.std.specs.Io.KnownBytes.{Consumes}
use Rattle.std.specs.List.{FoldsTo}
use Rattle.pieces.proofs.each_byte.Given as goal

abbrev pub invariant-loop-byte : goal.invariant-loop-byte
invariant-loop-byte g l =
    record {
      callable : goal.F-IsAlwaysCallable g l.feed;
      before : List ℕ;
      taken : Consumes (g.R.Read.remaining l.fn.input) (g.R.Read.remaining l.input) (before ++ l.byte-items);
      calls : FoldsTo (λ f byte h. goal.F-step g f byte (Ok tt) h) l.fn.feed (before ++ take l.byte-index l.byte-items) l.feed;
    }

abbrev pub invariant-loop : goal.invariant-loop
invariant-loop g l =
    record {
      callable : goal.F-IsAlwaysCallable g l.feed;
      bytes : List ℕ;
      taken : Consumes (g.R.Read.remaining l.fn.input) (g.R.Read.remaining l.input) bytes;
      calls : FoldsTo (λ f byte h. goal.F-step g f byte (Ok tt) h) l.fn.feed bytes l.feed;
    }
