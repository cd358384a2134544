-- What a read gives joins the bytes that left the input, and each call those that were fed.
use Rattle.std.proofs.Common.{rules, of_calls, ◌++◌, take, take_all, append-nil, append_assoc}
use Rattle.std.proofs.KnownBytes.{Consumes-trans}
use Rattle.std.proofs.lemmas.List.{take_more}
use Rattle.std.proofs.lemmas.Fn.{FoldsTo-push}
use Rattle.pieces.proofs.each_byte.Goals as goal

-- a piece is read and none of it fed yet
pub loop-byte-init : goal.loop-byte-init
loop-byte-init g c =
    record {
      callable = search rules;
      before = c.loop.invariant.bytes;
      taken = Consumes-trans _ _ _ _ _ c.loop.invariant.taken (search rules);
      calls = rw append-nil c.loop.invariant.calls;
    }

-- one more byte of it
pub loop-byte-preserved : goal.loop-byte-preserved
loop-byte-preserved g c =
    let fed = c.loop-byte.invariant in
    record {
      callable = search of_calls;
      before = fed.before;
      taken = fed.taken;
      calls = rw (take_more _ _ 0 c.loop-byte-test.true, ← append_assoc) (FoldsTo-push _ _ _ _ _ _ fed.calls (search rules));
    }

-- all of it
pub loop-preserved : goal.loop-preserved
loop-preserved g c =
    let fed = c.loop-byte.invariant in
    record {
      callable = search rules;
      bytes = fed.before ++ take c.in_ok-n.n c.read.new.buf;
      taken = fed.taken;
      calls = rw (take_all _ _ c.loop-byte-test.false) at fed.calls;
    }

-- the read that gave no byte
pub returns-then-n-eq0-clause-fed : goal.returns-then-n-eq0-clause-fed
returns-then-n-eq0-clause-fed g c =
    let fed = c.loop.invariant in
    record {
      bytes = fed.bytes ++ take c.in_ok-n.n c.read.new.buf;
      last = c.loop.feed;
      taken = Consumes-trans _ _ _ _ _ fed.taken (search rules);
      calls = rw (c.if-n-eq0.true, append-nil) fed.calls;
    }
