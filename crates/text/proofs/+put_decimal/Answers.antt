-- `text::put_decimal`, which calls itself, meets its contract.
-- Assumes nothing.
use borrow.Author.Rules.{rules}
use native.Mathlib.Omega.{arith}
use Rattle.text.proofs.Texts.{one_room, one_put, tenth_room, last_room, last_put}
use Rattle.text.proofs.+put_decimal.Goals as goal

-- a figure by itself has room
pub bounds-out-0 : goal.bounds-out-0
bounds-out-0 t c = one_room c.args.n c.args.out.now c.requires c.if-n-lt10.true

-- .. and is the number
pub returns-then-n-lt10 : goal.returns-then-n-lt10
returns-then-n-lt10 t c = one_put c.args.n c.args.out.now c.requires c.if-n-lt10.true

-- a tenth of the number is less, and its figures have room
pub put_decimal-at-requires : goal.put_decimal-at-requires
put_decimal-at-requires t c = (omega (arith, c.decreases), tenth_room c.args.n c.args.out.now c.requires c.if-n-lt10.false (search rules))

-- the last figure has room behind them
pub bounds-out-at : goal.bounds-out-at
bounds-out-at t c = last_room c.args.n c.args.out.now c.requires c.if-n-lt10.false (search rules) c.put_decimal-at.ensures

-- .. and all are the number
pub returns : goal.returns
returns t c = last_put c.args.n c.args.out.now c.requires c.if-n-lt10.false (search rules) c.put_decimal-at.ensures
