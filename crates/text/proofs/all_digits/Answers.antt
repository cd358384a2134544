-- `text::all_digits` meets its contract: the test of each byte is the definition's.
-- Assumes nothing.
use borrow.Author.Rules.{rules}
use Rattle.std.proofs.lemmas.Iterator.{YieldsList-from_slice}
use Rattle.std.proofs.lemmas.Iterator.Search.{all_from_yields_List}
use Rattle.text.specs.Text.{is_digit}
use Rattle.text.proofs.Texts.{all_as_list}
use Rattle.text.proofs.all_digits.Goals as goal

-- the chain's answer, in the words of the library
pub returns : goal.returns
returns c =
    let s = c.args.s.now in
    rw (all_as_list s) (all_from_yields_List (λ d. is_digit d) _ _ _ c.all.ensures.ran (YieldsList-from_slice s (cc)) (λ x b q called. search rules))
