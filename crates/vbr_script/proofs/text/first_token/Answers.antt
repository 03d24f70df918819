-- `position` finds the end of the first token.
use Rattle.std.proofs.Common.{◌<◌, length, arith, rules, tests}
use Rattle.std.proofs.lemmas.Bool.Decides.{nat_tests}
use Rattle.std.proofs.lemmas.Iterator.{YieldsList-from_slice}
use Rattle.std.proofs.lemmas.Iterator.Search.{position_from_yields_List}
use Rattle.vbr_script.specs.Text.{is_blank}
use Rattle.vbr_script.proofs.Splitting.{tokens_of-first}
use Rattle.vbr_script.proofs.text.first_token.Goals as goal

pub returns : goal.returns
returns c =
    let line = c.without_blanks-line.result.now in
    let found = position_from_yields_List is_blank _ _ c.position-end.result c.position-end.ensures.ran
    (YieldsList-from_slice line c.iter.ensures.rest) (λ x b q k. search (rules, tests)) in
    let some : 0 < length line = grind (arith, nat_tests) in
    let first = tokens_of-first line c.position-end.result some (c.without_blanks-line.ensures.front some) found in
    cc (first.0, first.1)
