use Rattle.std.proofs.Common.{ℕ, subst, arith}
use Rattle.vbr_slots.proofs.runs.Openings.{AreLaid, laid, laid_all}
use Rattle.vbr_slots.proofs.laying.empty_words.Goals as goal

pub returns-clause-words : goal.returns-clause-words
returns-clause-words c =
    let low = c.loop-number-test.false in
    let high = c.loop-number.auto.number-end in
    let end = c.flag_words-number-end.ensures in
    laid_all c.args.shape.now c.loop-number.words.items
    (subst (λ (i : ℕ).
    AreLaid c.args.shape.now (laid c.args.shape.now c.args.shape.now.slots i) c.loop-number.words.items)
    (omega (arith, low, high, end)) c.loop-number.invariant)
