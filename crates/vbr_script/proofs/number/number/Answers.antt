-- The loop's invariant, where the next digit is too large, and where there is none.
use Rattle.std.proofs.Common.{rules, ◌^◌, arith, sym, ◌∙◌}
use Rattle.vbr_script.proofs.Numerals.{number_after-large, number_after-end}
use Rattle.vbr_script.proofs.number.number.Goals as goal

pub returns-in_err-checked_mul : goal.returns-in_err-checked_mul
returns-in_err-checked_mul c = c.from_residual.ensures
    ∙ sym (number_after-large (2 ^ 64) c.loop-byte.value c.args.token.now c.loop-byte.byte-index (omega arith)
    (search rules) (omega (arith, c.in_err-checked_mul.ensures))) ∙ c.loop-byte.invariant.spells

pub returns-in_err-value : goal.returns-in_err-value
returns-in_err-value c = c.from_residual-in_err-value.ensures
    ∙ sym (number_after-large (2 ^ 64) c.loop-byte.value c.args.token.now c.loop-byte.byte-index (omega arith)
    (search rules) (omega (arith, c.in_err-value.ensures, c.in_ok-checked_mul.ensures, c.from.ensures)))
    ∙ c.loop-byte.invariant.spells

pub returns : goal.returns
returns c = sym
    (number_after-end (2 ^ 64) c.loop-byte.value c.args.token.now c.loop-byte.byte-index (omega arith)
    c.loop-byte.invariant.small) ∙ c.loop-byte.invariant.spells
