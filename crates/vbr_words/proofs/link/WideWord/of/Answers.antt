use Rattle.std.proofs.Common.{◌+◌, ◌*◌, ◌∙◌}
use Rattle.vbr_words.specs.declared.link.TheConstants.{MARK}
use Rattle.vbr_words.proofs.LinkWords.{word_of_parts}
use Rattle.vbr_words.proofs.link.WideWord.of.Goals as goal

pub returns : goal.returns
returns c =
    (λ i. (c.args.link.version * 2 + c.mark_digit.ensures i) * MARK + c.slot_field.ensures i) ∙ word_of_parts
    c.args.link
