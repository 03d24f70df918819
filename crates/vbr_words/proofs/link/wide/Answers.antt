use Rattle.std.proofs.Common.{◌+◌, ◌*◌, ◌/◌, sym, subst, ◌∙◌}
use Rattle.vbr_words.specs.declared.link.TheConstants.{MARK}
use Rattle.vbr_words.specs.Packing.{IsPackable}
use Rattle.vbr_words.proofs.Layouts.{unpacked_is}
use Rattle.vbr_words.proofs.Packing.{unpacked_room}
use Rattle.vbr_words.proofs.link.wide.Goals as goal

pub returns-clause-word : goal.returns-clause-word
returns-clause-word c =
    (λ i. c.args.word / c.mark-mark.ensures.mark i * MARK + c.named.ensures i) ∙ unpacked_is c.args.layout c.args.word

pub returns-clause-room : goal.returns-clause-room
returns-clause-room c =
    subst (IsPackable c.args.layout)
    (sym ((λ i. c.args.word / c.mark-mark.ensures.mark i * MARK + c.named.ensures i)
    ∙ unpacked_is c.args.layout c.args.word))
    (unpacked_room c.args.layout c.args.word c.mark-mark.ensures.few c.ranges.word.fits)
