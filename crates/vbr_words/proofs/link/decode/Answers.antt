use Rattle.std.proofs.Common.{ap, ◌∙◌}
use Rattle.vbr_words.specs.Words.{word_of}
use Rattle.vbr_words.proofs.Layouts.{decoded_is}
use Rattle.vbr_words.proofs.LinkWords.{word_of-link_of}
use Rattle.vbr_words.proofs.Packing.{unpacked_room}
use Rattle.vbr_words.proofs.link.decode.Goals as goal

pub returns-clause-link : goal.returns-clause-link
returns-clause-link c =
    decoded_is c.args.layout c.args.word c.mark-mark.result c.named.result c.slot_in.result c.has_mark.result
    c.mark-mark.ensures.few c.mark-mark.ensures.mark c.named.ensures c.slot_in.ensures c.has_mark.ensures

pub returns-clause-word : goal.returns-clause-word
returns-clause-word c =
    ap word_of (decoded_is c.args.layout c.args.word c.mark-mark.result c.named.result c.slot_in.result
    c.has_mark.result c.mark-mark.ensures.few c.mark-mark.ensures.mark c.named.ensures c.slot_in.ensures
    c.has_mark.ensures)
    ∙ word_of-link_of _

pub returns-clause-room : goal.returns-clause-room
returns-clause-room c = unpacked_room c.args.layout c.args.word c.mark-mark.ensures.few c.ranges.word.fits
