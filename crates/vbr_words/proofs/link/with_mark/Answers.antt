use Rattle.vbr_words.proofs.Layouts.{marked_is}
use Rattle.vbr_words.proofs.link.with_mark.Goals as goal

pub returns : goal.returns
returns c = marked_is c.args.layout c.args.word c.mark.result c.mark.ensures.few c.mark.ensures.mark
