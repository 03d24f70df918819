use Rattle.std.proofs.Common.{refl}
use Rattle.vbr_words.proofs.FlagWords.{next_is}
use Rattle.vbr_words.proofs.flags.next_flag.Goals as goal

pub returns : goal.returns
returns c = next_is c.args.word c.args.slot _ c.ranges.word.fits refl
