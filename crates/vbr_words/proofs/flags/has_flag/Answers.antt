use Rattle.vbr_words.proofs.FlagWords.{flag_tested}
use Rattle.vbr_words.proofs.flags.has_flag.Goals as goal

pub returns : goal.returns
returns c = flag_tested c.args.word c.args.slot
