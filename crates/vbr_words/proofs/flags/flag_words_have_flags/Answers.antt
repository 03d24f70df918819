use Rattle.vbr_words.proofs.FlagWords.{has_flag-flag_word, flag_word-lt, flag_raised, flag_taken}
use Rattle.vbr_words.proofs.flags.flag_words_have_flags.Goals as goal

pub returns : goal.returns
returns c = record { has = has_flag-flag_word; is_word = flag_word-lt; set = flag_raised; cleared = flag_taken }
