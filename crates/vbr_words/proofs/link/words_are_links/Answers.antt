use Rattle.vbr_words.proofs.LinkWords.{link_of-word_of, word_of-link_of, IsLink-link_of, word_of-lt}
use Rattle.vbr_words.proofs.link.words_are_links.Goals as goal

pub returns : goal.returns
returns c = record {
  link_of_word = link_of-word_of;
  word_of_link = word_of-link_of;
  fits = IsLink-link_of;
  is_word = word_of-lt;
}
