use Rattle.std.proofs.Common.{◌∙◌, ℕ, ap, true}
use Rattle.vbr_words.specs.Words.{link_of}
use Rattle.vbr_words.proofs.LinkWords.{link_of-marked}
use Rattle.vbr_words.proofs.link.WideWord.with_mark.Goals as goal

pub returns : goal.returns
returns c = link_of-marked c.self.inside.named c.self.inside.rest c.self.invariant
    ∙ ap (λ (n : ℕ). record (link_of n) { mark = true }) c.self.view_is
