-- A link word is the word of its link.
use Rattle.std.proofs.Common.{◌∙◌}
use Rattle.vbr_world.proofs.KeptWorlds.{head_word, link_word}
use Rattle.vbr_world.proofs.world.lists.Lists.word.Goals as goal

pub returns-in-Head-clause-word : goal.returns-in-Head-clause-word
returns-in-Head-clause-word c =
    rw (← c.self.view_is, c.in-Head.is)
    (c.number_of.ensures.number
    ∙ head_word _ c.in-Head.bucket _ c.self.invariant (rw (← c.self.view_is, c.in-Head.is) at c.requires)
    c.index.ensures)

pub returns-in-LinkOf-clause-word : goal.returns-in-LinkOf-clause-word
returns-in-LinkOf-clause-word c =
    rw (← c.self.view_is, c.in-LinkOf.is)
    (c.number_of-in-LinkOf.ensures.number
    ∙ link_word _ c.in-LinkOf.slot _ c.self.invariant (rw (← c.self.view_is, c.in-LinkOf.is) at c.requires)
    c.index-in-LinkOf.ensures)
