-- The fields of the word are those of its link.
use Rattle.std.proofs.Common.{◌≡◌, ◌<◌, ◌+◌, ◌*◌, ◌/◌, ◌%◌, ◌==◌, ℕ, Option, ap, sym, ◌∙◌}
use Rattle.vbr_words.specs.declared.link.TheConstants.{MARK}
use Rattle.vbr_words.specs.Words.{word_of, link_of, slot_in}
use Rattle.vbr_words.proofs.LinkWords.{link_of_parts, word_of-link_of}
use Rattle.vbr_words.proofs.link.WideWord.link.Goals as goal

-- the fields, with the slot of the slot field
fields_are : (named rest : ℕ) (slot : Option ℕ) → named < MARK → slot ≡ slot_in named →
    record { slot = slot; mark = rest % 2 == 1; version = rest / 2 } ≡ link_of (rest * MARK + named)
fields_are named rest slot small is =
    ap (λ (s : Option ℕ). record { slot = s; mark = rest % 2 == 1; version = rest / 2 }) is
    ∙ sym (link_of_parts named rest small)

pub returns-clause-link : goal.returns-clause-link
returns-clause-link c =
    fields_are c.self.inside.named c.self.inside.rest _ c.self.invariant c.slot_in.ensures
    ∙ ap link_of c.self.view_is

pub returns-clause-word : goal.returns-clause-word
returns-clause-word c =
    ap word_of (fields_are c.self.inside.named c.self.inside.rest _ c.self.invariant c.slot_in.ensures)
    ∙ word_of-link_of _ ∙ c.self.view_is
