use Rattle.std.proofs.Common.{ℕ, true, Some, ap, ◌∙◌}
use Rattle.vbr_words.specs.Words.{word_of, link_of}
use Rattle.vbr_words.proofs.Lemmas.{link_of-word_of}
use Rattle.vbr_machine.specs.Links.{link_to, marked}
use Rattle.vbr_at_table.proofs.links.marked_link_to.Goals as goal

pub returns-clause-link : goal.returns-clause-link
returns-clause-link c =
    ap link_of (c.encode.ensures
    ∙ ap (λ (v : ℕ). word_of (record { slot = Some c.args.slot; mark = true; version = v })) c.version_of.ensures)
    ∙ link_of-word_of (marked (link_to (Some c.args.slot) c.args.holder_birth c.args.named_birth)) c.requires.fits
