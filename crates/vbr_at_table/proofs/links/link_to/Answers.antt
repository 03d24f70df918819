use Rattle.std.proofs.Common.{ℕ, false, ap, ◌∙◌}
use Rattle.vbr_words.specs.Words.{word_of, link_of}
use Rattle.vbr_words.proofs.Lemmas.{link_of-word_of}
use Rattle.vbr_machine.specs.Links.{link_to}
use Rattle.vbr_at_table.proofs.links.link_to.Goals as goal

pub returns-clause-link : goal.returns-clause-link
returns-clause-link c =
    ap link_of (c.encode.ensures
    ∙ ap (λ (v : ℕ). word_of (record { slot = c.args.slot; mark = false; version = v })) c.version_of.ensures)
    ∙ link_of-word_of (link_to c.args.slot c.args.holder_birth c.args.named_birth) c.requires.fits
