use Rattle.std.proofs.Common.{ℕ, sym, subst, ap, ◌∙◌}
use Rattle.vbr_words.specs.KeptLinks.{link_anew, kept_link}
use Rattle.vbr_words.specs.Packing.{IsPackable}
use Rattle.vbr_words.specs.Words.{IsLink, word_of, link_of}
use Rattle.vbr_words.proofs.Lemmas.{link_of-word_of}
use Rattle.vbr_machine.specs.Links.{link_to}
use Rattle.vbr_at_table.proofs.links.link_to_same.Goals as goal

pub with_version-requires-clause-room : goal.with_version-requires-clause-room
with_version-requires-clause-room c =
    subst (λ (v : ℕ). IsPackable c.args.layout (word_of (link_anew c.args.layout c.args.word v)))
    (sym c.version_of.ensures) c.requires.room

pub with_version-requires-clause-fits : goal.with_version-requires-clause-fits
with_version-requires-clause-fits c =
    subst (λ (v : ℕ). IsLink (link_anew c.args.layout c.args.word v)) (sym c.version_of.ensures) c.requires.fits

pub returns-clause-word : goal.returns-clause-word
returns-clause-word c =
    c.with_version.ensures ∙ ap (λ (v : ℕ). word_of (link_anew c.args.layout c.args.word v)) c.version_of.ensures

pub returns-clause-link : goal.returns-clause-link
returns-clause-link c =
    ap link_of (c.with_version.ensures
    ∙ ap (λ (v : ℕ). word_of (link_anew c.args.layout c.args.word v)) c.version_of.ensures)
    ∙ link_of-word_of (link_to (kept_link c.args.layout c.args.word).slot c.args.holder_birth c.args.named_birth)
    c.requires.fits
