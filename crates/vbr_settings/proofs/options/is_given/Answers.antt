-- The switch's text is yes or no, or there is none.
use Rattle.std.proofs.Common.{◌∙◌}
use Rattle.clap.specs.Words.{found_of, rows_of}
use Rattle.clap.proofs.WalkLemmas.{one_text-rows}
use Rattle.vbr_settings.proofs.OptionValues.{switch_read}
use Rattle.vbr_settings.proofs.options.is_given.Goals as goal

pub returns : goal.returns
returns c =
    let rows = one_text-rows (found_of c.args.matches.now) c.args.name.now in
    switch_read c.args.name.now (rows_of (found_of c.args.matches.now)) c.get_flag.result c.requires
    (λ is. c.get_flag.ensures.none (rows ∙ is)) (λ is. c.get_flag.ensures.value (rows ∙ is))
    (λ is. c.get_flag.ensures.other (rows ∙ is))
