-- The first text of the option is read.
use Rattle.std.proofs.Common.{◌∙◌, codes}
use Rattle.clap.specs.Words.{found_of}
use Rattle.clap.proofs.WalkLemmas.{first_value-rows}
use Rattle.vbr_settings.specs.Options.{explained_among}
use Rattle.vbr_settings.proofs.options.Options.explained.Goals as goal

pub returns : goal.returns
unfolding explained_among
returns c = c.get_str.ensures ∙ first_value-rows (found_of c.args.self.now.matches) (codes "explain")
