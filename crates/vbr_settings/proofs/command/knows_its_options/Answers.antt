-- `clap`'s definition computes at these arguments.
use Rattle.std.proofs.Common.{refl}
use Rattle.clap.proofs.OnLiterals.{clap_on_literals}
use lib.Count.{count_leading_zeros}
use Rattle.vbr_words.specs.Packing.{slot_bits}
use Rattle.vbr_settings.specs.Options.{command_line, AreOptions, number_among, has_switch, asks_map, file_among}
use Rattle.vbr_settings.specs.Options.{explained_among, settings_of, file_of, explained_of}
use Rattle.vbr_settings.proofs.command.knows_its_options.Goals as goal

pub returns-clause-name_alone : goal.returns-clause-name_alone
unfolding clap_on_literals command_line AreOptions number_among has_switch asks_map file_among explained_among
    settings_of file_of explained_of slot_bits count_leading_zeros
returns-clause-name_alone c name = (refl, refl, refl, refl, refl)

pub returns-clause-all_given : goal.returns-clause-all_given
unfolding clap_on_literals command_line AreOptions number_among has_switch asks_map file_among explained_among
    settings_of file_of explained_of
returns-clause-all_given c name = (refl, refl, refl, refl, refl)

pub returns-clause-file : goal.returns-clause-file
unfolding clap_on_literals command_line AreOptions file_among file_of
returns-clause-file c name = (refl, refl)

pub returns-clause-dashes : goal.returns-clause-dashes
unfolding clap_on_literals command_line AreOptions file_among file_of
returns-clause-dashes c name = (refl, refl)

pub returns-clause-standard : goal.returns-clause-standard
unfolding clap_on_literals command_line AreOptions file_among file_of
returns-clause-standard c name = (refl, refl)
