-- The faults are computed.
use Rattle.std.proofs.Common.{refl}
use Rattle.clap.proofs.OnLiterals.{clap_on_literals}
use Rattle.vbr_settings.specs.Options.{command_line, faults}
use Rattle.vbr_settings.proofs.command.knows_its_faults.Goals as goal

pub returns : goal.returns
unfolding clap_on_literals command_line faults
returns c = record {
  workers = λ _. refl;
  no_number = λ _. refl;
  no_value = λ _. refl;
  twice = λ _. refl;
  unknown = λ _. refl;
  stray = λ _. refl;
  help = λ _. refl;
  version = λ _. refl;
}
