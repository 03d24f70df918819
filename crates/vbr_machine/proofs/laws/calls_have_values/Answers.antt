use Rattle.vbr_machine.proofs.runs.ToldValues.{run_values}
use Rattle.vbr_machine.proofs.laws.calls_have_values.Goals as goal

pub returns : goal.returns
returns c = run_values
