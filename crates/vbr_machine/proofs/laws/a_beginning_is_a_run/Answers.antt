use Rattle.vbr_machine.proofs.runs.RunsGoOn.{begins_run}
use Rattle.vbr_machine.proofs.laws.a_beginning_is_a_run.Goals as goal

pub returns : goal.returns
returns c = λ start passes moment run ok begins. begins_run start passes moment run begins ok
