use Rattle.vbr_machine.proofs.runs.SafeRuns.{every_run}
use Rattle.vbr_machine.proofs.whereabouts.Whereabouts.{somewhere}
use Rattle.vbr_machine.proofs.laws.each_slot_is_somewhere.Goals as goal

pub returns : goal.returns
returns c = λ start passes run s is ok. somewhere start passes run (every_run start passes run is ok) ok s
