use Rattle.vbr_machine.proofs.runs.SafeRuns.{every_run}
use Rattle.vbr_machine.proofs.whereabouts.SlotsAddUp.{add_up}
use Rattle.vbr_machine.proofs.whereabouts.Whereabouts.{somewhere}
use Rattle.vbr_machine.proofs.laws.slots_add_up.Goals as goal

pub returns : goal.returns
returns c = λ start passes run is ok.
    add_up start passes run (somewhere start passes run (every_run start passes run is ok) ok)
