use Rattle.vbr_machine.proofs.runs.SafeRuns.{every_run}
use Rattle.vbr_machine.proofs.whereabouts.Whereabouts.{unlinked_by, unlinked_there}
use Rattle.vbr_machine.proofs.laws.unstamped_with_its_unlinker.Goals as goal

pub returns : goal.returns
returns c = λ start passes run pass s is ok. (
  unlinked_by start passes run (every_run start passes run is ok) ok pass s,
  λ u. unlinked_there start passes run (every_run start passes run is ok) ok pass u.0 s u.1,
)
