use Rattle.vbr_slots.proofs.runs.Running.{runs}
use Rattle.vbr_slots.proofs.laws.the_table_is_a_run.Goals as goal

pub returns : goal.returns
returns c = runs
