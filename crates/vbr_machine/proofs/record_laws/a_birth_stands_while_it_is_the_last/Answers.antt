use Rattle.vbr_machine.proofs.records.Entries.{still_exact}
use Rattle.vbr_machine.proofs.record_laws.a_birth_stands_while_it_is_the_last.Goals as goal

pub returns : goal.returns
returns c = still_exact
