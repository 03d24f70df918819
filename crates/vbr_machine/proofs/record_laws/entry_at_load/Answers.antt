use Rattle.vbr_machine.proofs.records.Entries.{entry_shown}
use Rattle.vbr_machine.proofs.record_laws.entry_at_load.Goals as goal

pub returns : goal.returns
returns c = entry_shown
