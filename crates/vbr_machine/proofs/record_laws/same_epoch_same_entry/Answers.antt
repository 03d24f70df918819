use Rattle.vbr_machine.proofs.records.Entries.{same_epoch_same_entry}
use Rattle.vbr_machine.proofs.record_laws.same_epoch_same_entry.Goals as goal

pub returns : goal.returns
returns c = same_epoch_same_entry
