use Rattle.vbr_machine.proofs.records.Published.{entry_at_opening}
use Rattle.vbr_machine.proofs.record_laws.keys_open_in_slots_of_their_numbers.Goals as goal

pub returns : goal.returns
returns c = entry_at_opening
