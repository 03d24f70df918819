use Rattle.vbr_machine.proofs.histories.OpenedMaps.{opens_with_entries}
use Rattle.vbr_machine.proofs.laws.entries_open_as_their_map.Goals as goal

pub returns : goal.returns
returns c = opens_with_entries
