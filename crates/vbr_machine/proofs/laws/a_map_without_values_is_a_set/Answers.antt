use Rattle.vbr_machine.specs.Maps.{keys_in}
use Rattle.vbr_machine.proofs.histories.MapHistories.{set_to_map, map_to_set, just_keys}
use Rattle.vbr_machine.proofs.laws.a_map_without_values_is_a_set.Goals as goal

pub returns : goal.returns
returns c = λ entries calls none told. (
  map_to_set entries (keys_in entries) calls (just_keys entries none) told,
  set_to_map entries (keys_in entries) calls (just_keys entries none) told,
)
