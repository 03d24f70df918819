use Rattle.std.proofs.Common.{refl}
use Rattle.vbr_machine.specs.Maps.{opening_entries}
use Rattle.vbr_machine.specs.Opened.{opening_keys, opening_payloads}
use Rattle.vbr_machine.specs.Runs.{world_after}
use Rattle.vbr_machine.proofs.histories.MapHistories.{map_legal}
use Rattle.vbr_machine.proofs.runs.SafeRuns.{every_run}
use Rattle.vbr_machine.proofs.laws.a_run_is_a_map.Goals as goal

pub returns : goal.returns
returns c = λ start passes run is ok.
    let safe = every_run start passes run is ok in
    map_legal (opening_entries start) (opening_keys start) (opening_payloads start) (world_after start run).calls
    (λ key. refl) safe.legal safe.values
