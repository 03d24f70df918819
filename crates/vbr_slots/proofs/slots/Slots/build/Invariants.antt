use Rattle.std.proofs.Common.{◌≡◌, ◌-◌, []}
use Rattle.vbr_machine.specs.Start.{start_with}
use Rattle.vbr_slots.specs.runs.Rule.{witnesses}
use Rattle.vbr_slots.specs.views.Views.{new_passes}
use Rattle.vbr_slots.proofs.slots.Slots.build.Given as goal

abbrev pub invariant-loop-who : goal.invariant-loop-who
invariant-loop-who g l =
    (l.seat.table_id ≡ l.table.shared.table_id)
    × (l.seat.me ≡ (witnesses (record { keys = l.keys; payloads = l.values }) l.who (l.opening.passes - l.who), []))
    × (l.passes.items
    ≡ new_passes
    (record {
      table = l.table.shared.table_id;
      start = start_with l.opening.shape l.keys l.values;
      passes = l.opening.passes;
    }) 0 l.who)
