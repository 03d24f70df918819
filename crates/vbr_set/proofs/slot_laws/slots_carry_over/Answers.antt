use Rattle.std.proofs.Common.{refl}
use Rattle.vbr_set.specs.reports.Kinds.{as_map, as_set}
use Rattle.vbr_set.proofs.reports.EntrySlots.{carries_over}
use Rattle.vbr_set.proofs.slot_laws.slots_carry_over.Goals as goal

pub returns : goal.returns
returns c =
    let opens = c.keys_open_in_slots_of_their_numbers.ensures in
    record {
      of_sets = carries_over as_set (λ shape items. refl) opens;
      of_maps = carries_over as_map (λ shape items. refl) opens;
    }
