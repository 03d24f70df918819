-- What the contracts of the set name from the crates below it, for crates that list `vbr_set` alone.
pub use Rattle.vbr_words.specs.Dimensions.{Dimensions}
pub use Rattle.vbr_machine.specs.Start.{Start, IsStart, set_start}
pub use Rattle.vbr_machine.specs.Maps.{map_start}
pub use Rattle.vbr_machine.specs.Keys.{Keys, AreKeysOf}
pub use Rattle.vbr_machine.specs.Opened.{opening_keys}
pub use Rattle.vbr_machine.specs.History.{IsLegal, calls_by, keys_after, reply_of, set_after}
pub use Rattle.vbr_machine.specs.Runs.{Begins, BeginsFor, IsRun, world_after}
pub use Rattle.vbr_machine.specs.Calls.{own_calls}
pub use Rattle.vbr_machine.specs.Nodes.{linked_after, marked_after}
pub use Rattle.vbr_machine.specs.Removals.{HasLeft, HasMarked, MarkedLeft}
pub use Rattle.vbr_machine.specs.Safety.{IsSafe}
pub use Rattle.vbr_machine.specs.declared.event.Event.{Event}
pub use Rattle.vbr_machine.specs.declared.event.Step.TheVariants.{ReadEpoch}
pub use Rattle.vbr_machine.specs.declared.history.Call.{Call}
pub use Rattle.vbr_machine.specs.declared.history.Op.{Op}
pub use Rattle.vbr_machine.specs.declared.history.Op.TheVariants.{Insert, Remove, Has}
pub use Rattle.vbr_slots.specs.steps.Alone.{IsAlone}
pub use Rattle.vbr_slots.specs.steps.Calls.{AddsAnswer, AddsNone, IsSame, OnlyLoads, Quiet, made_by}
pub use Rattle.vbr_slots.specs.runs.Closing.{AllOf, EachSeen, HandsBack, IsMissing}
pub use Rattle.vbr_slots.specs.views.Views.{Did, IsOf, KeepsPool, PassView, TableView, Trace, new_pass, new_passes}
pub use Rattle.vbr_at_table.specs.costs.Advances.{AdvancesWhereNeeded}
pub use Rattle.vbr_at_table.specs.hands.KeptSlots.{HasUnpublished, KeepsSlots, TakesNoSlot, SharesWhereFull}
pub use Rattle.vbr_at_table.specs.costs.Budgets.{most_to_take}
pub use Rattle.vbr_at_table.specs.pools.Refusals.{LeavesRoom}
pub use Rattle.vbr_at_table.specs.costs.WithinBudget.{TookWithin}
pub use Rattle.vbr_at_table.specs.Soundness.{HasSafeRun}
pub use Rattle.vbr_list.specs.calls.Budgets.{IsAnsweredOrSpent, LacksSteps, enough_past, enough_to_insert, enough_to_look_up, enough_to_search, enough_to_unlink, enough_with_a_slot, find_costs, insert_costs, listed_for, look_up_costs, remove_costs}
pub use Rattle.vbr_list.specs.traversals.Leaving.{Leaves}
pub use Rattle.vbr_list.specs.calls.Refusals.{IsRefusedInsert, IsTired}
pub use Rattle.vbr_at_table.specs.declared.refusal.Refusal.{Refusal}
pub use Rattle.vbr_at_table.specs.declared.refusal.Refusal.TheVariants.{OutOfSteps, NoSlot, EpochSpent}
