use Rattle.std.proofs.Common.{ℕ, rules}
use Rattle.std.proofs.lemmas.List.Sorted.{IsNonDecreasingBy-from_sort_by_key}
use Rattle.vbr_set.proofs.reports.EntrySlots.{lists_slots}
use Rattle.vbr_set.proofs.entry_slots.slots_of.Goals as goal

pub returns : goal.returns
returns c = λ opened run x lists.
    let sorted = c.sort_unstable_by_key.new.self.items in
    lists_slots x c.gather_keys.new.keyed.items sorted c.without_keys.result.items
    (c.gather_keys.ensures.gathered opened run x lists) c.sort_unstable_by_key.ensures.permutation
    (IsNonDecreasingBy-from_sort_by_key (λ (node : ℕ × ℕ). node.0) sorted c.sort_unstable_by_key.ensures.sorted
    (λ a r q k. search rules)) c.without_keys.ensures
