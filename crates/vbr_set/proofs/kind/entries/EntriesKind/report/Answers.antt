use Rattle.std.proofs.Common.{ℕ, ◌∙◌, rules}
use Rattle.std.proofs.lemmas.List.Sorted.{IsNonDecreasingBy-from_sort_by_key, length_permutation}
use Rattle.vbr_set.proofs.reports.LinkedEntries.{lists_entries}
use Rattle.vbr_set.proofs.kind.entries.EntriesKind.report.Goals as goal

pub returns : goal.returns
returns c = λ table passes valued e.
    let entries = c.args.told.listed.items in
    let sorted = c.sort_unstable_by_key.new.self.items in
    let moved = c.sort_unstable_by_key.ensures.permutation in
    record {
      legal = c.a_run_is_a_map.ensures table.start table.passes e.ends.run e.after.is_start e.ends.is_run;
      reports = record {
        listed = lists_entries e.after valued entries sorted e.holds.listed moved
            (IsNonDecreasingBy-from_sort_by_key (λ (entry : ℕ × ℕ). entry.0) sorted
            c.sort_unstable_by_key.ensures.sorted (λ a r q k. search rules));
        epoch = e.holds.epoch;
        live = e.holds.live;
        one_each = length_permutation entries sorted moved ∙ e.holds.one_each;
        marked = e.holds.marked;
        free = e.holds.free;
      };
    }
