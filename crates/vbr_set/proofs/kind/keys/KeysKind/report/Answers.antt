use Rattle.std.proofs.Common.{◌∙◌}
use Rattle.std.proofs.lemmas.List.Sorted.{IsNonDecreasingBy-from_sort, length_permutation}
use Rattle.vbr_set.proofs.reports.LinkedKeys.{lists_keys}
use Rattle.vbr_set.proofs.kind.keys.KeysKind.report.Goals as goal

pub returns : goal.returns
returns c = λ table passes bare e.
    let keys = c.args.told.listed.items in
    let sorted = c.sort_unstable.new.self.items in
    record {
      legal = e.ends.safe.legal;
      reports = record {
        listed = lists_keys e.after keys sorted e.holds.listed c.sort_unstable.ensures.permutation
            (IsNonDecreasingBy-from_sort (λ y. y) sorted c.sort_unstable.ensures.sorted);
        epoch = e.holds.epoch;
        live = e.holds.live;
        one_each = length_permutation keys sorted c.sort_unstable.ensures.permutation ∙ e.holds.one_each;
        marked = e.holds.marked;
        free = e.holds.free;
      };
    }
