use Rattle.vbr_list.proofs.Names.{◌≡◌, rules, took_all}
use Rattle.vbr_list.proofs.inserts.Preparing.{within_all}
use Rattle.vbr_list.proofs.holding.replace_held_by.Goals as goal

pub returns : goal.returns
returns g c =
    let same : c.stepper-1.given.0 ≡ c.replace_entry-outcome.new.self.at.stepper.now = search rules in
    let x = c.replace_entry-outcome.ensures in
    let took = took_all x.counts.counts in
    rw same (record {
      took = took;
      replaces = record {
        steps = within_all x.counts;
        takes_no_slot = x.takes_no_slot;
        since = c.replace_entry-outcome.new.self.used;
        took = took;
        replaced = x.replaced;
        kept = x.kept;
      };
    })
