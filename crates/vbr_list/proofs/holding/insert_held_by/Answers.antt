use Rattle.vbr_list.proofs.Names.{◌≡◌, rules, refl, took_all}
use Rattle.vbr_list.proofs.inserts.HeldInserts.{kept_held}
use Rattle.vbr_list.proofs.inserts.Preparing.{within_all}
use Rattle.vbr_list.proofs.holding.insert_held_by.Goals as goal

pub store_held-requires-clause-asked : goal.store_held-requires-clause-asked
store_held-requires-clause-asked g c = record { values = λ gives. absurd (cc); absent = λ gives. refl }

pub returns-in-Ok : goal.returns-in-Ok
returns-in-Ok g c =
    let same : c.stepper-1.given.0 ≡ c.store_held.new.self.at.stepper.now = search rules in
    let x = c.store_held.ensures in
    let took = took_all x.counts.counts in
    rw same (record {
      took = took;
      inserts = record {
        steps = within_all x.counts;
        takes_no_slot = x.takes_no_slot;
        since = c.store_held.new.self.used;
        took = took;
        published = c.in-Ok.ensures.stored.stores;
        kept = tt;
      };
    })

pub returns-in-Err : goal.returns-in-Err
returns-in-Err g c =
    let same : c.stepper-in-Err-1.given.0 ≡ c.store_held.new.self.at.stepper.now = search rules in
    let x = c.store_held.ensures in
    let took = took_all x.counts.counts in
    rw (same, c.of_insert.ensures) (record {
      took = took;
      inserts = record {
        steps = within_all x.counts;
        takes_no_slot = x.takes_no_slot;
        since = c.store_held.new.self.used;
        took = took;
        published = tt;
        kept = kept_held c.args.value c.in-Err.back c.in-Err.why c.in-Err.ensures.kept;
      };
    })
