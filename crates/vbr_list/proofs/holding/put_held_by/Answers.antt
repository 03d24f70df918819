use Rattle.vbr_list.proofs.Names.{◌≡◌, true, false, rules, took_all}
use Rattle.vbr_list.proofs.inserts.Preparing.{within_all}
use Rattle.vbr_list.proofs.holding.put_held_by.Goals as goal

pub store_held-requires-clause-asked : goal.store_held-requires-clause-asked
store_held-requires-clause-asked g c = record { values = λ gives. search rules; absent = λ gives. absurd (cc) }

pub returns-in-Ok : goal.returns-in-Ok
returns-in-Ok g c =
    let same : c.stepper-1.given.0 ≡ c.store_held.new.self.at.stepper.now = search rules in
    let x = c.store_held.ensures in
    let took = took_all x.counts.counts in
    rw same (record {
      took = took;
      puts = record {
        steps = within_all x.counts;
        takes_no_slot = x.takes_no_slot;
        since = c.store_held.new.self.used;
        took = took;
        put = c.in-Ok.ensures.stored.stores;
        kept = tt;
      };
    })

pub unreachable-unreachable : goal.unreachable-unreachable
unreachable-unreachable g c =
    absurd (let z : true ≡ false = rw c.in-Otherwise.is at c.in-Err.ensures.kept.is_not in cc)

pub returns-in-OutOfSteps : goal.returns-in-OutOfSteps
returns-in-OutOfSteps g c =
    let same : c.stepper-in-OutOfSteps-1.given.0 ≡ c.store_held.new.self.at.stepper.now = search rules in
    let x = c.store_held.ensures in
    let kept = c.in-Err.ensures.kept in
    let says = rw c.in-OutOfSteps.is at kept.says in
    let took = took_all x.counts.counts in
    rw same (record {
      took = took;
      puts = record {
        steps = within_all x.counts;
        takes_no_slot = x.takes_no_slot;
        since = c.store_held.new.self.used;
        took = took;
        put = tt;
        kept = record { same = kept.same; has = kept.has; quiet = says.quiet; tires = says.tires };
      };
    })
