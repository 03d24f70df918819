use Rattle.vbr_list.proofs.Names.{rules, ◌≡◌, ◌≤◌, arith, begins_refl, disturbed, find_costs_among, listed_for}
use Rattle.vbr_list.proofs.Names.{quiet_refl, took_all}
use Rattle.vbr_list.proofs.traversals.Clearing.{clear_found}
use Rattle.vbr_list.proofs.traversals.Disturbing.{run_of, undisturbed}
use Rattle.vbr_list.proofs.traversals.Moments.{was_so}
use Rattle.vbr_list.proofs.inserts.Sufficing.{search_lacks}
use Rattle.vbr_list.proofs.traversals.Searching.{call_paid, lacks_steps, repeated_none}
use Rattle.vbr_list.proofs.finding.find_by.Goals as goal

pub returns-in-Some-clause-found : goal.returns-in-Some-clause-found
returns-in-Some-clause-found g c =
    let same : c.stepper-1.given.0 ≡ c.search.new.self.at.stepper.now = search rules in
    let p = c.args.stepper.now.trace in
    let r = c.search.new.self.at.stepper.now.trace in
    let quiet = c.search.ensures.goes.goes.quiet in
    let ok = run_of c.law.ensures quiet in
    let paid = call_paid p p r r c.law.ensures.start ok c.args.key 3 (quiet_refl p) quiet (begins_refl r.seen)
    (omega arith, omega arith) (repeated_none 9 p c.args.key 3 0) c.in-Some.ensures.found.traverses
    c.search.new.self.used 0
    (omega arith) in
    let costs : c.search.new.self.used ≤ find_costs_among (listed_for p c.args.key) (disturbed p r c.args.key) =
    omega (arith, paid) in
    rw same (record {
      quiet = search rules;
      found = search rules;
      was_so = was_so c.args.key _ c.law.ensures.start c.search.ensures.goes.goes.quiet.same
          c.in-Some.ensures.found.found;
      clear = clear_found c.args.key _ c.law.ensures.start c.search.ensures.goes.goes.quiet.same
          c.in-Some.ensures.found.found;
      within = search rules;
      took = search rules;
      costs = λ alone.
          let paid = undisturbed (λ t. c.search.new.self.used ≤ find_costs_among (listed_for p c.args.key) t) c.args.key
          costs alone in let used = c.in-Some.ensures.found.used in omega (arith, paid, used);
      disturbed_costs = let used = c.in-Some.ensures.found.used in omega (arith, costs, used);
    })

pub returns-in-None-clause-tired : goal.returns-in-None-clause-tired
returns-in-None-clause-tired g c =
    let same : c.stepper-in-None-1.given.0 ≡ c.search.new.self.at.stepper.now = search rules in
    let p = c.args.stepper.now.trace in
    let r = c.search.new.self.at.stepper.now.trace in
    let quiet = c.search.ensures.goes.goes.quiet in
    let ok = run_of c.law.ensures quiet in
    let tired = c.in-None.ensures.tired in
    let lacks = lacks_steps p p r c.law.ensures.start ok c.args.key (quiet_refl p) quiet (omega arith)
    (repeated_none 9 p c.args.key 3 0) tired.traverses c.args.budget tired.tired in
    rw same (record {
      quiet = search rules;
      refused = search rules;
      lacks = search_lacks p r c.args.key c.args.budget lacks;
      disturbed_lacks = lacks;
    })

pub returns-in-Some-clause-took : goal.returns-in-Some-clause-took
returns-in-Some-clause-took g c =
    let left : c.stepper-1.given.0 ≡ c.search.new.self.at.stepper.now = search rules in
    rw left (took_all c.search.ensures.goes.goes.counts)
