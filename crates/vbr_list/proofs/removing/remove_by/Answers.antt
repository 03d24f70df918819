use Rattle.vbr_list.proofs.Names.{rules, ◌∙◌, ap, ◌≡◌, refl, counts_on, Start, took_all}
use Rattle.vbr_list.proofs.traversals.LostTraversals.{searched_none, searched_on}
use Rattle.vbr_list.proofs.removes.AnsweredRemoves.{remove_refused, removed, removes_again}
use Rattle.vbr_list.proofs.removing.remove_by.Goals as goal

pub settle_remove-requires-clause-expects : goal.settle_remove-requires-clause-expects
settle_remove-requires-clause-expects g c = λ some.
    let same = (searched_on c.law.ensures c.loop-found.invariant c.reach.ensures.goes).goes.quiet.same in
    ap (λ (d : Start). d.shape.values) (same.start ∙ c.requires.own.1) ∙ c.requires.expects some

pub loop-found-init : goal.loop-found-init
loop-found-init g c = searched_none _ _ 6

pub loop-found-preserved : goal.loop-found-preserved
loop-found-preserved g c =
    removes_again c.law.ensures c.loop-found.invariant c.reach.ensures.goes c.in-Some.ensures.found
    c.settle_remove.ensures.settles
    (simp c.reach.ensures.goes.call.at.slots at c.in_default-settle_remove.ensures.rolls)

pub returns-in_default : goal.returns-in_default
returns-in_default g c =
    let same : c.stepper-1.given.0 ≡ c.reach.new.self.at.stepper.now = search rules in
    let so = c.loop-found.invariant in
    let went = c.reach.ensures.goes in
    rw same (record {
      took = took_all (searched_on c.law.ensures so went).goes.counts;
      calls = remove_refused c.law.ensures refl so went c.in_default.ensures.tired (search rules);
      changed = tt;
    })

pub returns-in-Ok : goal.returns-in-Ok
returns-in-Ok g c =
    let same : c.stepper-in-Ok-1.given.0 ≡ c.settle_remove.new.self.at.stepper.now = search rules in
    let so = c.loop-found.invariant in
    let went = c.reach.ensures.goes in
    let settles = c.settle_remove.ensures.settles in
    rw same (record {
      took = took_all (counts_on (searched_on c.law.ensures so went).goes.counts settles.counts);
      calls = removed c.law.ensures refl so went c.in-Some.ensures.found c.args.expected c.in-Ok.outcome settles
          (simp went.call.at.slots at c.in-Ok.ensures.answers) (search rules);
      changed = c.in-Ok.ensures.answers.changed;
    })
