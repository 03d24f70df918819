use Rattle.std.proofs.Common.{◌<◌, sym, ap, ◌∙◌, subst, rules}
use Rattle.vbr_machine.specs.Start.{Start, IsStart}
use Rattle.vbr_machine.specs.Acceptance.{MayBear}
use Rattle.vbr_slots.specs.views.Views.{PassView, knows}
use Rattle.vbr_slots.proofs.pools.Passes.{taken_new, pool_taken}
use Rattle.vbr_slots.proofs.pools.Pools.{pooled_may}
use Rattle.vbr_slots.proofs.steps.Tried.{did_tried}
use Rattle.vbr_slots.proofs.at_table.AtTable.take_flag.Goals as goal

pub invariant_of-stepper : goal.invariant_of-stepper
invariant_of-stepper g c =
    let p = c.stepper.inside in
    let d = c.fetch_and-found.ensures in
    record {
      start = subst IsStart (sym d.same.1) c.stepper.invariant.start;
      pool = pool_taken p.runner c.fetch_and-found.new.runner c.args.slot c.fetch_and-found.result p.pool.items
          p.hand c.stepper.invariant.start d c.stepper.invariant.pool;
      tried = sym (did_tried d);
      low = subst (λ (s : Start). c.args.slot < s.shape.slots)
          (sym (d.same.1 ∙ ap (λ (v : PassView). v.trace.start) c.stepper.view_is ∙ c.args.self.now.own.1))
          c.requires.slot;
    }

pub returns-then-has_flag-clause-taken : goal.returns-then-has_flag-clause-taken
returns-then-has_flag-clause-taken g c = record {
  found = c.fetch_and-found.result;
  did = search rules;
  there = search rules;
  outside = λ has. (let p = c.stepper.inside in
      let new = taken_new p.runner c.fetch_and-found.new.runner c.args.slot c.fetch_and-found.result
      c.stepper.invariant.start c.fetch_and-found.ensures (sym c.has_flag.ensures ∙ c.if-has_flag.true) in
      subst MayBear new
      (pooled_may p.runner.start (knows p.runner) c.args.slot p.pool.items p.hand c.stepper.invariant.pool has));
  keeps = search rules;
}
