use Rattle.vbr_list.proofs.Names.{ℕ, ◌+◌, ◌∙◌, subst, refl, sym, begins_run, disturbances_grow, disturbed_at}
use Rattle.vbr_list.proofs.Names.{PassView, Peeks, RepeatsIn, sighted, since, wide_sight}
use Rattle.vbr_list.proofs.traversals.Searching.{HasRepeatedIn, last_traversal, lost_on, stood_from, traverses_again}
use Rattle.vbr_list.proofs.traversals.LostTraversals.{run_whole}
use Rattle.vbr_list.proofs.pieces.Going.{call_on, goes_further, within_call}
use Rattle.vbr_list.proofs.pieces.Observing.{observes_on}
use Rattle.vbr_list.proofs.look_ups.LostLooks.{looked_none}
use Rattle.vbr_list.proofs.look_ups.Passing.{peeks_on}
use Rattle.vbr_list.proofs.call.PendingCall.search_past.Goals as goal

pub loop-sight-init : goal.loop-sight-init
loop-sight-init g c = looked_none c.args.self.now c.args.self.now.bucket 3

pub loop-sight-preserved : goal.loop-sight-preserved
loop-sight-preserved g c =
    let v = c.traverse_past.ensures.goes in
    let same = call_on c.loop-sight.invariant.0 v.call in
    let stopped =
    rw c.loop-sight.invariant.0.bucket at (rw c.in-Err-Again.field-0-is at c.in-Err-Again.ensures.stopped) in
    let counted = c.count_restart.ensures in
    let before = c.args.self.now in
    let since = c.traverse_past.new.self.used in (
      call_on same (record { at = counted.table; key = refl; bucket = refl; budget = refl }),
      subst (λ (p : PassView). Peeks before.at.stepper.now p before.used since before.budget) (sym counted.pass)
          (peeks_on c.loop-sight.invariant.1 v.goes c.traverse_past.ensures.observes v.more (within_call same)),
      subst (λ (p : PassView). HasRepeatedIn 5 before.at.stepper.now.trace p.trace before.bucket 3 before.used since)
          (sym counted.pass)
          (lost_on c.law.ensures c.loop-sight.invariant.1.tries.goes.quiet v.goes.quiet c.loop-sight.invariant.2
          stopped.1 stopped.2),
    )

pub returns-in-Ok : goal.returns-in-Ok
returns-in-Ok g c =
    let x = simp c.loop-sight.invariant.0.at.slots at c.in-Ok.ensures.sight in
    let p = c.args.self.now.at.stepper.now.trace in
    let q = c.loop-sight.self.at.stepper.now.trace in
    let r = c.traverse_past.new.self.at.stepper.now.trace in
    let first = c.loop-sight.invariant.1.tries.goes.quiet in
    let then = c.traverse_past.ensures.goes.goes.quiet in
    let is = c.law.ensures.start in
    let bucket = c.args.self.now.bucket in
    let same = c.loop-sight.invariant.0.bucket in
    let m = x.stood.moment in
    let ok = begins_run p.start p.passes m r.seen x.stood.to
    (run_whole c.law.ensures c.loop-sight.invariant.0 first c.traverse_past.ensures.goes) in
    let repeats =
    last_traversal c.law.ensures first then c.loop-sight.invariant.2 (rw same at x.paid) (disturbed_at p bucket m)
    (disturbances_grow (since p.start p.passes q.seen m is ok x.stood.from) p.who bucket) in
    record {
      goes = goes_further c.loop-sight.invariant.0 c.loop-sight.invariant.1.tries
          c.traverse_past.ensures.goes;
      observes = observes_on c.loop-sight.invariant.1.observes c.traverse_past.ensures.observes;
      sight = record {
        sees = rw c.loop-sight.invariant.0.key at x.sees;
        fresh = x.fresh;
        looks = record {
          stood = stood_from p q r (sighted (wide_sight c.args.self.now c.in-Ok.sight)) (same ∙ c.args.self.now.of_key)
              first.same first.seen x.stood;
          lost = c.loop-sight.invariant.2.lost;
          repeats = subst
              (λ (b : ℕ). RepeatsIn 5 p r b 3 c.args.self.now.used c.traverse_past.new.self.used
              (c.loop-sight.invariant.2.lost + 1) (disturbed_at p b m + 1)) c.args.self.now.of_key repeats;
        };
      };
      tired = tt;
    }

pub returns-in-Err-Tired : goal.returns-in-Err-Tired
returns-in-Err-Tired g c =
    let x = rw c.loop-sight.invariant.0.bucket at (rw c.in-Err-Tired.field-0-is at c.in-Err-Tired.ensures.stopped) in
    let again = traverses_again c.law.ensures c.loop-sight.invariant.1.tries.goes.quiet
    c.traverse_past.ensures.goes.goes.quiet
    c.loop-sight.invariant.2 x.1 in
    record {
      goes = goes_further c.loop-sight.invariant.0 c.loop-sight.invariant.1.tries c.traverse_past.ensures.goes;
      observes = observes_on c.loop-sight.invariant.1.observes
          c.traverse_past.ensures.observes;
      tired = record { tired = rw c.loop-sight.invariant.0.budget at x.0; looks = rw c.args.self.now.of_key at again };
      sight = tt;
    }
