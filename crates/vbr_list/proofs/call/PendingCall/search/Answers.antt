use Rattle.vbr_list.proofs.Names.{ap, ◌∙◌, arith, refl, subst, sym, bucket_of, disturbed_at, PassView, Tries}
use Rattle.vbr_list.proofs.Names.{wide_found}
use Rattle.vbr_list.proofs.pieces.Going.{call_on, goes_further, tries_on, within_call}
use Rattle.vbr_list.proofs.traversals.LostTraversals.{searched_none}
use Rattle.vbr_list.proofs.traversals.Moments.{found_since}
use Rattle.vbr_list.proofs.traversals.Searching.{HasRepeatedIn, last_traversal, lost_on, traverses_again}
use Rattle.vbr_list.proofs.call.PendingCall.search.Goals as goal

pub loop-found-init : goal.loop-found-init
loop-found-init g c = searched_none c.args.self.now c.args.self.now.bucket 3

pub loop-found-preserved : goal.loop-found-preserved
loop-found-preserved g c =
    let t = c.traverse.ensures.goes in
    let same = call_on c.loop-found.invariant.0 t.call in
    let stopped =
    rw c.loop-found.invariant.0.bucket at (rw c.in-Err-Again.field-0-is at c.in-Err-Again.ensures.stopped) in
    let counted = c.count_restart.ensures in (
      call_on same (record { at = counted.table; key = refl; bucket = refl; budget = refl }),
      subst (λ (p : PassView). Tries c.args.self.now.at.stepper.now p c.args.self.now.used c.traverse.new.self.used
          c.args.self.now.budget) (sym counted.pass)
          (tries_on c.loop-found.invariant.1 t.goes t.more (within_call same)),
      subst (λ (p : PassView). HasRepeatedIn 9 c.args.self.now.at.stepper.now.trace p.trace c.args.self.now.bucket 3
          c.args.self.now.used c.traverse.new.self.used) (sym counted.pass)
          (lost_on c.law.ensures c.loop-found.invariant.1.goes.quiet t.goes.quiet c.loop-found.invariant.2 stopped.1
          stopped.2),
    )

pub returns-in-Ok-clause-goes : goal.returns-in-Ok-clause-goes
returns-in-Ok-clause-goes g c = goes_further c.loop-found.invariant.0 c.loop-found.invariant.1 c.traverse.ensures.goes

pub returns-in-Err-Tired-clause-goes : goal.returns-in-Err-Tired-clause-goes
returns-in-Err-Tired-clause-goes g c =
    goes_further c.loop-found.invariant.0 c.loop-found.invariant.1 c.traverse.ensures.goes

pub returns-in-Ok-clause-found : goal.returns-in-Ok-clause-found
returns-in-Ok-clause-found g c =
    let x = simp c.loop-found.invariant.0.at.slots at c.in-Ok.ensures.found in
    let p = c.args.self.now.at.stepper.now.trace in
    let q = c.loop-found.self.at.stepper.now.trace in
    let lost = c.loop-found.invariant.2 in
    let first = c.loop-found.invariant.1.goes.quiet in
    let t = c.traverse.ensures.goes.goes in
    let paid = rw c.loop-found.invariant.0.bucket at x.paid in
    let there = c.loop-found.self.of_key ∙ ap (bucket_of q.start.shape) c.loop-found.invariant.0.key in
    let repeats =
    last_traversal c.law.ensures first t.quiet lost paid (disturbed_at p c.args.self.now.bucket q.seen) (omega arith) in
    record {
      found = found_since c.args.self.now.key (wide_found c.args.self.now c.in-Ok.found) first
          (rw c.loop-found.invariant.0.key at x.found);
      used = x.used;
      last = record {
        begun = q;
        same = first.same;
        from = first.seen;
        to = t.quiet.seen;
        count = t.hand.takes_no_slot.count;
        knew = x.knew;
        pred = rw there at x.pred;
        cur = rw there at x.cur;
        lost = lost.lost;
        repeats = rw c.args.self.now.of_key at repeats;
      };
      traverses = rw c.args.self.now.of_key at (traverses_again c.law.ensures first t.quiet lost paid);
    }

pub returns-in-Err-Tired-clause-tired : goal.returns-in-Err-Tired-clause-tired
returns-in-Err-Tired-clause-tired g c =
    let x = rw c.loop-found.invariant.0.bucket at (rw c.in-Err-Tired.field-0-is at c.in-Err-Tired.ensures.stopped) in
    let again = traverses_again c.law.ensures c.loop-found.invariant.1.goes.quiet c.traverse.ensures.goes.goes.quiet
    c.loop-found.invariant.2 x.1 in
    record { tired = rw c.loop-found.invariant.0.budget at x.0; traverses = rw c.args.self.now.of_key at again }
