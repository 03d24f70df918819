use Rattle.vbr_list.proofs.Names.{rules, ◌≡◌, ◌+◌, ◌≤◌, true, false, sym, ap, ◌∙◌, refl, subst, arith, ◌==◌, is_some}
use Rattle.vbr_list.proofs.Names.{bucket_of, held_of, HeldIn, knows, Link, link_of, PIECE, quiet_on, Start, wide_held}
use Rattle.vbr_list.proofs.Names.{wide_marked}
use Rattle.vbr_list.proofs.traversals.Disturbing.{loses_place_disturb, moves_on, moves_on_disturb, run_of}
use Rattle.vbr_list.proofs.pieces.Going.{call_on, goes_further, goes_on, tries_on, within_call}
use Rattle.vbr_list.proofs.traversals.Moments.{cur_found}
use Rattle.vbr_list.proofs.traversals.Reaching.{node_found, node_reached, pred_inside, pred_on, stood_since}
use Rattle.vbr_list.proofs.traversals.Reaching.{traverses_on}
use Rattle.vbr_list.proofs.traversals.Visits.{GoesAlong, knows_now, met_knows, met_open, met_paid, met_past, met_to}
use Rattle.vbr_list.proofs.traversals.Visits.{paid_so_far, stands_still_on, start_stops, starts_traversal}
use Rattle.vbr_list.proofs.traversals.Visits.{visit_changes_none, visit_paid, visited_run, traversal_helped}
use Rattle.vbr_list.proofs.pieces.WideWords.{layout_at}
use Rattle.vbr_list.proofs.call.PendingCall.traverse.Goals as goal

pub help-requires-clause-pred : goal.help-requires-clause-pred
help-requires-clause-pred g c =
    rw (
      c.visit.ensures.goes.call.at.slots,
      c.loop-pred.invariant.0.at.slots,
      c.visit.ensures.goes.call.key,
      c.loop-pred.invariant.0.key,
    )
    (pred_on c.args.self.now.key (wide_held c.args.self.now c.loop-pred.pred) c.visit.ensures.goes.goes.quiet.same
    c.in-Ok-Marked.ensures.met.keeps
    c.loop-pred.invariant.1.reached.is)

pub loop-pred-init : goal.loop-pred-init
loop-pred-init g c =
    let fits = c.affords.ensures.0 c.if-not-affords.false in
    let used = c.in-Ok.ensures.used in (
      c.start.ensures.goes.call,
      record {
        tries = record { goes = c.start.ensures.goes.goes; within = (omega (arith, used), omega (arith, fits, used)) };
        some = omega (arith, used);
        reached = c.in-Ok.ensures.come;
        traverses = starts_traversal c.law.ensures c.args.self.now.bucket c.start.ensures.goes.goes.quiet
            c.start.ensures.observes 9 c.args.self.now.used c.start.new.self.used
            (wide_held c.args.self.now c.in-Ok.pred) used
            c.in-Ok.ensures.head;
      },
    )

pub loop-pred-preserved : goal.loop-pred-preserved
loop-pred-preserved g c =
    let v = c.visit.ensures.goes in
    let met = rw c.loop-pred.invariant.0.at.slots at (rw c.in-Ok-Smaller.field-0-is at c.in-Ok-Smaller.ensures.met) in
    let count = met.count in
    let i = c.loop-pred.invariant.1 in
    let same = c.loop-pred.invariant.0.key in
    let low = met.visits.low in
    let come = node_reached c.args.self.now.key met.visits.key (wide_held c.args.self.now c.loop-pred.pred)
    (wide_held c.args.self.now c.in-Ok-Smaller.node) v.goes.quiet.same
    (pred_inside i.reached.is) met.keeps met.reads met.visits.has (omega (arith, low, same)) in
    let y = c.affords-in-loop-pred.ensures.0 c.if-not-affords-2.false in
    let b = c.loop-pred.invariant.0.budget in (
      call_on c.loop-pred.invariant.0 v.call,
      traverses_on i v.goes (omega (arith, count)) (omega (arith, count, y, b)) come
          (met_to c.law.ensures c.args.self.now.bucket c.loop-pred.invariant.1.tries.goes.quiet
          c.visit.ensures.goes.goes.quiet c.visit.ensures.observes i.traverses met (omega (arith, count))
          come.is.unmarked),
    )

pub loop-pred-preserved-in-Ok-help : goal.loop-pred-preserved-in-Ok-help
loop-pred-preserved-in-Ok-help g c =
    let v = c.visit.ensures.goes in
    let h = c.help.ensures.goes in
    let i = c.loop-pred.invariant.1 in
    let met = rw c.loop-pred.invariant.0.at.slots at (rw c.in-Ok-Marked.field-0-is at c.in-Ok-Marked.ensures.met) in
    let helped = rw (c.visit.ensures.goes.call.at.slots ∙ c.loop-pred.invariant.0.at.slots) at
    c.in-Ok-help.ensures.helps in
    let before =
    pred_on c.args.self.now.key (wide_held c.args.self.now c.loop-pred.pred) v.goes.quiet.same
    c.in-Ok-Marked.ensures.met.keeps i.reached.is in
    let s = helped.come c.args.self.now.key before in
    let x = c.visit.ensures.used in
    let y = h.more in
    let few = c.help.ensures.few in
    let z = c.affords-in-Ok-Marked.ensures.0 c.if-not-affords-3.false in
    let b = v.call.budget in
    let d = c.loop-pred.invariant.0.budget in
    let p = c.args.self.now.at.stepper.now.trace in
    let r = c.visit.new.self.at.stepper.now.trace in
    let t = c.help.new.self.at.stepper.now.trace in
    let first = i.tries.goes.quiet in
    let whole = quiet_on first v.goes.quiet in
    let all = quiet_on whole h.goes.quiet in
    let is = c.law.ensures.start in
    let ok_t = run_of c.law.ensures all in
    let bucket = c.args.self.now.bucket in
    let inside : HeldIn (knows r) c.loop-pred.pred.at bucket =
    subst (HeldIn (knows r) c.loop-pred.pred.at)
    (ap (λ (start : Start). bucket_of start.shape c.args.self.now.key) whole.same.start ∙ sym c.args.self.now.of_key)
    before.inside in
    let count = met.count in
    let past : GoesAlong 9 p r bucket c.args.self.now.used c.help.new.self.used
    (wide_held c.args.self.now c.loop-pred.pred)
    (held_of (wide_marked c.args.self.now c.in-Ok-Marked.marked)) =
    met_past c.law.ensures c.args.self.now.bucket c.loop-pred.invariant.1.tries.goes.quiet
    c.visit.ensures.goes.goes.quiet c.visit.ensures.observes i.traverses met (omega (arith, count, few)) in (
      call_on c.loop-pred.invariant.0 (call_on v.call h.call),
      traverses_on i (goes_on v.goes h.goes) (omega (arith, x, y)) (omega (arith, few, z, b, d))
          (record { is = s.is; stood = stood_since v.goes.quiet s.stood })
          (traversal_helped c.law.ensures bucket whole h.goes.quiet past inside helped.epoch helped.opens),
    )

pub returns-in-Err-clause-goes : goal.returns-in-Err-clause-goes
returns-in-Err-clause-goes g c = goes_further c.loop-pred.invariant.0 c.loop-pred.invariant.1.tries
    c.visit.ensures.goes

pub returns-then-not-affords-3-clause-goes : goal.returns-then-not-affords-3-clause-goes
returns-then-not-affords-3-clause-goes g c =
    goes_further c.loop-pred.invariant.0 c.loop-pred.invariant.1.tries c.visit.ensures.goes

pub returns-in-Ok-Beyond-clause-goes : goal.returns-in-Ok-Beyond-clause-goes
returns-in-Ok-Beyond-clause-goes g c =
    goes_further c.loop-pred.invariant.0 c.loop-pred.invariant.1.tries c.visit.ensures.goes

pub returns-in-Err-help-clause-goes : goal.returns-in-Err-help-clause-goes
returns-in-Err-help-clause-goes g c =
    goes_further (call_on c.loop-pred.invariant.0 c.visit.ensures.goes.call)
    (tries_on c.loop-pred.invariant.1.tries c.visit.ensures.goes.goes c.visit.ensures.goes.more
    (within_call (call_on c.loop-pred.invariant.0 c.visit.ensures.goes.call))) c.help.ensures.goes

pub returns-in-Ok-Beyond-clause-found : goal.returns-in-Ok-Beyond-clause-found
returns-in-Ok-Beyond-clause-found g c =
    let v = c.visit.ensures.goes.goes.quiet in
    let i = c.loop-pred.invariant.1 in
    let met = rw c.loop-pred.invariant.0.at.slots at (rw c.in-Ok-Beyond.field-0-is at c.in-Ok-Beyond.ensures.met) in
    let count = met.count in
    let same = c.visit.ensures.goes.call.key ∙ c.loop-pred.invariant.0.key in
    let high = met.visits.1 in
    let is = c.loop-pred.invariant.0.key in
    let says = ap (λ k. k == c.in-Ok-Beyond.key) same in
    let cur = node_found c.args.self.now.key c.in-Ok-Beyond.key _ (wide_held c.args.self.now c.loop-pred.pred)
    (wide_held c.args.self.now c.in-Ok-Beyond.node) met.reads
    met.visits.0 (omega (arith, high, is)) says in
    record {
      found = cur_found c.args.self.now.key c.visit.new.self.used (wide_held c.args.self.now c.loop-pred.pred)
          (wide_held c.args.self.now c.in-Ok-Beyond.node)
          (c.visit.new.self.key == c.in-Ok-Beyond.key) i.reached i.tries.goes.quiet v met.keeps cur met.reads.stood;
      used = refl;
      knew = met_knows c.law.ensures c.args.self.now.bucket c.loop-pred.invariant.1.tries.goes.quiet
          c.visit.ensures.goes.goes.quiet c.visit.ensures.observes i.traverses met;
      pred = stands_still_on v.seen
          (visit_changes_none c.law.ensures c.args.self.now.bucket c.loop-pred.invariant.1.tries.goes.quiet
          c.visit.ensures.goes.goes.quiet c.visit.ensures.observes) i.traverses.stands;
      cur = met_open c.law.ensures c.args.self.now.bucket c.loop-pred.invariant.1.tries.goes.quiet
          c.visit.ensures.goes.goes.quiet c.visit.ensures.observes i.traverses met cur.unmarked;
      paid = met_paid c.law.ensures c.args.self.now.bucket c.loop-pred.invariant.1.tries.goes.quiet
          c.visit.ensures.goes.goes.quiet c.visit.ensures.observes i.traverses met (omega (arith, count));
    }

pub returns-clause-found : goal.returns-clause-found
returns-clause-found g c =
    let i = c.loop-pred.invariant.1 in
    record {
      found = search rules;
      used = refl;
      knew = i.traverses.knew;
      pred = i.traverses.stands;
      cur = tt;
      paid = paid_so_far c.law.ensures i.tries.goes.quiet i.traverses;
    }

pub returns-in_default-clause-stopped : goal.returns-in_default-clause-stopped
returns-in_default-clause-stopped g c =
    start_stops c.law.ensures c.args.self.now.bucket c.start.ensures.goes.goes.quiet c.start.ensures.observes 9
    c.start.ensures.used c.in_default.ensures.moved

pub returns-then-not-affords-2-clause-stopped : goal.returns-then-not-affords-2-clause-stopped
returns-then-not-affords-2-clause-stopped g c =
    (search rules, paid_so_far c.law.ensures c.loop-pred.invariant.1.tries.goes.quiet c.loop-pred.invariant.1.traverses)

pub returns-in-Err-clause-stopped : goal.returns-in-Err-clause-stopped
returns-in-Err-clause-stopped g c =
    let i = c.loop-pred.invariant.1 in
    let v = c.visit.ensures.goes.goes.quiet in
    let p = c.args.self.now.at.stepper.now.trace in
    let q = c.loop-pred.self.at.stepper.now.trace in
    let r = c.visit.new.self.at.stepper.now.trace in
    let first = i.tries.goes.quiet in
    let few = c.visit.ensures.used.1 in
    let some : is_some (link_of (wide_held c.args.self.now c.loop-pred.pred).word).slot ≡ true =
    ap (λ (l : Link). is_some l.slot)
    (sym (rw (layout_at c.layout.ensures.layout c.loop-pred.invariant.0.at) at c.decode.ensures.link)) ∙ sym
    c.is_some.ensures ∙ c.loop-pred-test.true in
    let steps = c.visit.ensures.goes.goes.hand.takes_no_slot.count ∙ i.tries.goes.hand.takes_no_slot.count in (
      omega arith,
      visit_paid c.law.ensures c.args.self.now.bucket c.loop-pred.invariant.1.tries.goes.quiet
          c.visit.ensures.goes.goes.quiet i.traverses (omega (arith, few)) some,
      moves_on_disturb p r c.law.ensures.start (visited_run c.law.ensures c.args.self.now.bucket first v)
          c.args.self.now.bucket (quiet_on first v).same steps q first.same v.seen i.traverses.knew
          (moves_on q r v.same v.seen c.in-Err.ensures.moved),
    )

pub returns-then-not-affords-3-clause-stopped : goal.returns-then-not-affords-3-clause-stopped
returns-then-not-affords-3-clause-stopped g c =
    let b = c.visit.ensures.goes.call.budget ∙ c.loop-pred.invariant.0.budget in
    let short : ¬ (c.visit.new.self.used + PIECE ≤ c.visit.new.self.budget) =
    λ h. (let f = c.if-not-affords-3.true in
    let z = c.affords-in-Ok-Marked.ensures.1 h in
    let w : false ≡ true = sym f ∙ z in
    cc) in
    let met = rw c.loop-pred.invariant.0.at.slots at (rw c.in-Ok-Marked.field-0-is at c.in-Ok-Marked.ensures.met) in
    let count = met.count in (
      omega (arith, short, b),
      met_paid c.law.ensures c.args.self.now.bucket c.loop-pred.invariant.1.tries.goes.quiet
          c.visit.ensures.goes.goes.quiet c.visit.ensures.observes c.loop-pred.invariant.1.traverses met
          (omega (arith, count)),
    )

pub returns-in-Err-help-clause-stopped : goal.returns-in-Err-help-clause-stopped
returns-in-Err-help-clause-stopped g c =
    let i = c.loop-pred.invariant.1 in
    let v = c.visit.ensures.goes.goes in
    let h = c.help.ensures.goes.goes in
    let met = rw c.loop-pred.invariant.0.at.slots at (rw c.in-Ok-Marked.field-0-is at c.in-Ok-Marked.ensures.met) in
    let few = c.help.ensures.few in
    let p = c.args.self.now.at.stepper.now.trace in
    let q = c.loop-pred.self.at.stepper.now.trace in
    let r = c.visit.new.self.at.stepper.now.trace in
    let t = c.help.new.self.at.stepper.now.trace in
    let first = i.tries.goes.quiet in
    let whole = quiet_on first v.quiet in
    let all = quiet_on whole h.quiet in
    let later = quiet_on v.quiet h.quiet in
    let is = c.law.ensures.start in
    let ok_t = run_of c.law.ensures all in
    let bucket = c.args.self.now.bucket in
    let steps = h.hand.takes_no_slot.count ∙ v.hand.takes_no_slot.count ∙ i.tries.goes.hand.takes_no_slot.count in
    let none = visit_changes_none c.law.ensures c.args.self.now.bucket c.loop-pred.invariant.1.tries.goes.quiet
    c.visit.ensures.goes.goes.quiet c.visit.ensures.observes in (
      omega arith,
      visit_paid c.law.ensures bucket first later i.traverses (let count = met.count in omega (arith, count, few))
          (ap is_some met.reads.named),
      loses_place_disturb p t is ok_t bucket all.same steps r (wide_held c.args.self.now c.loop-pred.pred) whole.same
          h.quiet.seen
          (knows_now p r whole.same whole.seen met.fresh) (stands_still_on v.quiet.seen none i.traverses.stands)
          (rw (c.visit.ensures.goes.call.at.slots ∙ c.loop-pred.invariant.0.at.slots) at c.in-Err-help.ensures.lost),
    )
