use Rattle.vbr_list.proofs.Names.{rules, ◌≡◌, sym, ap, ◌∙◌, subst, arith, eq-eqb, true, false, ◌==◌, nat_tests}
use Rattle.vbr_list.proofs.Names.{is_some, Held, Link, link_of, wide_held, wide_marked}
use Rattle.vbr_list.proofs.look_ups.Following.{follows_head, follows_marked, follows_node, no_slot, visit_lost}
use Rattle.vbr_list.proofs.pieces.Going.{call_on, goes_further}
use Rattle.vbr_list.proofs.traversals.Visits.{met_open, met_paid, paid_so_far, start_stops, stood_on}
use Rattle.vbr_list.proofs.pieces.Observing.{observes_on}
use Rattle.vbr_list.proofs.traversals.Reaching.{node_found}
use Rattle.vbr_list.proofs.look_ups.Passing.{absent_at_end, absent_before, present_at}
use Rattle.vbr_list.proofs.traversals.Traversals.{Follows}
use Rattle.vbr_list.proofs.pieces.WideWords.{layout_at}
use Rattle.vbr_list.proofs.call.PendingCall.traverse_past.Goals as goal

pub loop-here-init : goal.loop-here-init
loop-here-init g c =
    let v = c.start.ensures in (
      v.goes.call,
      follows_head c.law.ensures c.args.self.now.bucket c.args.self.now.key c.args.self.now.used c.start.new.self.used
          c.args.self.now.budget (wide_held c.args.self.now c.in-Ok.pred)
          (record { goes = v.goes.goes; observes = v.observes }) v.used
          (c.affords.ensures.0 c.if-not-affords.false) c.in-Ok.ensures.head,
    )

pub loop-here-preserved-in-Ok-Marked : goal.loop-here-preserved-in-Ok-Marked
loop-here-preserved-in-Ok-Marked g c =
    let v = c.visit.ensures in
    let i = c.loop-here.invariant in
    let met = rw i.0.at.slots at (rw i.0.key at (rw c.in-Ok-Marked.field-0-is at c.in-Ok-Marked.ensures.met)) in
    let y = c.affords-in-loop-here.ensures.0 c.if-not-affords-2.false in
    let b = i.0.budget in
    let P : Held → Type 0 = λ h.
    Follows c.args.self.now.at.stepper.now c.visit.new.self.at.stepper.now c.args.self.now.bucket c.args.self.now.key
    c.args.self.now.used c.visit.new.self.used c.args.self.now.budget (wide_held c.args.self.now c.loop-here.pred)
    (wide_held c.args.self.now h) in (
      call_on i.0 v.goes.call,
      subst P (sym c.held_of-here.ensures)
          (follows_marked c.law.ensures i.1 (record { goes = v.goes.goes; observes = v.observes }) v.used
          (omega (arith, y, b)) (wide_marked c.args.self.now c.in-Ok-Marked.marked) met),
    )

pub loop-here-preserved : goal.loop-here-preserved
loop-here-preserved g c =
    let v = c.visit.ensures in
    let i = c.loop-here.invariant in
    let met = rw i.0.at.slots at (rw i.0.key at (rw c.in-Ok-Smaller.field-0-is at c.in-Ok-Smaller.ensures.met)) in
    let y = c.affords-in-loop-here.ensures.0 c.if-not-affords-2.false in
    let b = i.0.budget in (
      call_on i.0 v.goes.call,
      follows_node c.law.ensures i.1 (record { goes = v.goes.goes; observes = v.observes }) v.used (omega (arith, y, b))
          (wide_held c.args.self.now c.in-Ok-Smaller.node) met,
    )

pub returns-in-Err : goal.returns-in-Err
returns-in-Err g c =
    let v = c.visit.ensures in
    let y = c.affords-in-loop-here.ensures.0 c.if-not-affords-2.false in
    let b = c.loop-here.invariant.0.budget in
    let some : is_some (link_of (wide_held c.args.self.now c.loop-here.here).word).slot ≡ true =
    ap (λ (l : Link). is_some l.slot)
    (sym (rw (layout_at c.layout.ensures.layout c.loop-here.invariant.0.at) at c.decode.ensures.link)) ∙ sym
    c.is_some.ensures ∙ c.loop-here-test.true in
    record {
      goes = goes_further c.loop-here.invariant.0 c.loop-here.invariant.1.peeks.tries v.goes;
      observes = observes_on c.loop-here.invariant.1.peeks.observes v.observes;
      stopped = visit_lost c.law.ensures c.loop-here.invariant.1 (record { goes = v.goes.goes; observes = v.observes })
          v.used (omega (arith, y, b)) some c.in-Err.ensures.moved;
      sight = tt;
    }

pub returns-then-self-key : goal.returns-then-self-key
returns-then-self-key g c =
    let v = c.visit.ensures in
    let i = c.loop-here.invariant in
    let met = rw i.0.at.slots at (rw i.0.key at (rw c.in-Ok-Beyond.field-0-is at c.in-Ok-Beyond.ensures.met)) in
    let says : true ≡ (c.args.self.now.key == c.in-Ok-Beyond.key) = let is = c.if-self-key.true in
    sym (eq-eqb c.args.self.now.key c.in-Ok-Beyond.key (sym (v.goes.call.key ∙ i.0.key) ∙ is)) in
    let cur = node_found c.args.self.now.key c.in-Ok-Beyond.key true (wide_held c.args.self.now c.loop-here.here)
    (wide_held c.args.self.now c.in-Ok-Beyond.node) met.reads
    met.visits.0 met.visits.1 says in
    let few = v.used.1 in
    record {
      goes = goes_further i.0 i.1.peeks.tries v.goes;
      observes = observes_on i.1.peeks.observes v.observes;
      sight = record {
        sees = present_at c.visit.new.self.at.stepper.now.trace.start c.args.self.now.key
            (wide_held c.args.self.now c.loop-here.here)
            (wide_held c.args.self.now c.in-Ok-Beyond.node) cur;
        fresh = met.fresh;
        stood = (met_open c.law.ensures c.args.self.now.bucket i.1.peeks.tries.goes.quiet v.goes.goes.quiet v.observes
            i.1.traverses met cur.unmarked).stood;
        paid = met_paid c.law.ensures c.args.self.now.bucket i.1.peeks.tries.goes.quiet v.goes.goes.quiet v.observes
            i.1.traverses met (omega (arith, few));
      };
      stopped = tt;
    }

pub returns-in-Ok-Beyond : goal.returns-in-Ok-Beyond
returns-in-Ok-Beyond g c =
    let v = c.visit.ensures in
    let i = c.loop-here.invariant in
    let met = rw i.0.at.slots at (rw i.0.key at (rw c.in-Ok-Beyond.field-0-is at c.in-Ok-Beyond.ensures.met)) in
    let key = v.goes.call.key ∙ i.0.key in
    let says : false ≡ (c.args.self.now.key == c.in-Ok-Beyond.key) = let isnt = c.if-self-key.false in
    let not : ¬ (c.args.self.now.key ≡ c.in-Ok-Beyond.key) = λ e. isnt (key ∙ e) in
    grind (arith, nat_tests, not) in
    let cur = node_found c.args.self.now.key c.in-Ok-Beyond.key false (wide_held c.args.self.now c.loop-here.here)
    (wide_held c.args.self.now c.in-Ok-Beyond.node) met.reads
    met.visits.0 met.visits.1 says in
    let few = v.used.1 in
    record {
      goes = goes_further i.0 i.1.peeks.tries v.goes;
      observes = observes_on i.1.peeks.observes v.observes;
      sight = record {
        sees = absent_before (wide_held c.args.self.now c.in-Ok-Beyond.node) i.1 c.args.self.now.of_key
            v.goes.goes.quiet.same met.keeps cur;
        fresh = met.fresh;
        stood = stood_on v.goes.goes.quiet.seen i.1.traverses.stands.stood;
        paid = met_paid c.law.ensures c.args.self.now.bucket i.1.peeks.tries.goes.quiet v.goes.goes.quiet v.observes
            i.1.traverses met (omega (arith, few));
      };
      stopped = tt;
    }

pub returns-clause-sight : goal.returns-clause-sight
returns-clause-sight g c =
    let none = no_slot c.decode.result.slot (sym c.is_some.ensures ∙ c.loop-here-test.false) in
    let i = c.loop-here.invariant.1 in
    record {
      sees = absent_at_end i c.args.self.now.of_key
          (ap (λ (l : Link). l.slot) (sym
          (rw (layout_at c.layout.ensures.layout c.loop-here.invariant.0.at) at c.decode.ensures.link))
          ∙ none);
      fresh = i.fresh;
      stood = i.traverses.stands.stood;
      paid = paid_so_far c.law.ensures i.peeks.tries.goes.quiet i.traverses;
    }

pub returns-in_default-clause-stopped : goal.returns-in_default-clause-stopped
returns-in_default-clause-stopped g c =
    start_stops c.law.ensures c.args.self.now.bucket c.start.ensures.goes.goes.quiet c.start.ensures.observes 5
    c.start.ensures.used c.in_default.ensures.moved

pub returns-then-not-affords-2-clause-stopped : goal.returns-then-not-affords-2-clause-stopped
returns-then-not-affords-2-clause-stopped g c = (
  search rules,
  paid_so_far c.law.ensures c.loop-here.invariant.1.peeks.tries.goes.quiet c.loop-here.invariant.1.traverses,
)
