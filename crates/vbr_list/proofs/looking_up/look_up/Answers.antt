use Rattle.vbr_list.proofs.Names.{rules, ◌≡◌, ◌+◌, ◌∙◌, arith, ap, costs_among, counts_on, disturbed, listed_for}
use Rattle.vbr_list.proofs.Names.{loads_on, look_up_op, no_room, none_on, sighted, Start, steps_to_answer}
use Rattle.vbr_list.proofs.Names.{steps_where, took_all, TookWithin, value_of_entry, wide_sight}
use Rattle.vbr_list.proofs.pieces.Going.{call_on, within_call, within_of}
use Rattle.vbr_list.proofs.pieces.Observing.{observed}
use Rattle.vbr_list.proofs.traversals.Disturbing.{run_at}
use Rattle.vbr_list.proofs.traversals.Searching.{call_paid, looked_again}
use Rattle.vbr_list.proofs.look_ups.LostLooks.{looked_more, looked_none, peeks_until}
use Rattle.vbr_list.proofs.look_ups.Sights.{few_to_answer}
use Rattle.vbr_list.proofs.inserts.Sufficing.{took_alone}
use Rattle.vbr_list.proofs.pieces.Tiring.{look_up_tires}
use Rattle.vbr_list.proofs.pieces.Told.{answer_since, call_answered, given_same, told_since}
use Rattle.vbr_list.proofs.named_entries.EntryAnswers.{there_since, tires_entry}
use Rattle.vbr_list.proofs.looking_up.look_up.Goals as goal

pub settle_look_up-requires-clause-asked : goal.settle_look_up-requires-clause-asked
settle_look_up-requires-clause-asked g c = λ gives.
    let went = c.search_past.ensures in
    let same = (peeks_until (steps_to_answer c.args.gives) c.law.ensures c.loop-sight.invariant went.goes
    went.observes).tries.goes.quiet.same in
    ap (λ (d : Start). d.shape.values) (same.start ∙ c.requires.own.1) ∙ c.requires.asked gives

pub loop-sight-preserved : goal.loop-sight-preserved
loop-sight-preserved g c =
    let went = c.search_past.ensures in
    let settles = c.settle_look_up.ensures in
    let s = settles.settles in
    let rolls = c.in_default-settle_look_up.ensures.rolls in
    let low = s.more in
    looked_more (steps_to_answer c.args.gives) c.law.ensures c.loop-sight.invariant went.goes went.observes
    (sighted (wide_sight c.loop-sight.call c.in-Some.sight)) c.in-Some.ensures.sight.fresh c.in-Some.ensures.sight.looks
    s.call (record { quiet = rolls.quiet; counts = s.counts; hand = s.hand })
    (observed settles.only_loads rolls.adds_none) (omega (arith, low)) settles.few
    (rw went.goes.call.at.slots at rolls.loses)

pub loop-sight-init : goal.loop-sight-init
loop-sight-init g c = looked_none _ _ (3 + steps_to_answer c.args.gives)

pub returns-in_default : goal.returns-in_default
returns-in_default g c =
    let same : c.stepper-1.given.0 ≡ c.search_past.new.self.at.stepper.now = search rules in
    let so = c.loop-sight.invariant in
    let went = c.search_past.ensures in
    let tired = c.in_default.ensures.tired in
    rw same (record {
      took = took_all (peeks_until (steps_to_answer c.args.gives) c.law.ensures so went.goes
          went.observes).tries.goes.counts;
      finds = tires_entry (look_up_tires c.law.ensures c.args.key so.1.tries went.goes.goes
          (within_call (call_on so.0 went.goes.call)) (rw so.0.budget at tired.tired) (search rules)
          (few_to_answer c.args.gives) so.1.observes went.observes so.2 (rw so.0.key at tired.looks));
    })

pub returns-then-not-affords : goal.returns-then-not-affords
returns-then-not-affords g c =
    let same : c.stepper-then-not-affords-1.given.0 ≡ c.search_past.new.self.at.stepper.now = search rules in
    let so = c.loop-sight.invariant in
    let went = c.search_past.ensures in
    let call = call_on so.0 went.goes.call in
    let short = no_room c.search_past.new.self.used c.search_past.new.self.budget c.affords.result c.if-not-affords.true
    c.affords.ensures.1 in
    rw same (record {
      took = took_all (peeks_until (steps_to_answer c.args.gives) c.law.ensures so went.goes
          went.observes).tries.goes.counts;
      finds = tires_entry (look_up_tires c.law.ensures c.args.key so.1.tries went.goes.goes (within_call call)
          (rw call.budget at short) (search rules) (few_to_answer c.args.gives) so.1.observes went.observes so.2
          (looked_again c.law.ensures so.1.tries.goes.quiet went.goes.goes.quiet
          (rw so.0.key at c.in-Some.ensures.sight.looks)));
    })

pub returns-in-Ok-clause-took : goal.returns-in-Ok-clause-took
returns-in-Ok-clause-took g c =
    let same : c.stepper-in-Ok-1.given.0 ≡ c.settle_look_up.new.self.at.stepper.now = search rules in
    let went = c.search_past.ensures in
    rw same (took_all
    (counts_on (peeks_until (steps_to_answer c.args.gives) c.law.ensures c.loop-sight.invariant went.goes
    went.observes).tries.goes.counts c.settle_look_up.ensures.settles.counts))

pub returns-in-Ok-clause-finds : goal.returns-in-Ok-clause-finds
returns-in-Ok-clause-finds g c =
    let same : c.stepper-in-Ok-1.given.0 ≡ c.settle_look_up.new.self.at.stepper.now = search rules in
    let p = c.args.stepper.now in
    let r = c.settle_look_up.new.self.at.stepper.now in
    let op = look_up_op c.args.gives in
    let so = c.loop-sight.invariant in
    let went = c.search_past.ensures in
    let then = went.goes.goes.quiet in
    let settles = c.settle_look_up.ensures in
    let before = peeks_until (steps_to_answer c.args.gives) c.law.ensures so went.goes went.observes in
    let first = before.tries.goes.quiet in
    let call = call_on so.0 went.goes.call in
    let answers = c.in-Ok.ensures.answers in
    let answered = rw call.key at answers.answers.made in
    let made = told_since first (given_same first.same op c.args.key (value_of_entry c.in-Ok.answer)) answered in
    let counts = counts_on before.tries.goes.counts settles.settles.counts in
    let looks = looked_again c.law.ensures so.1.tries.goes.quiet then (rw so.0.key at c.in-Some.ensures.sight.looks) in
    let all = call_paid p.trace c.loop-sight.call.at.stepper.now.trace c.search_past.new.self.at.stepper.now.trace
    r.trace c.law.ensures.start (run_at p.trace r.trace made.same made.is_run) c.args.key
    (3 + steps_to_answer c.args.gives) so.1.tries.goes.quiet then answered.seen (omega arith, omega arith)
    so.2 looks c.settle_look_up.new.self.used (steps_to_answer c.args.gives) settles.few in
    let n = listed_for p.trace c.args.key in
    let paid : TookWithin p.trace r.trace
    (costs_among n (disturbed p.trace r.trace c.args.key) (steps_where c.args.gives)) =
    within_of c.settle_look_up.new.self.used _ (omega (arith, all)) counts in
    rw same (record {
      calls = call_answered c.in-Ok.answer c.law.ensures made (search rules) counts
          (within_call (call_on call settles.settles.call))
          (record {
            only_loads = loads_on before.observes.only_loads settles.only_loads;
            adds = answer_since first.same before.observes.adds_none op c.args.key (value_of_entry c.in-Ok.answer)
                (rw call.key at answers.answers.adds);
            adds_none = tt;
            takes_no_slot = none_on before.tries.goes.hand.takes_no_slot settles.settles.hand.takes_no_slot;
            refused = tt;
            within = tt;
            disturbed_within = tt;
            costs = took_alone (λ t. costs_among n t (steps_where c.args.gives)) c.args.key paid (omega arith);
            disturbed_costs = paid;
          });
      there = there_since c.args.gives r.trace c.args.key first c.in-Ok.answer (rw call.key at answers.there);
      zero = answers.zero;
    })
