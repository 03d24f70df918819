use Rattle.vbr_list.proofs.Names.{◌+◌, refl, ap, arith, sym, subst, PassView, Peeks, steps_besides, steps_to_value_of}
use Rattle.vbr_list.proofs.pieces.Going.{table_on}
use Rattle.vbr_list.proofs.look_ups.Passing.{peeks_on, peeks_refl}
use Rattle.vbr_list.proofs.look_ups.Following.{tells_since}
use Rattle.vbr_list.proofs.traversals.Searching.{last_search, lost_on, repeated_none_in, HasRepeatedIn}
use Rattle.vbr_list.proofs.seeking.seek_in.Goals as goal

pub loop-next-init : goal.loop-next-init
loop-next-init g c =
    let p = c.args.at.now.stepper.now in (
      record { pass = refl; slots = refl },
      peeks_refl p c.args.used c.args.budget c.requires.within,
      repeated_none_in 5 p.trace c.args.bucket (steps_besides p.trace) c.args.used,
    )

pub loop-next-preserved : goal.loop-next-preserved
loop-next-preserved g c =
    let x = c.loop-next.invariant in
    let y = c.traverse_in.ensures.peeks in
    let stopped = rw c.in-Err-Again.field-0-is at c.in-Err-Again.ensures.stopped in
    let paid = stopped.1 in
    let same = ap steps_to_value_of x.1.tries.goes.quiet.same.start in
    let counted = c.count_restart.ensures in
    let before = c.args.at.now.stepper.now in
    let since = c.traverse_in.new.used in (
      table_on x.0 (table_on c.traverse_in.ensures.table counted.table),
      subst (λ (p : PassView). Peeks before p c.args.used since c.args.budget) (sym counted.pass)
          (peeks_on x.1 y.tries.goes y.observes y.tries.within.0 y.tries.within.1),
      subst (λ (p : PassView). HasRepeatedIn 5 before.trace p.trace c.args.bucket (steps_besides before.trace)
          c.args.used since) (sym counted.pass)
          (lost_on c.law.ensures x.1.tries.goes.quiet y.tries.goes.quiet x.2 (omega (arith, paid, same)) stopped.2),
    )

pub returns-in-Ok-clause-sought : goal.returns-in-Ok-clause-sought
returns-in-Ok-clause-sought g c =
    let x = c.loop-next.invariant in
    let y = c.traverse_in.ensures.peeks in
    let p = c.args.at.now.stepper.now.trace in
    let next = c.in-Ok.ensures.next in
    let same = ap steps_to_value_of x.1.tries.goes.quiet.same.start in
    record {
      peeks = peeks_on x.1 y.tries.goes y.observes y.tries.within.0 y.tries.within.1;
      next = record {
        tells = tells_since c.traverse_in.new.at.stepper.now.trace c.args.bucket c.args.from c.in-Ok.next
            x.1.tries.goes.quiet
            next.tells;
        searches = last_search c.law.ensures x.1.tries.goes.quiet y.tries.goes.quiet x.2
            (steps_besides c.loop-next.at.stepper.now.trace) next.paid c.traverse_in.new.used (steps_besides p)
            (omega (arith, same));
      };
      tired = tt;
    }

pub returns-in-Err-Tired-clause-sought : goal.returns-in-Err-Tired-clause-sought
returns-in-Err-Tired-clause-sought g c =
    let x = c.loop-next.invariant in
    let y = c.traverse_in.ensures.peeks in
    let stopped = rw c.in-Err-Tired.field-0-is at c.in-Err-Tired.ensures.stopped in
    let short = stopped.0 in
    record {
      peeks = peeks_on x.1 y.tries.goes y.observes y.tries.within.0 y.tries.within.1;
      next = tt;
      tired = record {
        tired = short;
        searches = last_search c.law.ensures x.1.tries.goes.quiet y.tries.goes.quiet x.2 3 stopped.1 (c.args.budget + 1)
            11 (omega (arith, short));
      };
    }
