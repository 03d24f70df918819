use Rattle.vbr_list.proofs.Names.{subst, sym, GoesIn, PassView}
use Rattle.vbr_list.proofs.helping.help.Goals as goal

pub returns-then-now-place-clause-goes : goal.returns-then-now-place-clause-goes
returns-then-now-place-clause-goes g c =
    let steps = c.unlink_and_retire-outcome.result.1 in
    subst (λ (p : PassView). GoesIn c.args.at.now.stepper.now p steps) (sym c.count_help.ensures.pass)
    c.unlink_and_retire-outcome.ensures.goes

pub returns-else-now-place-clause-goes : goal.returns-else-now-place-clause-goes
returns-else-now-place-clause-goes g c =
    let steps = c.unlink_and_retire-outcome.result.1 in
    subst (λ (p : PassView). GoesIn c.args.at.now.stepper.now p steps) (sym c.count_help.ensures.pass)
    c.unlink_and_retire-outcome.ensures.goes
