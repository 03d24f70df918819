use Rattle.vbr_list.proofs.Names.{rules, arith, LosesPlace, wide_held}
use Rattle.vbr_list.proofs.inserts.Sufficing.{any_error}
use Rattle.vbr_list.proofs.call.PendingCall.help.Goals as goal

pub returns-clause-goes : goal.returns-clause-goes
returns-clause-goes g c =
    record { call = search rules; goes = c.help_by_copy-outcome.ensures.goes c.args.self.now.used; more = omega arith }

pub returns-in_err-place-clause-goes : goal.returns-in_err-place-clause-goes
returns-in_err-place-clause-goes g c =
    record { call = search rules; goes = c.help_by_copy-outcome.ensures.goes c.args.self.now.used; more = omega arith }

pub returns-in_err-place-clause-lost : goal.returns-in_err-place-clause-lost
returns-in_err-place-clause-lost g c =
    let held = wide_held c.args.self.now (record c.args.pred { epoch = c.args.marked.epoch }) in
    let lost : LosesPlace c.args.self.now.at.stepper.now.trace c.help_by_copy-outcome.new.at.stepper.now.trace held =
    search rules in
    any_error c.from_residual.result (λ rollback. lost)
