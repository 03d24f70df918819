use Rattle.vbr_list.proofs.Names.{rules, ◌≡◌}
use Rattle.vbr_list.proofs.helping.help_apart.Goals as goal

pub returns-clause-goes : goal.returns-clause-goes
returns-clause-goes g c = λ used.
    let same : c.stepper-1.given.0 ≡ c.help.new.at.stepper.now = search rules in
    rw same (c.help.ensures.goes used)
