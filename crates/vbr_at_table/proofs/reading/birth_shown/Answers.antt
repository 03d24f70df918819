use Rattle.vbr_at_table.proofs.reads.Moments.{birth_shown}
use Rattle.vbr_at_table.proofs.reads.ReadCalls.{fit, peek_in_one}
use Rattle.vbr_at_table.proofs.reading.birth_shown.Goals as goal

pub returns-clause-reads : goal.returns-clause-reads
returns-clause-reads g c =
    peek_in_one (fit c.args.at.now.stepper.now c.law.ensures) c.peek_birth.ensures.step c.peek_birth.ensures.pool

pub returns-clause-shown : goal.returns-clause-shown
returns-clause-shown g c = birth_shown c.peek_birth.ensures.step
