use Rattle.vbr_at_table.proofs.reads.Shown.{epoch_told}
use Rattle.vbr_slots.proofs.Lemmas.{fresh_read}
use Rattle.std.proofs.Common.{sym}
use Rattle.vbr_at_table.proofs.reads.Moments.{epoch_read}
use Rattle.vbr_at_table.proofs.reads.ReadCalls.{epoch_in_one, fit}
use Rattle.vbr_at_table.proofs.reading.checkpoint.Goals as goal

pub returns-clause-reads : goal.returns-clause-reads
returns-clause-reads g c =
    epoch_in_one (fit c.args.at.now.stepper.now c.law.ensures) c.read_epoch.ensures.step c.read_epoch.ensures.pool

pub returns-clause-point : goal.returns-clause-point
returns-clause-point g c =
    let told = epoch_told c.read_epoch.ensures.step in
    record {
      known = sym told;
      read = epoch_read c.read_epoch.ensures.step;
      fresh = fresh_read c.law.ensures.start c.read_epoch.ensures.step told;
    }
