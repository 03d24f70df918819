use Rattle.vbr_set.proofs.progress.WonFlags.{inserts_pay}
use Rattle.vbr_set.proofs.progressing.inserts_pay_for_gains.Goals as goal

pub returns : goal.returns
returns c = inserts_pay
