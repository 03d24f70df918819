use Rattle.vbr_machine.proofs.records.Acts.{confirmed_record}
use Rattle.vbr_machine.proofs.record_laws.a_confirmed_record_is_the_entrys.Goals as goal

pub returns : goal.returns
returns c = confirmed_record
