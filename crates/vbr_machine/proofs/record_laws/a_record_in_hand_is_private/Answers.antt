use Rattle.vbr_machine.proofs.records.Acts.{own_record, own_record_since}
use Rattle.vbr_machine.proofs.record_laws.a_record_in_hand_is_private.Goals as goal

pub returns-clause-between : goal.returns-clause-between
returns-clause-between c = own_record

pub returns-clause-since : goal.returns-clause-since
returns-clause-since c = own_record_since
