use Rattle.vbr_machine.proofs.records.Published as published
use Rattle.vbr_machine.proofs.record_laws.what_is_published_is_an_entry.Goals as goal

pub returns : goal.returns
returns c = record { published = published.published_entry; replacing = published.replacing_entry }
