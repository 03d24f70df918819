use Rattle.vbr_at_table.proofs.reads.ReadCalls.{apart, head_told, load_in_two, load_rolls, stayed}
use Rattle.vbr_at_table.proofs.reads.ReadSteps.{loads_link}
use Rattle.vbr_at_table.proofs.reading.first.Goals as goal

pub returns-clause-head : goal.returns-clause-head
returns-clause-head g c = head_told c.law.ensures c.read_link-word.ensures.reads
    (stayed c.read_link-word.ensures.stays c.if-not-read.false)

pub returns-then-not-read-clause-reads : goal.returns-then-not-read-clause-reads
returns-then-not-read-clause-reads g c = load_in_two c.law.ensures (loads_link _ _) c.read_link-word.ensures.reads

pub returns-clause-reads : goal.returns-clause-reads
returns-clause-reads g c = load_in_two c.law.ensures (loads_link _ _) c.read_link-word.ensures.reads

pub returns-then-not-read-clause-moved : goal.returns-then-not-read-clause-moved
returns-then-not-read-clause-moved g c =
    load_rolls c.law.ensures (loads_link _ _) c.read_link-word.ensures.reads
    (apart c.read_link-word.ensures.stays c.if-not-read.true)
