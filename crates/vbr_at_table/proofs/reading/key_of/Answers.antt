use Rattle.vbr_at_table.specs.reads.Held.{said}
use Rattle.vbr_at_table.proofs.steps.Accepted.{node_in, node_found}
use Rattle.vbr_at_table.proofs.reads.ReadCalls.{apart, key_told, load_in_two, load_rolls, stayed}
use Rattle.vbr_at_table.proofs.reads.ReadSteps.{loads_key}
use Rattle.vbr_at_table.proofs.reading.key_of.Goals as goal

pub read_key-key-requires-clause-slot : goal.read_key-key-requires-clause-slot
read_key-key-requires-clause-slot g c =
    node_in c.args.at.now.stepper.now c.law.ensures (said c.args.at.now.slots.now c.args.node.now) c.in-Slot.slot
    c.args.at.now.own c.requires.held
    c.in-Slot.is

pub read_key-key-requires-clause-held : goal.read_key-key-requires-clause-held
read_key-key-requires-clause-held g c =
    node_found c.args.at.now.stepper.now c.law.ensures (said c.args.at.now.slots.now c.args.node.now) c.in-Slot.slot
    c.requires.held c.in-Slot.is

pub returns-then-not-read-clause-reads : goal.returns-then-not-read-clause-reads
returns-then-not-read-clause-reads g c = load_in_two c.law.ensures (loads_key _ _) c.read_key-key.ensures.reads

pub returns-clause-reads : goal.returns-clause-reads
returns-clause-reads g c = load_in_two c.law.ensures (loads_key _ _) c.read_key-key.ensures.reads

pub returns-then-not-read-clause-moved : goal.returns-then-not-read-clause-moved
returns-then-not-read-clause-moved g c =
    load_rolls c.law.ensures (loads_key _ _) c.read_key-key.ensures.reads
    (apart c.read_key-key.ensures.stays c.if-not-read.true)

pub returns-clause-key : goal.returns-clause-key
returns-clause-key g c = key_told c.args.node.now.at c.law.ensures c.in-Slot.is c.read_key-key.ensures.reads
    (stayed c.read_key-key.ensures.stays c.if-not-read.false)
