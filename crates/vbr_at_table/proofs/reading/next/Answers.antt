use Rattle.std.proofs.Common.{ℕ, Option, sym, subst}
use Rattle.vbr_words.specs.Words.{link_of}
use Rattle.vbr_at_table.specs.reads.Held.{said}
use Rattle.vbr_at_table.specs.reads.Reading.{ReadsIn}
use Rattle.vbr_at_table.specs.costs.StepCosts.{next_steps}
use Rattle.vbr_at_table.proofs.steps.Accepted.{named_in, named_found}
use Rattle.vbr_at_table.proofs.reads.ReadCalls.{apart, node_in_three, node_rolls, node_told, reads_none, stayed}
use Rattle.vbr_at_table.proofs.steps.SaidWords.{said_names}
use Rattle.vbr_at_table.proofs.reading.next.Given.{Over}
use Rattle.vbr_at_table.proofs.reading.next.Goals.{After-read_node-birth}
use Rattle.vbr_at_table.proofs.reading.next.Goals as goal

pub returns-in_default-clause-reads : goal.returns-in_default-clause-reads
returns-in_default-clause-reads g c =
    let names = said_names _ _ c.args.held.now.word _ _ c.layout.ensures.layout c.decode.ensures.link c.in_default.is in
    let P : Option ℕ → Type 0 = λ slot. ReadsIn c.args.at.now.stepper.now c.args.at.now.stepper.now (next_steps slot) in
    subst P (sym names) (reads_none c.args.at.now.stepper.now)

pub read_node-birth-requires-clause-slot : goal.read_node-birth-requires-clause-slot
read_node-birth-requires-clause-slot g c =
    named_in c.args.at.now.stepper.now c.law.ensures (said c.args.at.now.slots.now c.args.held.now) c.in-Some.slot
    c.args.at.now.own c.requires.held
    (said_names _ _ c.args.held.now.word _ _ c.layout.ensures.layout c.decode.ensures.link c.in-Some.is)

pub read_node-birth-requires-clause-held : goal.read_node-birth-requires-clause-held
read_node-birth-requires-clause-held g c =
    named_found c.args.at.now.stepper.now c.law.ensures (said c.args.at.now.slots.now c.args.held.now) c.in-Some.slot
    c.requires.held
    (said_names _ _ c.args.held.now.word _ _ c.layout.ensures.layout c.decode.ensures.link c.in-Some.is)

-- three steps were made, where the link names a slot
in_three : (g : Over) (c : After-read_node-birth g) →
    ReadsIn c.args.at.now.stepper.now c.read_node-birth.new.self.stepper.now
    (next_steps (link_of (said c.args.at.now.slots.now c.args.held.now).word).slot)
in_three g c =
    let names = said_names _ _ c.args.held.now.word _ _ c.layout.ensures.layout c.decode.ensures.link c.in-Some.is in
    let P : Option ℕ → Type 0 =
    λ slot. ReadsIn c.args.at.now.stepper.now c.read_node-birth.new.self.stepper.now (next_steps slot) in
    subst P (sym names) (node_in_three c.law.ensures c.read_node-birth.ensures.reads)

pub returns-then-not-read-clause-reads : goal.returns-then-not-read-clause-reads
returns-then-not-read-clause-reads g c =
    in_three g (goal.at.returns-then-not-read-clause-reads g c).After-read_node-birth

pub returns-clause-reads : goal.returns-clause-reads
returns-clause-reads g c = in_three g (goal.at.returns-clause-reads g c).After-read_node-birth

pub returns-then-not-read-clause-moved : goal.returns-then-not-read-clause-moved
returns-then-not-read-clause-moved g c =
    node_rolls c.law.ensures c.read_node-birth.ensures.reads (apart c.read_node-birth.ensures.stays c.if-not-read.true)

pub returns-clause-next : goal.returns-clause-next
returns-clause-next g c = node_told (said c.args.at.now.slots.now c.args.held.now) c.law.ensures c.requires.held
    (said_names _ _ c.args.held.now.word _ _ c.layout.ensures.layout c.decode.ensures.link c.in-Some.is)
    c.read_node-birth.ensures.reads
    (stayed c.read_node-birth.ensures.stays c.if-not-read.false)
