use Rattle.std.proofs.Common.{ℕ, sym, ◌∙◌, subst, Option, rules}
use Rattle.vbr_machine.specs.Membership.{BirthNamed}
use Rattle.vbr_slots.specs.views.Views.{knows}
use Rattle.vbr_at_table.specs.reads.Held.{said}
use Rattle.vbr_at_table.specs.reads.Reading.{ReadsIn}
use Rattle.vbr_at_table.specs.costs.StepCosts.{steps_to_birth}
use Rattle.vbr_at_table.proofs.steps.Accepted.{named_in, named_found}
use Rattle.vbr_at_table.proofs.reads.CheckedReads.{checked, checked_keeps}
use Rattle.vbr_at_table.proofs.reads.ReadCalls.{birth_in_two, load_rolls}
use Rattle.vbr_at_table.proofs.reads.ReadSteps.{loads_birth}
use Rattle.vbr_at_table.proofs.steps.SaidWords.{said_names}
use Rattle.vbr_at_table.proofs.reading.birth_after.Given.{Over}
use Rattle.vbr_at_table.proofs.reading.birth_after.Goals.{After-read_epoch-now}
use Rattle.vbr_at_table.proofs.reading.birth_after.Goals as goal

pub load_birth-birth-requires-clause-slot : goal.load_birth-birth-requires-clause-slot
load_birth-birth-requires-clause-slot g c =
    named_in c.args.at.now.stepper.now c.law.ensures (said c.args.at.now.slots.now c.args.held.now) c.in-Some.slot
    c.args.at.now.own c.requires.held
    (said_names _ _ c.args.held.now.word _ _ c.layout.ensures.layout c.decode.ensures.link c.in-Some.is)

pub load_birth-birth-requires-clause-held : goal.load_birth-birth-requires-clause-held
load_birth-birth-requires-clause-held g c =
    named_found c.args.at.now.stepper.now c.law.ensures (said c.args.at.now.slots.now c.args.held.now) c.in-Some.slot
    c.requires.held
    (said_names _ _ c.args.held.now.word _ _ c.layout.ensures.layout c.decode.ensures.link c.in-Some.is)

-- two steps were made, a load of the birth and a read of the epoch
in_two : (g : Over) (c : After-read_epoch-now g) →
    ReadsIn c.args.at.now.stepper.now c.read_epoch-now.new.self.stepper.now
    (steps_to_birth (said c.args.at.now.slots.now c.args.held.now).word)
in_two g c =
    birth_in_two c.args.at.now.stepper.now c.load_birth-birth.new.self.stepper.now c.read_epoch-now.new.self.stepper.now
    (said c.args.at.now.slots.now c.args.held.now).word
    (said_names _ _ c.args.held.now.word _ _ c.layout.ensures.layout c.decode.ensures.link c.in-Some.is) c.law.ensures
    c.load_birth-birth.ensures.step c.load_birth-birth.ensures.pool c.read_epoch-now.ensures.step
    c.read_epoch-now.ensures.pool

pub returns-then-now-held-clause-reads : goal.returns-then-now-held-clause-reads
returns-then-now-held-clause-reads g c = in_two g (goal.at.returns-then-now-held-clause-reads g c).After-read_epoch-now

pub returns-clause-reads : goal.returns-clause-reads
returns-clause-reads g c = in_two g (goal.at.returns-clause-reads g c).After-read_epoch-now

pub returns-clause-birth : goal.returns-clause-birth
returns-clause-birth g c =
    let P : Option ℕ → Type 0 =
    λ o. BirthNamed (knows c.read_epoch-now.new.self.stepper.now.trace) o c.load_birth-birth.result in
    record {
      keeps = checked_keeps (loads_birth _ _) c.load_birth-birth.ensures.step c.read_epoch-now.ensures.step
          (c.if-now-held.false ∙ c.requires.held.epoch);
      birth = subst P (sym (said_names _ _ c.args.held.now.word _ _ c.layout.ensures.layout c.decode.ensures.link
          c.in-Some.is))
          (checked (loads_birth _ _) c.load_birth-birth.ensures.step c.read_epoch-now.ensures.step
          (c.if-now-held.false ∙ c.requires.held.epoch));
    }

pub returns-then-now-held-clause-moved : goal.returns-then-now-held-clause-moved
returns-then-now-held-clause-moved g c = record {
  some = search rules;
  rolls = load_rolls c.law.ensures (loads_birth _ _)
      (record {
        between = c.load_birth-birth.new.self.stepper.now;
        loaded = c.load_birth-birth.ensures.step;
        pool_loaded = c.load_birth-birth.ensures.pool;
        read = c.read_epoch-now.ensures.step;
        pool_read = c.read_epoch-now.ensures.pool;
      })
      (λ e. c.if-now-held.true (e ∙ sym c.requires.held.epoch));
}
