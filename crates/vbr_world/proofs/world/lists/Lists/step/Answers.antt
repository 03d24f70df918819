-- The pass learns, and a step that succeeds writes: that is the step of the machine.
use Rattle.std.proofs.Common.{ℕ, rules, ap, sym, ◌∙◌}
use Rattle.vbr_words.specs.Words.{link_of}
use Rattle.vbr_words.specs.declared.place.Place.{Place}
use Rattle.vbr_machine.specs.Learning.{succeeds}
use Rattle.vbr_machine.specs.Machine.{place_of_step, word_at}
use Rattle.vbr_machine.specs.declared.event.Step.{Step}
use Rattle.vbr_world.specs.KeptLearning.{FitsAt, FitsFound}
use Rattle.vbr_world.specs.WorldInLists.{world_of}
use Rattle.vbr_world.proofs.MadeSteps.{step_made, step_lost}
use Rattle.vbr_world.proofs.world.lists.Lists.step.Goals as goal
use Rattle.vbr_world.proofs.world.lists.Lists.step.Goals.{then-succeeds, else-succeeds}

-- what a step finds has room as what is at its place
found_by : (step : Step) (found : ℕ) → FitsAt (place_of_step step) found → FitsFound step found
found_by step found room = record {
  low = room.low;
  key = λ s e. room.key s (ap place_of_step e);
  value = λ s e. room.value s (ap place_of_step e);
}

pub write-requires-clause-room : goal.write-requires-clause-room
write-requires-clause-room c =
    let found = c.word-found.ensures.word
    ∙ ap (λ (place : Place). word_at c.args.self.now.start (world_of c.args.self.now) place) c.place_of_step.ensures in
    rw (c.in-Ok.ensures.stays.start, c.in-Ok.ensures.epoch)
    (c.link_written-link.ensures.room
    (ap (λ word. succeeds c.args.event.now.step word) (sym found) ∙ sym c.if-succeeds.ensures))

pub learn-requires-clause-room : goal.learn-requires-clause-room
learn-requires-clause-room c = found_by c.args.event.now.step c.word-found.result
    (rw c.place_of_step.ensures at c.word-found.ensures.room)

pub returns-clause-made : goal.returns-clause-made
returns-clause-made c =
    let old = c.args.self.now in
    let found = c.word-found.ensures.word
    ∙ ap (λ (place : Place). word_at old.start (world_of old) place) c.place_of_step.ensures in
    record {
      accepted = search rules;
      effect = search rules;
      after = elim c.if-succeeds.branch [
        | then-succeeds w ↦
            rw w.self-is
            (step_made old.start (world_of old) c.args.event.now.pass c.args.event.now.step c.word-found.result
            (world_of c.learn.new.self) found c.in-Ok.ensures.learned c.learn.new.self.start (world_of w.write.new.self)
            (link_of c.link_written-link.result) c.key_written-key.result c.in-Ok.ensures.stays.start
            (sym w.if-succeeds.ensures) c.link_written-link.ensures.link c.key_written-key.ensures
            w.write.ensures.written)
        | else-succeeds w ↦
            rw w.self-is
            (step_lost old.start (world_of old) c.args.event.now.pass c.args.event.now.step c.word-found.result
            (world_of c.learn.new.self) found c.in-Ok.ensures.learned (sym w.if-succeeds.ensures))
      ];
    }
