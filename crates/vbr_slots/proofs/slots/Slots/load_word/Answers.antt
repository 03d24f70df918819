use Rattle.std.proofs.Common.{refl, sym, ap, ◌∙◌}
use Rattle.vbr_words.specs.Places.{index_of}
use Rattle.vbr_machine.specs.Machine.{access_of, place_of_step, word_made}
use Rattle.vbr_slots.proofs.steps.Learning.{shows_itself}
use Rattle.vbr_slots.specs.views.Views.{PassView, TableView, knows}
use Rattle.vbr_slots.proofs.words.Packed.{tells_plain, writes_plain}
use Rattle.vbr_slots.proofs.steps.Steppers.{load_well}
use Rattle.vbr_slots.proofs.steps.Steps.{asks_alone, steps_did, steps_sound}
use Rattle.vbr_slots.proofs.slots.Slots.load_word.Goals as goal

pub load-found-requires : goal.load-found-requires
load-found-requires g c =
    let is = c.runner.view_is ∙ ap (λ (v : PassView). v.trace) c.stepper.view_is in
    let place = place_of_step c.args.step in
    asks_alone c.self.invariant c.self.view_is c.runner.invariant is c.requires.own c.requires.named _
    place _ (λ n. n) (λ n. n)
    (c.requires.index ∙ sym (ap (λ (v : TableView). index_of v.start.shape place) c.self.view_is)) refl
    (writes_plain c.self.inside.opening.shape place (access_of (knows c.args.stepper.now.trace) c.args.step) _
    c.requires.plain (λ n. sym (ap (λ a. word_made a n) c.requires.access)))
    (tells_plain c.self.inside.opening.shape place c.args.step _ c.requires.plain (shows_itself c.args.step))
    c.requires.accepted

pub invariant_of-runner : goal.invariant_of-runner
invariant_of-runner g c =
    let is = c.runner.view_is ∙ ap (λ (v : PassView). v.trace) c.stepper.view_is in
    steps_sound c.runner.inside _ _ c.args.step _ _ _ c.load-found.new.seat c.keep_epoch.new.epoch c.runner.invariant is
    c.requires.own c.requires.named c.load-found.ensures.2 c.load-found.ensures.0 c.keep_epoch.ensures

pub returns-clause-step : goal.returns-clause-step
returns-clause-step g c =
    let is = c.runner.view_is ∙ ap (λ (v : PassView). v.trace) c.stepper.view_is in
    steps_did c.runner.inside _ _ c.args.step _ _ _ c.load-found.new.seat c.keep_epoch.new.epoch c.runner.invariant is
    c.requires.own c.requires.named c.load-found.ensures.2 c.load-found.ensures.0 c.keep_epoch.ensures

pub invariant_of-stepper : goal.invariant_of-stepper
invariant_of-stepper g c =
    let is = c.runner.view_is ∙ ap (λ (v : PassView). v.trace) c.stepper.view_is in
    load_well c.stepper.inside c.stepper.view_is c.requires.access
    (steps_did c.runner.inside _ _ c.args.step _ _ _ c.load-found.new.seat c.keep_epoch.new.epoch c.runner.invariant is
    c.requires.own c.requires.named c.load-found.ensures.2 c.load-found.ensures.0 c.keep_epoch.ensures)
    c.stepper.invariant
