use Rattle.std.proofs.Common.{ℕ, sym, ap, ◌∙◌}
use Rattle.vbr_words.specs.Packing.{slot_bits, unpacked}
use Rattle.vbr_words.specs.Places as places
use Rattle.vbr_machine.specs.Machine.{word_made}
use Rattle.vbr_slots.specs.views.Views.{PassView, TableView}
use Rattle.vbr_slots.specs.words.Words.{kept_at}
use Rattle.vbr_slots.proofs.words.Packed.{tells_link}
use Rattle.vbr_slots.proofs.steps.Steppers.{load_well}
use Rattle.vbr_slots.proofs.steps.Steps.{asks_alone, link_epoch, named_bits, shown_link, steps_did, steps_sound}
use Rattle.vbr_slots.proofs.slots.Slots.load_link_at.Goals as goal

pub load-requires : goal.load-requires
load-requires g c =
    let is = c.runner.view_is ∙ ap (λ (v : PassView). v.trace) c.stepper.view_is in
    let shape = c.self.inside.opening.shape in
    let keeps : ℕ → ℕ = kept_at shape (places.place_of c.args.holder) in
    asks_alone c.self.invariant c.self.view_is c.runner.invariant is c.requires.own c.requires.named _
    (places.place_of c.args.holder) _ (λ n. n) (unpacked (slot_bits g.E.Naming.opening.start.shape.slots))
    (c.requires.index ∙ sym (ap (λ (v : TableView). places.index_of v.start.shape (places.place_of c.args.holder))
    c.self.view_is)) c.requires.place
    (λ n room. ap keeps (sym (ap (λ a. word_made a n) c.requires.access)))
    (tells_link shape c.args.holder c.args.step _ (named_bits c.self.inside c.self.view_is c.requires.named))
    c.requires.accepted

pub invariant_of-runner : goal.invariant_of-runner
invariant_of-runner g c =
    let is = c.runner.view_is ∙ ap (λ (v : PassView). v.trace) c.stepper.view_is in
    steps_sound c.runner.inside _ _ c.args.step _ _ _ c.load.new.seat c.runner.inside.epoch c.runner.invariant is
    c.requires.own c.requires.named c.load.ensures.2 c.load.ensures.0
    (link_epoch c.args.holder c.args.step _ _ c.requires.place)

pub returns-clause-step : goal.returns-clause-step
returns-clause-step g c =
    let is = c.runner.view_is ∙ ap (λ (v : PassView). v.trace) c.stepper.view_is in
    shown_link _ c.requires.named
    (steps_did c.runner.inside _ _ c.args.step _ _ _ c.load.new.seat c.runner.inside.epoch c.runner.invariant is
    c.requires.own c.requires.named c.load.ensures.2 c.load.ensures.0
    (link_epoch c.args.holder c.args.step _ _ c.requires.place))

pub invariant_of-stepper : goal.invariant_of-stepper
invariant_of-stepper g c =
    let is = c.runner.view_is ∙ ap (λ (v : PassView). v.trace) c.stepper.view_is in
    load_well c.stepper.inside c.stepper.view_is c.requires.access
    (steps_did c.runner.inside _ _ c.args.step _ _ _ c.load.new.seat c.runner.inside.epoch c.runner.invariant is
    c.requires.own c.requires.named c.load.ensures.2 c.load.ensures.0
    (link_epoch c.args.holder c.args.step _ _ c.requires.place)) c.stepper.invariant
