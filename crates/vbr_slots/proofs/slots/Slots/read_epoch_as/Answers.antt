use Rattle.std.proofs.Common.{refl, ap, ◌∙◌, rules}
use Rattle.vbr_machine.specs.declared.event.Step.TheVariants.{ReadEpoch}
use Rattle.vbr_words.specs.declared.place.Place.TheVariants.{Epoch}
use Rattle.vbr_slots.proofs.steps.Learning.{shows_itself, stays_beside}
use Rattle.vbr_slots.specs.views.Views.{Trace, knows}
use Rattle.vbr_machine.specs.Machine.{Load}
use Rattle.vbr_slots.proofs.words.Packed.{tells_plain, writes_plain}
use Rattle.vbr_slots.proofs.steps.Steps.{asks_alone, steps_did, steps_sound}
use Rattle.vbr_slots.proofs.slots.Slots.read_epoch_as.Goals as goal

pub load-epoch-requires : goal.load-epoch-requires
load-epoch-requires g c =
    asks_alone c.self.invariant c.self.view_is c.runner.invariant c.runner.view_is c.requires.own c.requires.named _
    Epoch _ (λ n. n) (λ n. n) c.place_index_in-word.ensures.index refl
    (writes_plain c.self.inside.opening.shape Epoch Load (λ n. n) tt (λ n. refl))
    (tells_plain c.self.inside.opening.shape Epoch ReadEpoch (λ n. n) tt (shows_itself ReadEpoch)) c.requires.accepted

pub invariant_of-runner : goal.invariant_of-runner
invariant_of-runner g c = search (rules, steps_sound)

pub returns-clause-step : goal.returns-clause-step
returns-clause-step g c = search (rules, steps_did)

pub returns-clause-stays : goal.returns-clause-stays
returns-clause-stays g c = stays_beside c.keep_epoch_found-stays.ensures.stays
    (c.runner.invariant.epoch ∙ ap (λ (v : Trace). (knows v).epoch) c.runner.view_is)
