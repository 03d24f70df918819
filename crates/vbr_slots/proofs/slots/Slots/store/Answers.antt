use Rattle.std.proofs.Common.{sym, ap, rules}
use Rattle.vbr_machine.specs.Machine.{access_of, word_made}
use Rattle.vbr_slots.proofs.steps.Learning.{blind}
use Rattle.vbr_slots.specs.views.Views.{knows}
use Rattle.vbr_slots.proofs.words.Packed.{tells_plain, writes_plain}
use Rattle.vbr_slots.proofs.steps.Steps.{asks_alone, steps_did, steps_sound}
use Rattle.vbr_slots.proofs.slots.Slots.store.Goals as goal

pub store-requires : goal.store-requires
store-requires g c =
    asks_alone c.self.invariant c.self.view_is c.runner.invariant c.runner.view_is c.requires.own c.requires.named _
    c.args.place _ (λ _. c.args.new) (λ _. c.args.new) c.place_index_in-word.ensures.index c.requires.place
    (writes_plain c.self.inside.opening.shape c.args.place (access_of (knows c.args.runner.now) c.args.step) _
    c.requires.plain (λ n. sym (ap (λ a. word_made a n) c.requires.access)))
    (tells_plain c.self.inside.opening.shape c.args.place c.args.step _ c.requires.plain
    (λ n. blind (knows c.args.runner.now) c.args.step c.args.new c.requires.access c.args.new n)) c.requires.accepted

pub invariant_of-runner : goal.invariant_of-runner
invariant_of-runner g c = search (rules, steps_sound)

pub returns : goal.returns
returns g c = search (rules, steps_did)
