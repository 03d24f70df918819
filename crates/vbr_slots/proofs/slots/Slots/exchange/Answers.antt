use Rattle.std.proofs.Common.{◌==◌, sym, ap, ◌∙◌, rules}
use prog.Atomic.{either}
use Rattle.vbr_machine.specs.Machine.{access_of, word_made}
use Rattle.vbr_slots.proofs.steps.Learning.{shows_itself, by_either}
use Rattle.vbr_slots.specs.views.Views.{knows}
use Rattle.vbr_slots.proofs.words.Packed.{tells_plain, writes_plain}
use Rattle.vbr_slots.proofs.steps.Steps.{asks_alone, steps_did, steps_sound}
use Rattle.vbr_slots.proofs.slots.Slots.exchange.Goals as goal

pub compare_exchange-found-requires : goal.compare_exchange-found-requires
compare_exchange-found-requires g c =
    asks_alone c.self.invariant c.self.view_is c.runner.invariant c.runner.view_is c.requires.own c.requires.named _
    c.args.place _ (λ n. either (n == c.args.expected) c.args.new n) (λ n. n) c.place_index_in-word.ensures.index
    c.requires.place
    (writes_plain c.self.inside.opening.shape c.args.place (access_of (knows c.args.runner.now) c.args.step) _
    c.requires.plain
    (λ n. by_either (n == c.args.expected) c.args.new n ∙ sym (ap (λ a. word_made a n) c.requires.access)))
    (tells_plain c.self.inside.opening.shape c.args.place c.args.step _ c.requires.plain (shows_itself c.args.step))
    c.requires.accepted

pub invariant_of-runner : goal.invariant_of-runner
invariant_of-runner g c = search (rules, steps_sound)

pub returns : goal.returns
returns g c = search (rules, steps_did)
