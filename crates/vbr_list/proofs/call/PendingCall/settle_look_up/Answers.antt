use Rattle.vbr_list.proofs.Names.{sym, subst, Option, Entry, EntryAnswers, IsSightFor, knows, Sight, wide_held}
use Rattle.vbr_list.proofs.Names.{wide_sight}
use Rattle.vbr_list.proofs.named_entries.EntryAnswers.{entry_answers}
use Rattle.vbr_list.proofs.call.PendingCall.settle_look_up.Goals as goal

pub returns-in-Ok-clause-answers : goal.returns-in-Ok-clause-answers
returns-in-Ok-clause-answers g c =
    let P : Sight → Type 0 = λ s. IsSightFor c.args.self.now (wide_sight c.args.self.now s) in
    let sight = subst P c.in-Present.is c.requires.sight in
    let E : Option Entry → Type 0 = EntryAnswers c.args.gives c.args.self.now c.give_node.new.self in
    subst E (sym c.entry_of.ensures)
    (entry_answers (wide_held c.args.self.now c.in-Present.node) c.in-Ok.value c.args.gives
    (knows c.args.self.now.at.stepper.now.trace)
    c.args.self.now.key sight.2 c.in-Ok.ensures.answers)
