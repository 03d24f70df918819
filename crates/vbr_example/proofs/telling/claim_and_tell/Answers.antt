use Rattle.std.proofs.Common.{subst}
use Rattle.vbr_slots.specs.views.Views.{TableView}
use Rattle.vbr_example.specs.Telling.{IsTold}
use Rattle.vbr_example.proofs.Found.{tells}
use Rattle.vbr_example.proofs.telling.claim_and_tell.Goals as goal

pub returns-clause-told : goal.returns-clause-told
returns-clause-told c =
    subst (λ (set : TableView). IsTold set (record { page = c.args.page; token = c.seen-token.result }))
    c.insert.ensures.told.set
    (tells c.insert.new.self.set (record { page = c.args.page; token = c.seen-token.result }) c.in_ok-insert.field-0
    c.args.member.now.pass.trace c.insert.new.self.pass.trace c.in_ok-insert.ensures.told.answers
    c.seen-token.ensures.tells)
