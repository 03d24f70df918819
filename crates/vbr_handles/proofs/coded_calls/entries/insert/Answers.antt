use Rattle.vbr_handles.proofs.Names.{◌∙◌, rules, sym, w32, to_z-of_z, has_added}
use Rattle.vbr_set.specs.calls.MapCalls.{InsertsEntry}
use Rattle.vbr_handles.proofs.ToppingUp.{tells_call, topped_up}
use Rattle.vbr_handles.proofs.coded_calls.entries.insert.Goals as goal

pub returns : goal.returns
returns c =
    let made = c.insert-answer.ensures in
    tells_call _ c.is_empty.ensures.2 c.member_mut-member.ensures.value
    (sym c.holds_slot.ensures ∙ c.if-holds_slot.false)
    (to_z-of_z w32 c.call_code.result (search rules) ∙ c.call_code.ensures)
    (topped_up (λ budget m n answer. InsertsEntry m n c.args.key c.args.value budget answer) has_added c.args.steps c.insert-answer.new.self
    c.top_up_after.new.member c.insert-answer.result c.has_added.result c.budget_of-budget.ensures made.told made.aside
    made.told.steps c.has_added.ensures c.pass.ensures.pass c.steps-before.ensures c.top_up_after.ensures)
