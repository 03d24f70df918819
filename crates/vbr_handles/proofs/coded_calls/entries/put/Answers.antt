use Rattle.vbr_handles.proofs.Names.{◌∙◌, rules, sym, w32, to_z-of_z, has_stored_new}
use Rattle.vbr_set.specs.calls.MapCalls.{PutsEntry}
use Rattle.vbr_handles.proofs.ToppingUp.{gives_call, topped_up}
use Rattle.vbr_handles.proofs.coded_calls.entries.put.Goals as goal

pub returns : goal.returns
returns c =
    let made = c.put-answer.ensures in
    gives_call _ _ _ _ c.is_empty.ensures.2 c.member_mut-member.ensures.value
    (sym c.holds_slot.ensures ∙ c.if-holds_slot.false)
    (to_z-of_z w32 c.give.result (search rules) ∙ c.give.ensures.code)
    (topped_up (λ budget m n answer. PutsEntry m n c.args.key c.args.value budget answer) has_stored_new c.args.steps
    c.put-answer.new.self c.top_up_after.new.member c.put-answer.result c.has_stored_new.result
    c.budget_of-budget.ensures made.told made.aside made.told.steps c.has_stored_new.ensures c.pass.ensures.pass
    c.steps-before.ensures c.top_up_after.ensures) c.give.ensures.writes
