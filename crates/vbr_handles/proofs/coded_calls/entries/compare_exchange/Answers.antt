use Rattle.vbr_handles.proofs.Names.{◌∙◌, rules, sym, w32, to_z-of_z, budget_of}
use Rattle.vbr_list.specs.updates.Outcomes.{there_in}
use Rattle.vbr_set.specs.calls.MapCalls.{ExchangesEntry}
use Rattle.vbr_handles.specs.Codes.{exchange_code}
use Rattle.vbr_handles.proofs.ToppingUp.{gives_call}
use Rattle.vbr_handles.proofs.coded_calls.entries.compare_exchange.Goals as goal

pub returns : goal.returns
returns c =
    let made = c.compare_exchange.ensures in
    gives_call
    (λ m n answer. ExchangesEntry m n c.args.key c.args.expected c.args.value (budget_of m c.args.steps) answer)
    (exchange_code c.args.expected) _ _ {answer = there_in c.compare_exchange.result} c.is_empty.ensures.2
    c.member_mut-member.ensures.value (sym c.holds_slot.ensures ∙ c.if-holds_slot.false)
    (to_z-of_z w32 c.give_outcome.result (search rules) ∙ c.give_outcome.ensures.code)
    (rw c.budget_of-budget.ensures at made.told, made.aside) c.give_outcome.ensures.writes
