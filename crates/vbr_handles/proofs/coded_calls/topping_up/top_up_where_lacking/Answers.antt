-- The tries are as many as lack and are left; the wanted slots are the reserve.
use Rattle.vbr_handles.proofs.Names.{◌≡◌, ◌∙◌, Bool, true, ap, arith, subst, sym, PassLaw, PassView, counted_steps}
use Rattle.vbr_handles.proofs.Names.{steps_of, TopsUpWhere, lacks_slots, left_of}
use Rattle.vbr_handles.proofs.ToppingUp.{topped}
use Rattle.vbr_handles.proofs.coded_calls.topping_up.top_up_where_lacking.Goals as goal

pub returns-then-lacks_slots : goal.returns-then-lacks_slots
returns-then-lacks_slots g c = λ p counted.
    let m = c.args.member.now in
    let n = c.top_up.new.self in
    let since = c.steps.ensures ∙ ap (λ (q : PassView). counted_steps (steps_of q.trace)) c.pass.ensures.pass in
    let left = c.left_of-left.ensures ∙ ap (left_of c.args.budget c.args.before) since in
    let law : PassLaw n.pass = subst PassLaw c.pass-then-lacks_slots.ensures.pass c.law.ensures in
    let lacking : lacks_slots m ≡ true = sym c.lacks_slots.ensures ∙ c.if-lacks_slots.true in
    subst (λ (b : Bool). TopsUpWhere b c.args.budget p m n) (sym lacking)
    (topped c.top_up.ensures.set c.top_up.ensures.aside law (omega arith) counted left c.reserve_of-wanted.ensures
    c.min.ensures c.top_up.ensures.tops_up.1)
