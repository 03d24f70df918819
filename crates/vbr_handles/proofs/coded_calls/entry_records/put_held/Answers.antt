use Rattle.vbr_handles.proofs.Names.{◌∙◌, rules, w32, to_z-of_z}
use Rattle.vbr_handles.proofs.HeldCalls.{does_with_room, tells_put}
use Rattle.vbr_handles.proofs.coded_calls.entry_records.put_held.Goals as goal

pub returns : goal.returns
returns c =
    let answer = c.put_held-answer.result in
    let n = c.top_up_after.new.member in
    tells_put c.args.key c.args.value c.args.budget _ _ n answer c.is_empty.ensures.2
    c.member_mut-member.ensures.value
    (does_with_room _ _ _ (λ m n there puts. puts.called.steps) c.make_room.new.member c.put_held-answer.new.self n
    answer c.has_put_new.result c.make_room.ensures c.put_held-answer.ensures.puts c.has_put_new.ensures
    c.pass.ensures.pass c.steps-before.ensures c.top_up_after.ensures)
    (to_z-of_z w32 c.give_held.result (search rules) ∙ c.give_held.ensures.code) c.give_held.ensures.writes
