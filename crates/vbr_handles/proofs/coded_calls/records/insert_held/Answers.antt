use Rattle.vbr_handles.proofs.Names.{◌∙◌, rules, w32, to_z-of_z}
use Rattle.vbr_handles.proofs.HeldCalls.{does_with_room, tells_held_call}
use Rattle.vbr_handles.proofs.coded_calls.records.insert_held.Goals as goal

pub returns : goal.returns
returns c =
    let answer = c.insert_held-answer.result in
    let n = c.top_up_after.new.member in
    tells_held_call _ n answer c.is_empty.ensures.2 c.member_mut-member.ensures.value
    (does_with_room _ _ _ (λ m n added inserts. inserts.called.steps) c.make_room.new.member
    c.insert_held-answer.new.self n answer c.has_added_held.result c.make_room.ensures
    c.insert_held-answer.ensures.inserts c.has_added_held.ensures c.pass.ensures.pass c.steps-before.ensures
    c.top_up_after.ensures)
    (to_z-of_z w32 c.held_call_code.result (search rules) ∙ c.held_call_code.ensures)
