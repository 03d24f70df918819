use Rattle.vbr_handles.proofs.Names.{◌∙◌, rules, w32, refl, subst, to_z-of_z}
use Rattle.vbr_list.specs.declared.entries.Entry.{Entry}
use Rattle.vbr_set.specs.calls.HeldStores.{ReplacesHeldBy}
use Rattle.vbr_handles.proofs.HeldCalls.{does_with_room, tells_held_call}
use Rattle.vbr_handles.proofs.coded_calls.entry_records.replace_held.Goals as goal

pub returns : goal.returns
returns c =
    let first = c.make_room.new.member in
    let n = c.replace_held.new.self in
    let answer = c.replace_held.result in
    let came = subst (λ (e : Entry). ReplacesHeldBy first n c.args.key c.args.value c.args.budget e answer)
    c.entry.ensures c.replace_held.ensures.replaces in
    tells_held_call _ n answer c.is_empty.ensures.2 c.member_mut-member.ensures.value
    (does_with_room _ _ _ (λ m n done replaces. replaces.called.steps) first n n answer _ c.make_room.ensures came refl
    refl refl (λ p counted. refl))
    (to_z-of_z w32 c.held_call_code.result (search rules) ∙ c.held_call_code.ensures)
