use Rattle.vbr_handles.proofs.Names.{◌≡◌, Some, ap, ◌∙◌, with_member, Member}
use Rattle.vbr_handles.proofs.AllHandles.{lent_back}
use Rattle.vbr_handles.proofs.coded_calls.batches.OwnerMemberWarms.warm.Goals as goal

pub returns-then-not-is_empty : goal.returns-then-not-is_empty
returns-then-not-is_empty g c =
    let same : c.is_empty.new.self ≡ c.args.self.now = c.is_empty.ensures.2 in
    let there : c.is_empty.new.self.member ≡ Some c.member_mut.result.now = c.member_mut.ensures.value in
    ap (λ (m : Member). with_member c.is_empty.new.self m) c.warm.ensures
    ∙ lent_back c.is_empty.new.self c.member_mut.result.now there ∙ same
