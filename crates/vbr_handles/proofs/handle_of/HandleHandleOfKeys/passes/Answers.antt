use Rattle.vbr_handles.proofs.Names.{set_owner, IsPassCount}
use Rattle.vbr_handles.proofs.AllHandles.{told}
use Rattle.vbr_handles.proofs.handle_of.HandleHandleOfKeys.passes.Goals as goal

pub returns : goal.returns
returns c = told (λ o. record c.args.self.now { owned = set_owner o }) (λ o. IsPassCount o.member c.passes.result)
    c.owner_mut.ensures.value c.passes.ensures
