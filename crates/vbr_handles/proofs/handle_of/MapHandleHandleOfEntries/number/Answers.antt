use Rattle.vbr_handles.proofs.Names.{◌≡◌, number_shown, map_owner}
use Rattle.vbr_handles.proofs.AllHandles.{told}
use Rattle.vbr_handles.proofs.handle_of.MapHandleHandleOfEntries.number.Goals as goal

pub returns : goal.returns
returns c = told (λ o. record c.args.self.now { owned = map_owner o }) (λ o. c.number.result ≡ number_shown o.member)
    c.owner_mut.ensures.value c.number.ensures
