use Rattle.vbr_handles.proofs.Names.{map_owner}
use Rattle.vbr_handles.proofs.AllHandles.{told_empty}
use Rattle.vbr_handles.proofs.handle_of.MapHandleHandleOfEntries.is_empty.Goals as goal

pub returns : goal.returns
returns c = told_empty (λ o. record c.args.self.now { owned = map_owner o }) c.owner_mut.ensures.value
    c.is_empty.ensures
