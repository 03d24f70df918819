use Rattle.vbr_handles.proofs.Names.{ap, ◌∙◌, map_owner}
use Rattle.vbr_handles.proofs.handle_of.MapHandleHandleOfEntries.is_beside.Goals as goal

pub returns : goal.returns
returns c = (
  ap (λ o. record c.args.self.now { owned = map_owner o })
      (c.is_beside.ensures.0 ∙ c.owner_mut-one.ensures.value),
  ap (λ o. record c.args.other.now { owned = map_owner o })
      (c.is_beside.ensures.1 ∙ c.owner_mut.ensures.value),
)
