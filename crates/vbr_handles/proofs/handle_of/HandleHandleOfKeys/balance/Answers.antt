use Rattle.vbr_handles.proofs.Names.{◌≡◌, ◌∙◌, w64, arith, FitsSigned, ints, to_z-of_z, set_owner, balance_shown}
use Rattle.vbr_handles.proofs.AllHandles.{told}
use Rattle.vbr_handles.proofs.handle_of.HandleHandleOfKeys.balance.Goals as goal

pub returns : goal.returns
returns c =
    let low = c.balance.type_inv in
    let fits : FitsSigned w64 c.balance.result = omega (arith, ints, low) in
    let all = told (λ o. record c.args.self.now { owned = set_owner o }) (λ o. c.balance.result ≡ balance_shown o.member)
    c.owner_mut.ensures.value c.balance.ensures in
    (to_z-of_z w64 c.balance.result fits ∙ all.0, all.1)
