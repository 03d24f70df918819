use Rattle.vbr_handles.proofs.Names.{ap, sym, ◌∙◌, w64, arith, FitsSigned, ints, to_z-of_z, balance_shown}
use Rattle.vbr_handles.proofs.AllHandles.{lent_back}
use Rattle.vbr_handles.proofs.lent_member.«Owner+Member+N».balance.Goals as goal

pub returns : goal.returns
returns g c =
    let low = c.balance.type_inv in
    let fits : FitsSigned w64 c.balance.result = omega (arith, ints, low) in (
      to_z-of_z w64 c.balance.result fits ∙ c.balance.ensures ∙ sym (ap balance_shown c.member_mut.ensures.value),
      lent_back c.args.self.now c.member_mut.result.now c.member_mut.ensures.value,
    )
