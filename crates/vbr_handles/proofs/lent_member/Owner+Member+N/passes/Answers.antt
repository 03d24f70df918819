use Rattle.vbr_handles.proofs.Names.{◌≡◌, IfSome, sym, subst}
use Rattle.vbr_handles.proofs.AllHandles.{lent_back}
use Rattle.vbr_handles.proofs.lent_member.«Owner+Member+N».passes.Goals as goal

pub returns : goal.returns
returns g c = (
  subst (λ o. IfSome o (λ m. c.passes.result ≡ m.set.passes)) (sym c.member_mut.ensures.value) c.passes.ensures,
  lent_back c.args.self.now c.member_mut.result.now c.member_mut.ensures.value,
)
