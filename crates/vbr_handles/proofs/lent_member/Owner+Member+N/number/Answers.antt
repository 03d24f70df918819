use Rattle.vbr_handles.proofs.Names.{ap, sym, ◌∙◌, PassView, number_shown}
use Rattle.vbr_handles.proofs.AllHandles.{lent_back}
use Rattle.vbr_handles.proofs.lent_member.«Owner+Member+N».number.Goals as goal

pub returns : goal.returns
returns g c = (
  c.who.ensures.who ∙ ap (λ (pass : PassView). pass.trace.who) c.pass.ensures.pass
      ∙ sym (ap number_shown c.member_mut.ensures.value),
  lent_back c.args.self.now c.member_mut.result.now c.member_mut.ensures.value,
)
