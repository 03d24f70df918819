use Rattle.vbr_handles.proofs.Names.{rules}
use Rattle.vbr_handles.proofs.AllHandles.{lent_back}
use Rattle.vbr_handles.proofs.lent_member.«Owner+Member+N».is_beside.Goals as goal

pub returns : goal.returns
returns g c = search (rules, lent_back)
