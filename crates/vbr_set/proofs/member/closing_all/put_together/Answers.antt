use Rattle.std.proofs.Common.{rules}
use Rattle.vbr_set.proofs.members.Apart.{none_made}
use Rattle.vbr_set.proofs.member.closing_all.put_together.Goals as goal

pub returns : goal.returns
returns g c = search (rules, none_made)
