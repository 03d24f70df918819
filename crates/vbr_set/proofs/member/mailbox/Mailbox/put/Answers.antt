use Rattle.std.proofs.Common.{rules}
use Rattle.vbr_set.proofs.members.Mailboxes.{opens, lays}
use Rattle.vbr_set.proofs.member.mailbox.Mailbox.put.Goals as goal

pub store-requires : goal.store-requires
store-requires g c =
    (search rules, search rules, opens _ _ _ _ c.args.self.now.sized.1 c.requires.seat.1 c.requires.seat.2)

pub store-requires-2 : goal.store-requires-2
store-requires-2 g c = (
  search rules,
  search rules,
  lays _ _ _ _ c.args.pass c.args.self.now.sized.1 (search rules) (search rules) c.requires.ready,
)
