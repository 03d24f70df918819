use Rattle.std.proofs.Common.{rules}
use Rattle.vbr_set.proofs.members.Seats.{one_more, mailbox_of_set}
use Rattle.vbr_set.proofs.member.opening.make_mailboxes.Goals as goal

pub loop-preserved : goal.loop-preserved
loop-preserved g c =
    let i = c.loop.invariant in
    let made = c.in_ok-mailbox.ensures.seat in
    record {
      mailboxes = mailbox_of_set c.args.set.now c.loop.mailboxes.items c.push.new.self.items c.in_ok-mailbox.mailbox
          (search rules) i.mailboxes c.in_ok-mailbox.ensures.set;
      seats = one_more c.loop.mailboxes.items c.push.new.self.items c.in_ok-mailbox.mailbox c.loop.seats.items
          c.push-in-loop.new.self.items c.in_ok-mailbox.seat (search rules) (search rules) i.same made.0 made.1 made.2
          i.seats;
      same = search rules;
      count = search rules;
    }
