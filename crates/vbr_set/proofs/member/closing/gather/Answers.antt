use Rattle.std.proofs.Common.{rules}
use Rattle.std.specs.Vec.{vec_capacity}
use Rattle.std.specs.Vec.Iter.{into_iter_items}
use Rattle.vbr_set.proofs.members.Ends.{one_more, mailbox_first, mailbox_rest, room_left}
use Rattle.vbr_set.proofs.member.closing.gather.Goals as goal

pub loop-mailbox-preserved : goal.loop-mailbox-preserved
loop-mailbox-preserved g c =
    let i = c.loop-mailbox.invariant in
    let set = c.args.set.now in
    let all = into_iter_items c.loop-mailbox.mailbox-iterator in
    let rest = into_iter_items c.next.new.self in
    let mailbox = c.in-Some.mailbox in
    let pass = c.in_ok-pass.pass in
    let more = c.in-Ok.ensures in
    record {
      passes = one_more set mailbox.table.shared.key c.loop-mailbox.passes.items c.push.new.self.items pass
          (search rules) i.passes (mailbox_first set all rest mailbox (search rules) i.mailboxes) (search rules);
      mailboxes = mailbox_rest set all rest mailbox (search rules) i.mailboxes;
      room = room_left c.loop-mailbox.passes.items c.push.new.self.items pass all rest mailbox
          (vec_capacity c.loop-mailbox.passes) (vec_capacity c.push.new.self) (search rules) (search rules)
          (search rules) i.room;
    }
