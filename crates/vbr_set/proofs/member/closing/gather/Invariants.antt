use Rattle.std.proofs.Common.{◌+◌, ◌≤◌, length}
use Rattle.std.specs.Vec.{vec_capacity}
use Rattle.std.specs.Vec.Iter.{into_iter_items}
use Rattle.vbr_set.specs.members.Sharing.{ArePassesOf, AreMailboxesOf}
use Rattle.vbr_set.proofs.member.closing.gather.Given as goal

-- the passes so far are of the set, the mailboxes that are left are for passes of it, and there is room for these
abbrev pub invariant-loop-mailbox : goal.invariant-loop-mailbox
invariant-loop-mailbox g l = record {
  passes : ArePassesOf l.set l.passes.items;
  mailboxes : AreMailboxesOf l.set (into_iter_items l.mailbox-iterator);
  room : length l.passes.items + length (into_iter_items l.mailbox-iterator) ≤ vec_capacity l.passes;
}
