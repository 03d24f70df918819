use Rattle.std.proofs.Common.{◌≡◌, length}
use Rattle.std.specs.Prelude.{All}
use Rattle.vbr_set.specs.members.Seats.{AreSeats}
use Rattle.vbr_set.proofs.member.opening.make_mailboxes.Given as goal

-- the mailboxes so far are for passes of the set, and the seats are theirs
abbrev pub invariant-loop : goal.invariant-loop
invariant-loop g l = record {
  mailboxes : All (λ mailbox. mailbox.table.shared.key ≡ l.fn.set) l.mailboxes.items;
  seats : AreSeats l.mailboxes.items 0 l.seats.items;
  same : length l.mailboxes.items ≡ length l.seats.items;
  count : length l.seats.items ≡ l.counter;
}
