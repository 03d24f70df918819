-- The seats of the mailboxes of a set, while its members are made. Only contracts of private functions cite this.
use Rattle.std.specs.Prelude.{ℕ, suc, List, [], ◌∷◌, Option}
use Rattle.atomic_table.specs.declared.shared.Seat.{Seat}
use Rattle.vbr_slots.specs.views.Views.{PassView}
use Rattle.vbr_set.specs.members.Mailboxes.{SeatKnows}
use Rattle.vbr_set.specs.members.Sharing.{IsSeatOf}
use Rattle.vbr_set.specs.declared.member.mailbox.Mailbox.{Mailbox}

-- a seat of the table of mailboxes
abbrev pub MailboxSeat : Type 0
MailboxSeat = Seat (Option PassView) SeatKnows

-- these are the seats of the mailboxes from a number on
abbrev pub AreSeats : {N : Type 0} → List (Mailbox N) → ℕ → List MailboxSeat → Type 0
AreSeats mailboxes who [] = Unit {0}
AreSeats mailboxes who (seat ∷ seats) = IsSeatOf mailboxes who seat.table_id seat.id seat.me × AreSeats mailboxes (suc who) seats
