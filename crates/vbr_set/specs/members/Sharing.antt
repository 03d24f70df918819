-- What a member has of its set: a share of it, or all of it.
use Rattle.std.specs.Prelude.{◌≡◌, ℕ, ◌<◌, List, [], None, All, length, slice_index_or}
use Rattle.std.specs.Arc.{arc_value}
use Rattle.atomic_table.specs.Seated.{TableId}
use Rattle.atomic_table.specs.Table.{Me}
use Rattle.std.specs.Prelude.{Option}
use Rattle.vbr_slots.specs.views.Views.{PassView, TableView, IsOf}
use Rattle.vbr_at_table.specs.hands.Aside.{HasAside}
use Rattle.vbr_set.specs.members.Balances.{balance_of}
use Rattle.vbr_set.specs.members.Mailboxes.{SeatKnows}
use Rattle.vbr_set.specs.calls.Members.{MemberView, as_member}
use Rattle.vbr_set.specs.declared.member.mailbox.Mailbox.{Mailbox}
use Rattle.vbr_set.specs.declared.member.share.Share.{Share}
use Rattle.vbr_set.specs.declared.member.share.Share.TheVariants.{Among, Alone, Gathered}
use Rattle.vbr_set.specs.declared.member.stake.Stake.{Stake}

-- the passes are of the set
abbrev pub ArePassesOf : TableView → List PassView → Type 0
ArePassesOf set passes = All (λ pass. IsOf pass.trace set) passes

-- the set was opened for several passes
abbrev pub HasOthers : TableView → Type 0
HasOthers set = 1 < set.passes

-- a set that was opened for one pass has no other passes
abbrev pub AreOthers : TableView → List PassView → Type 0
AreOthers set passes = set.passes ≡ 1 → passes ≡ []

module _ {N : Type 0} where
  -- the set
  abbrev pub set_shared : Share N → TableView
  set_shared (Among common seat) = (arc_value common).set
  set_shared (Alone set mailboxes) = set
  set_shared (Gathered set passes) = set

  -- a seat that has laid nothing, of the mailbox with a number
  pub record IsSeatOf (mailboxes : List (Mailbox N)) (who : ℕ) (table : TableId) (id : ℕ) (me : Me (Option PassView) SeatKnows) : Type 0 where
    pub there : who < length mailboxes
    pub fits : (d : Mailbox N) → table ≡ (slice_index_or mailboxes who d).table.shared.table_id
    pub first : id ≡ 0
    pub fresh : me ≡ (None, [])

  -- the mailboxes are for passes of the set
  abbrev pub AreMailboxesOf : TableView → List (Mailbox N) → Type 0
  AreMailboxesOf set mailboxes = All (λ mailbox. mailbox.table.shared.key ≡ set) mailboxes

  -- a pass with this number can come back to the others, or the others have come back; a pass that was opened alone has the set
  abbrev pub CanComeBack : Share N → ℕ → Type 0
  CanComeBack (Among common seat) who = IsSeatOf (arc_value common).mailboxes.items who seat.table_id seat.id seat.me × HasOthers (arc_value common).set
  CanComeBack (Alone set mailboxes) who = AreMailboxesOf set mailboxes.items × HasOthers set
  CanComeBack (Gathered set passes) who = ArePassesOf set passes.items × AreOthers set passes.items

  -- the pass is of the set that is shared, has no slot in hand, and can come back
  pub record IsPart (share : Share N) (pass : PassView) : Type 0 where
    pub own : IsOf pass.trace (set_shared share)
    pub empty_hand : pass.hand ≡ None
    pub comes_back : CanComeBack share pass.trace.who

  -- the same for what a member has beside the pass; its balance is the member's, and the slot that is put aside is the pass's
  pub record IsStake (stake : Stake N) (pass : PassView) : Type 0 where
    pub part : IsPart stake.share pass
    pub counted : stake.balance ≡ balance_of (as_member (set_shared stake.share) pass)
    pub put_aside : HasAside pass stake.aside

  -- the member that has it beside a pass
  abbrev pub member_with : Stake N → PassView → MemberView
  member_with stake pass = record { set = set_shared stake.share; pass = pass; aside = stake.aside }
