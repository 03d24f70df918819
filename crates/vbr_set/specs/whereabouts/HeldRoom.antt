-- Where the slots of a member are if it holds one.
use Rattle.std.specs.Prelude.{◌≡◌, ℕ, Option, None, Ok}
use Rattle.vbr_slots.specs.views.Views.{PassView}
use Rattle.vbr_at_table.specs.hands.KeptSlots.{KeepsSlots}
use Rattle.vbr_at_table.specs.declared.aside.Aside.{Aside}
use Rattle.vbr_set.specs.members.LettingGo.{LetsGo}
use Rattle.vbr_set.specs.calls.Members.{MemberView}
use Rattle.vbr_set.specs.calls.RecordCalls.{TakesAside}
use Rattle.vbr_set.specs.whereabouts.Room.{HasAllSlots, HasAllWith}

-- a member that had all its slots has them all with the one that it holds, through each call that loses none; and once it lets go of that one, it has them all in its pool
pub record HeldSlotsComeBack : Type 0 where
  pub held : (m n : MemberView) (budget slot : ℕ) → HasAllSlots m.pass → TakesAside m n budget (Ok slot) → HasAllWith n.aside n.pass
  pub kept : (aside : Option Aside) (p q : PassView) → HasAllWith aside p → KeepsSlots p q → HasAllWith aside q
  pub let_go : (aside : Option Aside) (p q : PassView) → p.hand ≡ None → HasAllWith aside p → LetsGo aside p q → HasAllSlots q
