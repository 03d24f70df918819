-- The rule of a mailbox, which has one word and one slot, for a pass of a set that comes back.
use Rattle.std.specs.Prelude.{◌≡◌, ◌∷◌, [], Option, None, Some, slice_index, length}
use mathlib.Core.Option.{some}
use lib.ListN.{get_elem?}
use Rattle.atomic_table.specs.Table.{State}
use Rattle.vbr_slots.specs.views.Views.{PassView, TableView, IsOf}

-- a pass of the set that has no slot in hand
pub record IsIdle (set : TableView) (pass : PassView) : Type 0 where
  pub own : IsOf pass.trace set
  pub empty_hand : pass.hand ≡ None

-- what a seat of a mailbox knows: nothing; that the slot is out with it; or the pass that lies in the slot
abbrev pub SeatKnows : Type 0
SeatKnows = Option (Option PassView)

-- the mailbox is as its seat knows it
abbrev pub IsAs : TableView → State (Option PassView) SeatKnows → SeatKnows → Type 0
IsAs set s None = (slice_index s.words 0 ≡ 0) × (get_elem? s.homes 0 ≡ some (some None))
IsAs set s (Some None) = slice_index s.words 0 ≡ 0
IsAs set s (Some (Some pass)) = (get_elem? s.homes 0 ≡ some (some (Some pass))) × IsIdle set pass

-- a mailbox has one word and one seat, and is as the seat knows it
pub record IsMailbox (set : TableView) (s : State (Option PassView) SeatKnows) : Type 0 where
  pub one : length s.words ≡ 1
  pub knows : SeatKnows
  pub seat : s.views ≡ knows ∷ []
  pub is : IsAs set s knows
