-- Removed incarnations: which pass marked them, and that they are in no list any more.
use Rattle.std.specs.Prelude.{◌≡◌, ℕ, ◌<◌, List, ◌++◌, Some}
use Rattle.std.specs.List.{Contains}
use Rattle.vbr_machine.specs.Start.{Start}
use Rattle.vbr_machine.specs.Accounts.{incarnations_after, own_entries}
use Rattle.vbr_machine.specs.Agreement.{IsHeldIncarnation}
use Rattle.vbr_machine.specs.Chronicles.{Entry, Removes, Replaces}
use Rattle.vbr_machine.specs.Incarnations.{State, Marked, Unlinked, Stamped, Incarnations}
use Rattle.vbr_machine.specs.Sound.{IsRemoved}
use Rattle.vbr_machine.specs.declared.event.Event.{Event}

-- out of all lists, after it was in one: unlinked, and perhaps stamped since
abbrev pub HasLeft : State → Type 0
HasLeft (Unlinked pass unlinked) = Unit {0}
HasLeft (Stamped unlinked stamp) = Unit {0}
HasLeft _ = ⊥

-- since a beginning of a run a pass has marked this incarnation: that is among the events that it added to the chronicle
pub record HasMarked (start : Start) (before run : List Event) (pass node : ℕ) : Type 0 where
  pub since : List Entry
  pub adds : own_entries start run pass ≡ own_entries start before pass ++ since
  pub among : Contains since (record { pass = pass; what = Removes node })

-- since a beginning of a run a pass has marked an incarnation of this key, which has left all lists by the end of the run
pub record MarkedLeft (start : Start) (before run : List Event) (pass key : ℕ) : Type 0 where
  pub node : ℕ
  pub marked : HasMarked start before run pass node
  pub of_key : (incarnations_after start run).key node ≡ key
  pub left : HasLeft ((incarnations_after start run).state node)

-- no marked incarnation of this key is in a list unless it was replaced: then its successor has the key too
abbrev pub NoneMarked : Incarnations → ℕ → Type 0
NoneMarked a key = (node : ℕ) → a.state node ≡ Marked → a.key node ≡ key → (next : ℕ) × (a.next node ≡ Some next) × (a.key next ≡ key)

-- the incarnation that is held at a slot was removed, and not replaced: if it has a successor, that has a greater key
pub record IsTakenOut (a : Incarnations) (epoch s : ℕ) : Type 0 where
  pub node : ℕ
  pub held : IsHeldIncarnation a epoch s node
  pub removed : IsRemoved (a.state node)
  pub above : (n : ℕ) → a.next node ≡ Some n → a.key node < a.key n

-- ---- replaced incarnations

-- since a beginning of a run a pass has put another incarnation in the place of this one: that is among the events that it added to the chronicle
pub record HasReplaced (start : Start) (before run : List Event) (pass node : ℕ) : Type 0 where
  pub since : List Entry
  pub adds : own_entries start run pass ≡ own_entries start before pass ++ since
  pub by : ℕ
  pub among : Contains since (record { pass = pass; what = Replaces node by })

-- since a beginning of a run a pass has replaced the incarnation that is held at a slot, which is removed
pub record ReplacedAt (start : Start) (before run : List Event) (pass epoch s : ℕ) : Type 0 where
  pub node : ℕ
  pub replaced : HasReplaced start before run pass node
  pub held : IsHeldIncarnation (incarnations_after start run) epoch s node
  pub removed : IsRemoved ((incarnations_after start run).state node)

-- since a beginning of a run a pass has replaced an incarnation of this key, which has left all lists by the end of the run
pub record ReplacedLeft (start : Start) (before run : List Event) (pass key : ℕ) : Type 0 where
  pub node : ℕ
  pub replaced : HasReplaced start before run pass node
  pub of_key : (incarnations_after start run).key node ≡ key
  pub left : HasLeft ((incarnations_after start run).state node)
