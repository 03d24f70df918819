-- What a close of a handle answers, and what it leaves.
use Rattle.std.specs.Prelude.{◌≡◌, ◌≢◌, ◌<◌, ◌≤◌, ℕ, List, length, Option, None, Some, Result, Ok, Err}
use Rattle.vbr_slots.specs.views.Views.{PassView, TableView}
use Rattle.vbr_set.specs.members.Ends.{EndsBy}
use Rattle.vbr_set.specs.calls.Members.{MemberView as Member}
use Rattle.vbr_handles.specs.Listings.{Listing}
use Rattle.vbr_handles.specs.declared.closing.CloseRefusal.{CloseRefusal}
use Rattle.vbr_handles.specs.declared.closing.CloseRefusal.TheVariants.{Empty, Lost, Memory, Room}

module _ {R I : Type 0} (tells : TableView → List PassView → R → Type 0) (L : Listing R I) where
  -- what a close leaves of a handle, by its answer
  -- An empty handle stays so, and that is returned. A full one becomes empty, unless there is no memory, or its report has more keys than there is room for; then it is as it was.
  -- A report describes the end of its set with all passes that were opened, its own among them.
  -- The handle of a set that was opened for one is the last, and no pass of it is lost.
  abbrev pub ClosesAs : Option Member → Option Member → ℕ → Result (Option R) (CloseRefusal R) → Type 0
  ClosesAs None after room answer = (after ≡ None) × (answer ≡ Err Empty)
  ClosesAs (Some m) after room (Ok None) = (after ≡ None) × (m.set.passes ≢ 1)
  ClosesAs (Some m) after room (Ok (Some report)) = (after ≡ None) × EndsBy tells m.set m.pass report × (length (L.items report) ≤ room)
  ClosesAs (Some m) after room (Err Empty) = ⊥
  ClosesAs (Some m) after room (Err Lost) = (after ≡ None) × (m.set.passes ≢ 1)
  ClosesAs (Some m) after room (Err Memory) = after ≡ Some m
  ClosesAs (Some m) after room (Err (Room report)) = (after ≡ Some m) × EndsBy tells m.set m.pass report × (room < length (L.items report))
