-- How a set or a map is renewed by all its members, with the slots that its entries had.
use Rattle.std.specs.Prelude.{◌≡◌, ◌<◌, ℕ, List, [], length, slice_index_or}
use Rattle.vbr_words.specs.Dimensions.{Dimensions}
use Rattle.vbr_set.specs.members.AllMembers.{ReportsAllBy}
use Rattle.vbr_set.specs.reports.EntrySlots.{ClosesWithSlots, HasEntry}
use Rattle.vbr_set.specs.reports.Kinds.{KindOf, as_map, as_set}
use Rattle.vbr_set.specs.calls.Members.{AreNew, MemberView}
use Rattle.vbr_set.specs.declared.report_with_slots.ReportWithSlots.{ReportWithSlots}

module _ {Item R : Type 0} (kind : KindOf Item R) where
  -- a fresh set of this shape opens with what a report of all members lists, and these are its members, as many as there were; the slots are the slots of the report
  pub record RenewsAllWithSlots (members : List MemberView) (shape : Dimensions) (fresh : List MemberView) (slots : List ℕ) : Type 0 where
    pub told : ReportWithSlots R
    pub reports : ReportsAllBy (ClosesWithSlots kind) members told
    pub same : slots ≡ told.slots.items
    pub new : AreNew (kind.start shape (kind.contents told.report).listed.items) (length members) fresh

  -- each entry goes from the slot given at its number into the slot with that number: the key that the one had when the old set was reported, the other has when the fresh one opens
  abbrev pub CarriesOver : Type 0
  CarriesOver =
      (members fresh : List MemberView) (shape : Dimensions) (slots : List ℕ) (r : RenewsAllWithSlots members shape fresh slots) (i : ℕ) → i < length slots
      → (key : ℕ) × HasEntry r.reports.set.start r.reports.closes.closes.run (slice_index_or slots i 0) key × HasEntry r.new.set.start [] i key

-- the same for sets and for maps
pub record SlotsCarryOver : Type 0 where
  pub of_sets : CarriesOver as_set
  pub of_maps : CarriesOver as_map
