-- The slots of the entries that a report lists: in the slot of each stands its linked node.
use Rattle.std.specs.Prelude.{◌≡◌, ℕ, true, List, All, map}
use Rattle.std.specs.List.{AllZip}
use Rattle.vbr_machine.specs.Start.{Start}
use Rattle.vbr_machine.specs.Accounts.{incarnations_after}
use Rattle.vbr_machine.specs.History.{set_after}
use Rattle.vbr_machine.specs.Keys.{AreKeysOf}
use Rattle.vbr_machine.specs.Incarnations.{Incarnations}
use Rattle.vbr_machine.specs.Nodes.{is_linked, key_in_slot, state_in}
use Rattle.vbr_machine.specs.Opened.{opening_keys}
use Rattle.vbr_machine.specs.Records.{IsEntry}
use Rattle.vbr_machine.specs.declared.event.Event.{Event}
use Rattle.vbr_slots.specs.views.Views.{PassView, TableView}
use Rattle.vbr_set.specs.reports.Closing.{ClosesBy}
use Rattle.vbr_set.specs.reports.Contents.{TellsEnd}
use Rattle.vbr_set.specs.histories.Histories.{calls_of}
use Rattle.vbr_set.specs.reports.Kinds.{KindOf}
use Rattle.vbr_set.specs.declared.contents.Contents.{Contents}
use Rattle.vbr_set.specs.declared.report_with_slots.ReportWithSlots.{ReportWithSlots}

-- a slot has the entry of a key after a run: its last incarnation is linked, and has this key
pub record HasEntry (start : Start) (run : List Event) (s key : ℕ) : Type 0 where
  pub birth : ℕ
  pub node : ℕ
  pub is : IsEntry start run s birth key node

-- the slots have the entries of the keys, one each, in the same order
abbrev pub HaveEntries : Start → List Event → List ℕ → List ℕ → Type 0
HaveEntries start run = AllZip (HasEntry start run)

-- the report describes the end of a run, as one without slots does, and the slots have the entries that it lists, after that run
pub record ClosesWithSlots {Item R : Type 0} (kind : KindOf Item R) (t : TableView) (passes : List PassView) (told : ReportWithSlots R) : Type 0 where
  pub closes : ClosesBy kind t passes told.report
  pub slots : HaveEntries t.start closes.run told.slots.items (kind.keys (kind.contents told.report).listed.items)

-- ---- by the words of a closed table; only contracts of private functions cite this

-- the key of the last incarnation of a slot, with the slot
abbrev pub key_with_slot : Incarnations → ℕ → ℕ × ℕ
key_with_slot a s = (key_in_slot a s, s)

-- the slots of keys that stand beside them
abbrev pub slots_listed : List (ℕ × ℕ) → List ℕ
slots_listed keyed = map (λ node. node.1) keyed

-- the slots of the linked nodes after a run, in the order of their keys
pub record ListsSlots (start : Start) (run : List Event) (slots : List ℕ) : Type 0 where
  pub linked : All (λ s. is_linked (state_in (incarnations_after start run) s) ≡ true) slots
  pub keys : AreKeysOf (map (key_in_slot (incarnations_after start run)) slots) (set_after (opening_keys start) (calls_of start run))

-- this is reported of the run that a table ends with, and these are the slots of its linked nodes
pub record TellsEndWithSlots {T : Type 0} (shown : Incarnations → ℕ → T) (t : TableView) (passes : List PassView) (told : Contents T) (slots : List ℕ) : Type 0 where
  pub end : TellsEnd shown t passes told
  pub lists : ListsSlots t.start end.ends.run slots
