-- What a kind of nodes and the scripts that are played on it have in common. No contract cites this: each impl of `Playable` gives it of its kind.
use Rattle.std.proofs.Common.{◌≡◌, ℕ, List, refl}
use Rattle.vbr_machine.specs.Start.{Start}
use Rattle.vbr_machine.specs.declared.history.Call.{Call}
use Rattle.vbr_set.specs.reports.Kinds.{KindOf, as_map, as_set}
use Rattle.vbr_set.specs.declared.report.MapReport.{MapReport}
use Rattle.vbr_set.specs.declared.report.Report.{Report}
use Rattle.vbr_script.specs.declared.script.Kind.{Kind}
use Rattle.vbr_script.specs.declared.script.Kind.TheVariants.{Set, Map}
use Rattle.vbr_transcript.specs.Contents.{AreContents, IsLegalFrom, Item, contents_after, opened_with, opening_contents}

-- the same histories are legal, and leave what a report lists; the report's epoch is this; and a renewal opens with what it lists
pub record IsPlayedAs {I R : Type 0} (kind : KindOf I R) (script : Kind) (listed : R → List (Item script)) (epoch : R → ℕ) : Type 0 where
  pub legal : (start : Start) (calls : List Call) → kind.legal start calls → IsLegalFrom script (opening_contents script start) calls
  pub lists : (start : Start) (calls : List Call) (report : R) → kind.lists start calls (kind.contents report).listed.items → AreContents script (listed report) (contents_after script (opening_contents script start) calls)
  pub last : (report : R) → (kind.contents report).epoch ≡ epoch report
  pub opens : (start : Start) (report : R) → kind.with_items start (kind.contents report).listed.items ≡ opened_with script start (listed report)

-- a set
pub set_is_played : IsPlayedAs as_set Set (λ (report : Report). report.keys.items) (λ (report : Report). report.epoch)
set_is_played = record {
  legal = λ start calls legal. legal;
  lists = λ start calls report lists. lists;
  last = λ report. refl;
  opens = λ start report. refl;
}

-- a map
pub map_is_played : IsPlayedAs as_map Map (λ (report : MapReport). report.entries.items) (λ (report : MapReport). report.epoch)
map_is_played = record {
  legal = λ start calls legal. legal;
  lists = λ start calls report lists. (lists.ascending, lists.same);
  last = λ report. refl;
  opens = λ start report. refl;
}
