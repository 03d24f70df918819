-- How a set or a map of a script is closed, and how another follows it. Only contracts of private functions cite this.
use Rattle.std.specs.Prelude.{◌≡◌, ℕ, List}
use Rattle.vbr_machine.specs.Runs.{IsRun, world_after}
use Rattle.vbr_machine.specs.Safety.{IsSafe}
use Rattle.vbr_machine.specs.declared.event.Event.{Event}
use Rattle.vbr_slots.specs.runs.Closing.{EachSeen}
use Rattle.vbr_slots.specs.views.Views.{PassView, TableView}
use Rattle.vbr_script.specs.declared.script.Kind.{Kind}
use Rattle.vbr_transcript.specs.Contents.{AreContents, IsLegalFrom, Item, contents_after, opened_with, opening_contents}

-- it is closed by a safe run that begins with what each pass has seen: the calls of the run are legal from what it opened with, and leave just what is listed, at this epoch
pub record ClosesListing (kind : Kind) (set : TableView) (passes : List PassView) (listed : List (Item kind)) (epoch : ℕ) : Type 0 where
  pub run : List Event
  pub is_run : IsRun set.start set.passes run
  pub begins : EachSeen run passes
  pub safe : IsSafe set.start run
  pub legal : IsLegalFrom kind (opening_contents kind set.start) (world_after set.start run).calls
  pub contents : AreContents kind listed (contents_after kind (opening_contents kind set.start) (world_after set.start run).calls)
  pub last : epoch ≡ (world_after set.start run).epoch

-- it is closed so, and another opens with what is listed, and so has what the calls left; its shape is else the same, and so is its number of passes
pub record RenewsAs (kind : Kind) (set : TableView) (passes : List PassView) (next : TableView) : Type 0 where
  pub listed : List (Item kind)
  pub epoch : ℕ
  pub closes : ClosesListing kind set passes listed epoch
  pub start : next.start ≡ opened_with kind set.start listed
  pub opens : opening_contents kind (opened_with kind set.start listed) ≡ contents_after kind (opening_contents kind set.start) (world_after set.start closes.run).calls
  pub count : next.passes ≡ set.passes
