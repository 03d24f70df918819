-- What is played on one set or map of a script, and how the next one follows. Only contracts of private functions cite this.
use Rattle.std.specs.Prelude.{ℕ, ◌≤◌, List}
use Rattle.vbr_slots.specs.views.Views.{PassView, TableView}
use Rattle.vbr_script.specs.Scripts.{ArePhased, AscendFrom}
use Rattle.vbr_script.specs.declared.script.Kind.{Kind}
use Rattle.vbr_script.specs.declared.script.Line.{Line}
use Rattle.vbr_transcript.specs.Merging.{IsMerged}
use Rattle.vbr_transcript.specs.declared.reply.Reply.{Reply}
use Rattle.vbr_player.specs.Ending.{PlayedWhole}

-- lines of so many workers, in phases from one on and up to another, which isn't among them, one after the other
pub record IsSpan (kind : Kind) (workers from to : ℕ) (lines : List Line) : Type 0 where
  pub order : from ≤ to
  pub phased : ArePhased kind workers to lines
  pub ascend : AscendFrom from lines

-- the passes of a set or a map have played lines, in the phases from one on and up to another, with these replies in script order
pub record PlayedSpan (kind : Kind) (N : Type 0) (set : TableView) (budget : ℕ) (lines : List Line) (from phases : ℕ) (passes : List PassView) (replies : List Reply) : Type 0 where
  pub own : List (List Reply)
  pub whole : PlayedWhole kind N set budget lines from phases passes own
  pub merged : IsMerged lines own replies
