-- What the workers bring to the end of a set.
use Rattle.std.specs.Prelude.{◌≡◌, ℕ, List, map}
use Rattle.vbr_slots.specs.views.Views.{PassView, TableView}
use Rattle.vbr_player.specs.Standing.{replies_of, Stand}
use Rattle.vbr_script.specs.declared.script.Kind.{Kind}
use Rattle.vbr_script.specs.declared.script.Line.{Line}
use Rattle.vbr_transcript.specs.declared.reply.Reply.{Reply}
use Rattle.vbr_player.specs.declared.worker.Worker.{Worker}

-- the passes of workers
abbrev pub passes_of : {N : Type 0} → List (Worker N) → List PassView
passes_of workers = map (λ worker. worker.caller.pass) workers

-- the passes and the replies are those of workers, one for each pass of a set, that have played lines, all of them in the phases from one on and up to another, which isn't among them
pub record PlayedWhole (kind : Kind) (N : Type 0) (set : TableView) (budget : ℕ) (script : List Line) (from phases : ℕ) (passes : List PassView) (replies : List (List Reply)) : Type 0 where
  pub workers : List (Worker N)
  pub stand : Stand kind set budget script script set.passes from phases workers
  pub passes_are : passes ≡ passes_of workers
  pub replies_are : replies ≡ replies_of workers
