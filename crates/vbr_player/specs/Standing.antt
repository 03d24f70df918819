-- Where the workers of a script stand between its phases.
use Rattle.std.specs.Prelude.{◌≡◌, ℕ, suc, ◌+◌, ◌-◌, ◌*◌, ◌<◌, ◌≤◌, List, [], ◌∷◌, length, map, zip, All}
use Rattle.std.specs.Vec.{vec_capacity}
use Rattle.vbr_machine.specs.Runs.{Begins}
use Rattle.vbr_machine.specs.declared.event.Event.{Event}
use Rattle.vbr_slots.specs.steps.Calls.{made_by}
use Rattle.vbr_slots.specs.views.Views.{PassView, TableView, IsOf, new_pass, steps_of}
use Rattle.vbr_set.specs.calls.Members.{as_member}
use Rattle.vbr_transcript.specs.Calls.{answered_calls, lines_by, lines_up_to}
use Rattle.vbr_transcript.specs.Merging.{replies_by}
use Rattle.vbr_transcript.specs.Phases.{HaveCalled}
use Rattle.vbr_player.specs.Calling.{CallsInTurn}
use Rattle.vbr_player.specs.Working.{TellsReply}
use Rattle.vbr_script.specs.declared.script.Kind.{Kind}
use Rattle.vbr_script.specs.declared.script.Line.{Line}
use Rattle.vbr_transcript.specs.declared.reply.Reply.{Reply}
use Rattle.vbr_player.specs.declared.worker.Worker.{Worker}

-- the replies of each of the workers
abbrev pub replies_of : {N : Type 0} → List (Worker N) → List (List Reply)
replies_of workers = map (λ worker. worker.replies.items) workers

-- the workers have the numbers from one on, in order
abbrev pub AreNumberedFrom : {N : Type 0} → ℕ → List (Worker N) → Type 0
AreNumberedFrom who [] = Unit {0}
AreNumberedFrom who (worker ∷ workers) = (worker.caller.pass.trace.who ≡ who) × AreNumberedFrom (suc who) workers

-- a worker of a set has played its own lines among the first of a script: it has a reply to each of them, by calls in turn, with a budget for each and so many steps besides at most; its calls are those that were answered, and it has room for its replies to the whole script
pub record HasPlayed {N : Type 0} (kind : Kind) (set : TableView) (budget most : ℕ) (script lines : List Line) (worker : Worker N) : Type 0 where
  pub set_is : worker.caller.set ≡ set
  pub of : IsOf worker.caller.pass.trace set
  pub one_each : length worker.replies.items ≡ length (lines_by worker.caller.pass.trace.who lines)
  pub calls : made_by worker.caller.pass.trace ≡ answered_calls kind (zip (lines_by worker.caller.pass.trace.who lines) worker.replies.items)
  pub tells : All (λ outcome. TellsReply kind worker.caller.pass.trace outcome.0.op outcome.1) (zip (lines_by worker.caller.pass.trace.who lines) worker.replies.items)
  pub in_turn : CallsInTurn kind budget (zip (lines_by worker.caller.pass.trace.who lines) worker.replies.items) (as_member set (new_pass set worker.caller.pass.trace.who)) worker.caller
  pub steps : steps_of worker.caller.pass.trace ≤ budget * length worker.replies.items + most
  pub room : length (lines_by worker.caller.pass.trace.who script) ≤ vec_capacity worker.replies

-- a phase has ended for the workers: at some point of what each has seen, each had called its lines of the phases up to this one, and no more
pub record HasEnded {N : Type 0} (kind : Kind) (set : TableView) (script : List Line) (phase : ℕ) (workers : List (Worker N)) : Type 0 where
  pub seen : List Event
  pub begins : All (λ worker. Begins seen worker.caller.pass.trace.seen) workers
  pub replied : (who : ℕ) → who < length workers → length (lines_by who (lines_up_to phase script)) ≤ length (replies_by who (replies_of workers))
  pub called : HaveCalled kind set.start (length workers) (lines_up_to phase script) (replies_of workers) seen

-- so many workers have played the first lines of a script, which are those of its first phases, one phase after the other, from one on, and in each made a step for each other worker at most, beside their calls
pub record Stand {N : Type 0} (kind : Kind) (set : TableView) (budget : ℕ) (script lines : List Line) (count from phases : ℕ) (workers : List (Worker N)) : Type 0 where
  pub count_is : length workers ≡ count
  pub order : from ≤ phases
  pub numbered : AreNumberedFrom 0 workers
  pub played : All (HasPlayed kind set budget ((count - 1) * (phases - from)) script lines) workers
  pub ended : (phase : ℕ) → phase < phases → HasEnded kind set script phase workers

-- a pass of a set has become a worker: it has no replies, and room for those to its own lines
pub record IsNewWorker {N : Type 0} (set : TableView) (script : List Line) (pass : PassView) (worker : Worker N) : Type 0 where
  pub caller_is : worker.caller ≡ as_member set pass
  pub none : worker.replies.items ≡ []
  pub room : length (lines_by pass.trace.who script) ≤ vec_capacity worker.replies
