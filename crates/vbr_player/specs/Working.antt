-- What playing lines does to a worker.
use Rattle.std.specs.Prelude.{◌≡◌, ℕ, true, false, ◌+◌, ◌*◌, ◌≤◌, List, ◌++◌, length, zip, All}
use Rattle.std.specs.List.{AllZip}
use Rattle.std.specs.Vec.{vec_capacity}
use Rattle.vbr_machine.specs.Runs.{Begins, world_after}
use Rattle.vbr_machine.specs.declared.history.Op.{Op}
use Rattle.vbr_machine.specs.declared.history.Op.TheVariants.{Insert}
use Rattle.vbr_slots.specs.steps.Calls.{IsSame, made_by}
use Rattle.vbr_slots.specs.views.Views.{Trace, steps_of}
use Rattle.vbr_transcript.specs.Calls.{answered_calls, lines_by}
use Rattle.vbr_transcript.specs.Runs.{gives_value}
use Rattle.vbr_player.specs.Calling.{CallsInTurn}
use Rattle.vbr_script.specs.Scripts.{MayAsk}
use Rattle.vbr_script.specs.declared.script.Kind.{Kind}
use Rattle.vbr_script.specs.declared.script.Line.{Line}
use Rattle.vbr_transcript.specs.declared.reply.Reply.{Reply}
use Rattle.vbr_transcript.specs.declared.reply.Reply.TheVariants.{Yes, Value, Full, Spent}
use Rattle.vbr_player.specs.declared.worker.Worker.{Worker}

-- each of the lines asks what a script of this kind may
abbrev pub MayBeAsked : Kind → List Line → Type 0
MayBeAsked kind lines = All (λ line. MayAsk kind line.op line.value) lines

-- what a reply says of the pass that was given it: yes comes with a value just if the operation gives one, an insert alone finds no slot or the epochs spent, and they are spent once it has seen the last epoch come
abbrev pub TellsReply : Kind → Trace → Op → Reply → Type 0
TellsReply kind q op Yes = gives_value kind op ≡ false
TellsReply kind q op (Value value) = gives_value kind op ≡ true
TellsReply kind q op Full = op ≡ Insert
TellsReply kind q op Spent = (op ≡ Insert) × (q.start.shape.last_epoch ≤ (world_after q.start q.seen).epoch)
TellsReply kind q op _ = Unit {0}

-- a worker has room for a reply to each of its own lines among these
abbrev pub HasRoomForReplies : {N : Type 0} → Worker N → List Line → Type 0
HasRoomForReplies p lines = length p.replies.items + length (lines_by p.caller.pass.trace.who lines) ≤ vec_capacity p.replies

-- each of the workers has
abbrev pub HaveRoomForReplies : {N : Type 0} → List (Worker N) → List Line → Type 0
HaveRoomForReplies workers lines = All (λ worker. HasRoomForReplies worker lines) workers

-- a worker played its own lines among these, in order, with a budget for each: each was given the reply of its call, the calls that its pass made are those that were answered, and the steps that it made are within the budgets
pub record Played {N : Type 0} (kind : Kind) (budget : ℕ) (lines : List Line) (p q : Worker N) : Type 0 where
  pub set : q.caller.set ≡ p.caller.set
  pub same : IsSame p.caller.pass.trace q.caller.pass.trace
  pub seen : Begins p.caller.pass.trace.seen q.caller.pass.trace.seen
  pub more : List Reply
  pub replies : q.replies.items ≡ p.replies.items ++ more
  pub one_each : length more ≡ length (lines_by p.caller.pass.trace.who lines)
  pub calls : made_by q.caller.pass.trace ≡ made_by p.caller.pass.trace ++ answered_calls kind (zip (lines_by p.caller.pass.trace.who lines) more)
  pub tells : All (λ outcome. TellsReply kind q.caller.pass.trace outcome.0.op outcome.1) (zip (lines_by p.caller.pass.trace.who lines) more)
  pub in_turn : CallsInTurn kind budget (zip (lines_by p.caller.pass.trace.who lines) more) p.caller q.caller
  pub steps : steps_of q.caller.pass.trace ≤ steps_of p.caller.pass.trace + budget * length more
  pub room : vec_capacity p.replies ≤ vec_capacity q.replies

-- each of the workers did
abbrev pub EachPlayed : {N : Type 0} → Kind → ℕ → List Line → List (Worker N) → List (Worker N) → Type 0
EachPlayed kind budget lines before after = AllZip (Played kind budget lines) before after
