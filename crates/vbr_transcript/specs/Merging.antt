-- The replies of the workers, put together in script order.
use Rattle.std.specs.Prelude.{◌≡◌, ℕ, ◌<◌, List, [], length, map, zip, All, slice_index_or}
use Rattle.vbr_transcript.specs.Calls.{lines_by, outcomes_by}
use Rattle.vbr_script.specs.declared.script.Line.{Line}
use Rattle.vbr_transcript.specs.declared.reply.Reply.{Reply}

-- the replies of one worker, if each worker has a list of them
abbrev pub replies_by : ℕ → List (List Reply) → List Reply
replies_by who own = slice_index_or own who []

-- each line is of one of the workers that have a list, and the list of each worker has a reply for each of its lines
pub record HaveReplies (own : List (List Reply)) (lines : List Line) : Type 0 where
  pub workers : All (λ line. line.worker < length own) lines
  pub one_each : (who : ℕ) → length (replies_by who own) ≡ length (lines_by who lines)

-- replies in script order are those of the workers: there is one for each line, and those to the lines of a worker are the worker's own, in order
pub record IsMerged (lines : List Line) (own : List (List Reply)) (replies : List Reply) : Type 0 where
  pub one_each : length replies ≡ length lines
  pub own_order : (who : ℕ) → map (λ outcome. outcome.1) (outcomes_by who (zip lines replies)) ≡ replies_by who own
