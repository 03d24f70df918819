-- What the workers have played of a script's phases.
use Rattle.std.specs.Prelude.{◌≡◌, ℕ, ◌<◌, List, zip}
use Rattle.vbr_machine.specs.Start.{Start}
use Rattle.vbr_machine.specs.Calls.{own_calls}
use Rattle.vbr_machine.specs.declared.event.Event.{Event}
use Rattle.vbr_transcript.specs.Calls.{answered_calls, lines_by}
use Rattle.vbr_transcript.specs.Merging.{replies_by}
use Rattle.vbr_script.specs.declared.script.Kind.{Kind}
use Rattle.vbr_script.specs.declared.script.Line.{Line}
use Rattle.vbr_transcript.specs.declared.reply.Reply.{Reply}

-- the calls of each worker after these events are those of its lines, as its replies answer them
abbrev pub HaveCalled : Kind → Start → ℕ → List Line → List (List Reply) → List Event → Type 0
HaveCalled kind start workers lines own seen =
    (who : ℕ) → who < workers → own_calls start seen who ≡ answered_calls kind (zip (lines_by who lines) (replies_by who own))
