use Rattle.std.proofs.Common.{◌≡◌, take}
use Rattle.std.specs.Prelude.{All}
use Rattle.vbr_machine.specs.Runs.{Begins}
use Rattle.vbr_player.specs.Meeting.{HasLooked}
use Rattle.vbr_player.proofs.meeting.see_all.Given as goal

-- it is the pass of its set still, and has seen all that the workers so far have seen
abbrev pub invariant-loop-other : goal.invariant-loop-other
invariant-loop-other g l = record {
  same : l.others ≡ l.fn.others;
  looked : HasLooked l.other-index l.fn.caller l.caller;
  seen : All (λ other. Begins other.caller.pass.trace.seen l.caller.pass.trace.seen) (take l.other-index l.fn.others);
}
