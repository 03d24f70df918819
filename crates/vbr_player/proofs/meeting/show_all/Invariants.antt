use Rattle.std.proofs.Common.{◌≡◌, take}
use Rattle.std.specs.Prelude.{All}
use Rattle.std.specs.List.{AllZip}
use Rattle.vbr_machine.specs.Runs.{Begins}
use Rattle.vbr_player.specs.Meeting.{HasSeenMore}
use Rattle.vbr_player.proofs.AllMet.{AreLeft}
use Rattle.vbr_player.proofs.meeting.show_all.Given as goal

-- the workers so far have seen all that the pass has seen, which is as it was
abbrev pub invariant-loop-other : goal.invariant-loop-other
invariant-loop-other g l = record {
  same : l.caller ≡ l.fn.caller;
  looks : AllZip (HasSeenMore 1) l.fn.others l.others;
  left : AreLeft l.other-index l.fn.others l.others;
  seen : All (λ other. Begins l.fn.caller.pass.trace.seen other.caller.pass.trace.seen) (take l.other-index l.others);
}
