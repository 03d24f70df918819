use Rattle.std.proofs.Common.{◌+◌, ◌≤◌, length}
use Rattle.vbr_script.specs.Text.{lines_of}
use Rattle.vbr_script.proofs.LinesRead.{HasRead, all_meanings}
use Rattle.vbr_script.proofs.parser.parse.Given as goal

-- the lines so far, and what the rest of the text means after them, are what the text means
abbrev pub invariant-loop-phase : goal.invariant-loop-phase
invariant-loop-phase l = record {
  read : HasRead l.kind l.workers l.text l.lines.items l.renewals.items l.phase l.number
      (all_meanings l.kind l.workers (lines_of l.rest));
  place : l.number + length l.rest ≤ length l.text + 1;
}

abbrev pub decreases-loop-phase : goal.decreases-loop-phase
decreases-loop-phase l = length l.rest
