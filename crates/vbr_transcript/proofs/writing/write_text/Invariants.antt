use Rattle.std.proofs.Common.{◌≤◌, ◌-◌, take, length}
use Rattle.std.specs.Io.KnownBytes.{Appends}
use Rattle.vbr_transcript.proofs.writing.write_text.Given as goal

-- what was taken so far is written
abbrev pub invariant-loop-from : goal.invariant-loop-from
invariant-loop-from g l = record {
  in_range : l.from ≤ length l.text;
  written : Appends (g.W.Write.contents l.fn.writer) (g.W.Write.contents l.writer) (take l.from l.text);
}

abbrev pub decreases-loop-from : goal.decreases-loop-from
decreases-loop-from g l = length l.text - l.from
