use Rattle.std.proofs.Common.{map}
use Rattle.vbr_transcript.proofs.Merged.{IsMergedSoFar}
use Rattle.vbr_transcript.proofs.merging.merge.Given as goal

-- the lines so far have their replies
abbrev pub invariant-loop-line : goal.invariant-loop-line
invariant-loop-line l =
    IsMergedSoFar l.lines (map (λ replies. replies.items) l.own) l.next.items l.merged.items l.line-index
