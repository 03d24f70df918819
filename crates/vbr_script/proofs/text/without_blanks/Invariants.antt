use Rattle.std.proofs.Common.{◌≡◌, length}
use Rattle.vbr_script.specs.Text.{tokens_of}
use Rattle.vbr_script.proofs.text.without_blanks.Given as goal

abbrev pub invariant-loop-first : goal.invariant-loop-first
invariant-loop-first l = tokens_of l.rest ≡ tokens_of l.line

abbrev pub decreases-loop-first : goal.decreases-loop-first
decreases-loop-first l = length l.rest
