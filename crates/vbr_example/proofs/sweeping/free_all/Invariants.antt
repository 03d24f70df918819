use Rattle.vbr_example.proofs.Swept.{Sweeps, left_of}
use Rattle.vbr_example.proofs.sweeping.free_all.Given as goal

abbrev pub invariant-loop-next : goal.invariant-loop-next
invariant-loop-next l = Sweeps l.fn.member.pass.trace l.member.pass.trace l.cursor l.count

abbrev pub decreases-loop-next : goal.decreases-loop-next
decreases-loop-next l = left_of l.cursor
