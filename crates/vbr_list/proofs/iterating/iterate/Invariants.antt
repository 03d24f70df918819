use Rattle.vbr_list.proofs.Names.{◌-◌, IsSameTable}
use Rattle.vbr_list.proofs.iterations.ComingBy.{HasComeBy}
use Rattle.vbr_list.proofs.iterating.iterate.Given as goal

abbrev pub invariant-loop-now : goal.invariant-loop-now
invariant-loop-now g l =
    IsSameTable l.fn.at l.at × HasComeBy l.fn.at.stepper.now l.at.stepper.now l.fn.cursor l.now l.used l.fn.budget

abbrev pub decreases-loop-now : goal.decreases-loop-now
decreases-loop-now g l = l.buckets - l.now.bucket
