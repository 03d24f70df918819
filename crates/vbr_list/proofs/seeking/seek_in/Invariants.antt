use Rattle.vbr_list.proofs.Names.{◌-◌, IsSameTable, Peeks, steps_besides}
use Rattle.vbr_list.proofs.traversals.Searching.{HasRepeatedIn}
use Rattle.vbr_list.proofs.seeking.seek_in.Given as goal

abbrev pub invariant-loop-next : goal.invariant-loop-next
invariant-loop-next g l = IsSameTable l.fn.at l.at ×
    Peeks l.fn.at.stepper.now l.at.stepper.now l.fn.used l.since l.fn.budget ×
    HasRepeatedIn 5 l.fn.at.stepper.now.trace l.at.stepper.now.trace l.fn.bucket
    (steps_besides l.fn.at.stepper.now.trace) l.fn.used l.since

abbrev pub decreases-loop-next : goal.decreases-loop-next
decreases-loop-next g l = l.fn.budget - l.since
