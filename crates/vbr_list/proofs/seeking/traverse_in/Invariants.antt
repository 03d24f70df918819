use Rattle.vbr_list.proofs.Names.{◌-◌, Held, IsSameTable, said}
use Rattle.vbr_list.proofs.traversals.Traversals.{Follows}
use Rattle.vbr_list.proofs.seeking.traverse_in.Given as goal

abbrev pub invariant-loop-here : goal.invariant-loop-here
invariant-loop-here g l = IsSameTable l.fn.at l.at ×
    ((pred : Held) ×
    Follows l.fn.at.stepper.now l.at.stepper.now l.fn.bucket l.fn.from l.fn.used l.used l.fn.budget pred
    (said l.fn.at.slots.now l.here))

abbrev pub decreases-loop-here : goal.decreases-loop-here
decreases-loop-here g l = l.fn.budget - l.used
