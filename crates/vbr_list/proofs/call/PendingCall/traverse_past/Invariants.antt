use Rattle.vbr_list.proofs.Names.{◌-◌, IsSameCall, wide_held}
use Rattle.vbr_list.proofs.traversals.Traversals.{Follows}
use Rattle.vbr_list.proofs.call.PendingCall.traverse_past.Given as goal

abbrev pub invariant-loop-here : goal.invariant-loop-here
invariant-loop-here g l = IsSameCall l.fn.self l.self ×
    Follows l.fn.self.at.stepper.now l.self.at.stepper.now l.fn.self.bucket l.fn.self.key l.fn.self.used l.self.used
    l.fn.self.budget (wide_held l.fn.self l.pred) (wide_held l.fn.self l.here)

abbrev pub decreases-loop-here : goal.decreases-loop-here
decreases-loop-here g l = l.self.budget - l.self.used
