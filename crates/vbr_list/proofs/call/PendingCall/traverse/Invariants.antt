use Rattle.vbr_list.proofs.Names.{◌-◌, IsSameCall, wide_held}
use Rattle.vbr_list.proofs.traversals.Traversals.{Traverses}
use Rattle.vbr_list.proofs.call.PendingCall.traverse.Given as goal

abbrev pub invariant-loop-pred : goal.invariant-loop-pred
invariant-loop-pred g l = IsSameCall l.fn.self l.self ×
    Traverses l.fn.self.at.stepper.now l.self.at.stepper.now l.fn.self.bucket l.fn.self.key l.fn.self.used l.self.used
    l.fn.self.budget (wide_held l.fn.self l.pred)

abbrev pub decreases-loop-pred : goal.decreases-loop-pred
decreases-loop-pred g l = l.self.budget - l.self.used
