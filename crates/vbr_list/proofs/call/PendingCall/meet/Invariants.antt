use Rattle.vbr_list.proofs.Names.{◌-◌}
use Rattle.vbr_list.proofs.traversals.LostTraversals.{HasSearched}
use Rattle.vbr_list.proofs.call.PendingCall.meet.Given as goal

abbrev pub invariant-loop-found : goal.invariant-loop-found
invariant-loop-found g l = HasSearched 7 l.fn.self l.self

abbrev pub decreases-loop-found : goal.decreases-loop-found
decreases-loop-found g l = l.self.budget - l.self.used
