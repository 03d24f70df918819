use Rattle.vbr_list.proofs.Names.{◌-◌}
use Rattle.vbr_list.proofs.traversals.LostTraversals.{HasSearched}
use Rattle.vbr_list.proofs.removing.remove_by.Given as goal

abbrev pub invariant-loop-found : goal.invariant-loop-found
invariant-loop-found g l = HasSearched 6 l.initial.call l.call

abbrev pub decreases-loop-found : goal.decreases-loop-found
decreases-loop-found g l = l.call.budget - l.call.used
