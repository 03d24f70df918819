use Rattle.vbr_list.proofs.Names.{◌-◌}
use Rattle.vbr_list.proofs.look_ups.LostLooks.{HasLookedIn}
use Rattle.vbr_list.proofs.call.PendingCall.search_past.Given as goal

abbrev pub invariant-loop-sight : goal.invariant-loop-sight
invariant-loop-sight g l = HasLookedIn l.fn.self.bucket 3 l.fn.self l.self

abbrev pub decreases-loop-sight : goal.decreases-loop-sight
decreases-loop-sight g l = l.self.budget - l.self.used
