use Rattle.vbr_list.proofs.Names.{◌≡◌, ◌+◌, ◌-◌}
use Rattle.vbr_list.proofs.inserts.Linking.{IsLinking}
use Rattle.vbr_list.proofs.stores.Settled.{each_lost}
use Rattle.vbr_list.proofs.call.PendingCall.store_held.Given as goal

abbrev pub invariant-loop-found : goal.invariant-loop-found
invariant-loop-found g l = IsLinking (3 + each_lost l.fn.gives) l.fn.self l.self l.hand × (l.hand ≡ l.fn.hand)

abbrev pub decreases-loop-found : goal.decreases-loop-found
decreases-loop-found g l = l.self.budget - l.self.used
