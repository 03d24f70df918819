use Rattle.vbr_list.proofs.Names.{arith, no_room}
use Rattle.vbr_list.proofs.call.PendingCall.reach.Goals as goal

pub returns-then-not-affords-clause-tired : goal.returns-then-not-affords-clause-tired
returns-then-not-affords-clause-tired g c =
    let found = c.in_ok-found.ensures.found in
    let budget = c.search.ensures.goes.call.budget in
    let short = no_room c.search.new.self.used c.search.new.self.budget c.affords.result c.if-not-affords.true
    c.affords.ensures.1 in
    record {
      tired = omega (arith, short, budget);
      traverses = found.traverses;
    }
