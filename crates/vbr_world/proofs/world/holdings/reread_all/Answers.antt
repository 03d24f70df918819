use Rattle.std.proofs.Common.{arith, get_or, None}
use Rattle.std.proofs.lemmas.List.{get_or_default}
use Rattle.std.proofs.lemmas.List.Edits.{map_over_more}
use Rattle.vbr_machine.specs.Learning.{reread}
use Rattle.vbr_world.proofs.world.holdings.reread_all.Goals as goal

-- one more holding is reread
pub loop-holding-preserved : goal.loop-holding-preserved
loop-holding-preserved c =
    let own = c.loop-holding.own in
    let i = c.loop-holding.holding-index in
    rw c.reread.ensures
    (map_over_more reread c.args.own.now own i (get_or own i None) c.loop-holding-test.true c.loop-holding.invariant
    (get_or_default own i None (get_or own i None) (omega (arith, c.loop-holding.auto.own))))
