-- What was taken stays in hand through the second read.
use Rattle.std.proofs.Common.{rules}
use Rattle.vbr_at_table.specs.hands.Hands.{IsHandOf}
use Rattle.vbr_table_tests.proofs.lost_exchanges.Kept.{hand_kept}
use Rattle.vbr_table_tests.proofs.lost_exchanges.stand_before_exchange.Goals as goal

pub returns-clause-hand : goal.returns-clause-hand
returns-clause-hand g c =
    let hand : IsHandOf c.take.new.pass c.expect-hand.result = search rules in
    hand_kept c.expect-hand.result c.read_entry-2.ensures.keeps hand
