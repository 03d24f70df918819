use Rattle.vbr_set.proofs.sums.AddedBalances.{added_from}
use Rattle.vbr_set.proofs.member.renewing_all.added_balances.Goals as goal

pub loop-i-preserved : goal.loop-i-preserved
loop-i-preserved g c =
    added_from c.args.members.now c.loop-i.i c.index-members-i.result c.loop-i.sum-bits c.balance-sum.result
    c.loop-i-test.true c.loop-i.auto.i c.index-members-i.is c.loop-i.auto.sum c.balance-sum.ensures c.loop-i.invariant
