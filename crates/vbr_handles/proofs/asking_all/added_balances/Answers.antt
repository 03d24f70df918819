use Rattle.vbr_handles.proofs.Names.{◌-◌}
use Rattle.vbr_handles.proofs.EachOnce.{same_again}
use Rattle.vbr_handles.proofs.HandleBalances.{added_from, read_full}
use Rattle.vbr_handles.proofs.asking_all.added_balances.Goals as goal

pub balance-sum-requires : goal.balance-sum-requires
balance-sum-requires g c =
    read_full g.H.HandleOf.member c.args.handles.now c.loop-i.handles c.requires c.loop-i.invariant.same c.loop-i.i
    c.index-handles-i.result c.loop-i-test.true c.loop-i.auto.i

pub loop-i-preserved : goal.loop-i-preserved
loop-i-preserved g c =
    let i = c.loop-i.invariant in
    record {
      same = same_again g.H.HandleOf.member c.args.handles.now c.loop-i.handles (c.loop-i.i - 1)
          c.index-handles-i.result c.balance-sum.new.self i.same c.balance-sum.ensures.1;
      sum = added_from g.H.HandleOf.member c.args.handles.now c.loop-i.handles c.requires i.same c.loop-i.i
          c.index-handles-i.result c.loop-i.sum-bits c.balance-sum.result c.loop-i-test.true c.loop-i.auto.i
          c.loop-i.auto.sum c.balance-sum.ensures.0 i.sum;
    }
