use Rattle.std.proofs.Common.{sym, ◌∙◌, arith}
use Rattle.vbr_machine.proofs.Lemmas.{begins_for_begins}
use Rattle.vbr_player.proofs.AllMet.{meets_more, of_at, put_back, seen_more, seen_all}
use Rattle.vbr_player.proofs.meeting.see_all.Goals as goal

pub meet-requires : goal.meet-requires
meet-requires g c =
    of_at c.args.caller.now.set c.args.others.now c.loop-other.others c.loop-other.other-index c.other-item.result
    c.loop-other.invariant.same c.loop-other-test.true c.requires ∙ sym c.loop-other.invariant.looked.set

pub loop-other-preserved : goal.loop-other-preserved
loop-other-preserved g c =
    let met = c.meet.ensures in
    let before = c.loop-other.invariant in
    record {
      same = put_back c.args.others.now c.loop-other.others c.loop-other.other-index c.other-item.result
          c.meet.new.other before.same met.same;
      looked = meets_more c.args.caller.now c.loop-other.caller _ c.meet.new.self before.looked met.set met.meets;
      seen = seen_more c.args.others.now c.loop-other.others c.loop-other.other-index c.other-item.result
          c.loop-other.caller.pass.trace.seen c.meet.new.self.pass.trace.seen before.same c.loop-other-test.true
          before.seen met.meets.shares.quiet.seen (begins_for_begins _ _ _ met.meets.met);
    }

pub returns-clause-seen : goal.returns-clause-seen
returns-clause-seen g c =
    seen_all c.args.others.now c.loop-other.other-index c.loop-other.caller.pass.trace.seen (omega arith)
    c.loop-other.invariant.seen
