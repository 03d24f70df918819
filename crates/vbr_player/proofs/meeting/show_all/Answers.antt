use Rattle.std.proofs.Common.{◌≡◌, get_or, refl, ap, subst, ◌∙◌, arith}
use Rattle.vbr_machine.specs.Runs.{Begins}
use Rattle.vbr_machine.proofs.Lemmas.{begins_for_begins}
use Rattle.vbr_set.specs.calls.Members.{MemberView}
use Rattle.vbr_player.proofs.AllMet.{all_look, left_more, shown_more, sees_more, still_of, all_see}
use Rattle.vbr_player.proofs.meeting.show_all.Goals as goal

pub meet-requires : goal.meet-requires
meet-requires g c =
    let own : c.loop-other.caller.set ≡ c.args.caller.now.set =
    ap (λ (m : MemberView). m.set) c.loop-other.invariant.same in
    let theirs : (get_or c.loop-other.others c.loop-other.other-index c.other-item.result).caller.set
    ≡ c.args.caller.now.set =
    still_of c.args.caller.now.set c.args.others.now c.loop-other.others c.loop-other.other-index c.other-item.result
    c.loop-other-test.true c.loop-other.invariant.looks c.requires in
    cc

pub loop-other-init : goal.loop-other-init
loop-other-init g c =
    record {
      same = refl;
      looks = all_look 1 c.args.others.now;
      left = λ k d later. refl;
      seen = λ k d none. absurd (omega arith);
    }

pub loop-other-preserved : goal.loop-other-preserved
loop-other-preserved g c =
    let met = c.meet.ensures in
    let i = c.loop-other.invariant in
    record {
      same = met.same ∙ i.same;
      looks = shown_more c.args.others.now c.loop-other.others c.loop-other.other-index c.other-item.result _
          c.meet.new.self c.loop-other-test.true i.looks i.left met.set met.meets;
      left = left_more c.args.others.now c.loop-other.others c.loop-other.other-index _ i.left;
      seen = sees_more c.args.caller.now.pass.trace.seen c.args.others.now c.loop-other.others c.loop-other.other-index
          _ c.loop-other-test.true i.looks i.seen
          (subst (λ (m : MemberView). Begins m.pass.trace.seen c.meet.new.self.pass.trace.seen) i.same
          (begins_for_begins _ _ _ met.meets.met));
    }

pub returns-clause-seen : goal.returns-clause-seen
returns-clause-seen g c =
    all_see c.args.caller.now.pass.trace.seen c.args.others.now c.loop-other.others c.loop-other.other-index
    (omega arith) c.loop-other.invariant.looks c.loop-other.invariant.seen
