use Rattle.std.proofs.Common.{sym, subst, arith}
use Rattle.vbr_player.specs.Meeting.{Meets}
use Rattle.vbr_player.proofs.AllMet.{all_met, met_back, of_others}
use Rattle.vbr_player.proofs.meeting.meet_all.Goals as goal

pub meet_others-requires : goal.meet_others-requires
meet_others-requires g c =
    of_others c.args.workers.items c.pop.new.self.items c.deref_mut.result.now c.in-Some.last c.in-Some.ensures.items
    c.deref_mut.ensures.value c.requires

pub returns : goal.returns
returns g c =
    let met = met_back c.pop.new.self.items c.deref_mut.result.now c.meet_others.new.others c.in-Some.last.caller
    c.meet_others.new.caller c.pop.new.self.len (omega arith) c.deref_mut.ensures.value c.meet_others.ensures in
    subst (Meets c.args.workers.items) (sym c.in-Ok.ensures.items)
    (all_met c.args.workers.items c.pop.new.self.items _ c.in-Some.last c.meet_others.new.caller c.in-Some.ensures.items
    met)
