use Rattle.vbr_player.proofs.AllMet.{still_here, seen_and_shown}
use Rattle.vbr_player.proofs.meeting.meet_others.Goals as goal

pub show_all-requires : goal.show_all-requires
show_all-requires g c =
    still_here c.args.others.now c.see_all.new.others c.args.caller.now c.see_all.new.caller c.see_all.ensures.same
    c.see_all.ensures.looked.set c.requires

pub returns : goal.returns
returns g c =
    let see = c.see_all.ensures in
    let show = c.show_all.ensures in
    seen_and_shown c.args.others.now c.see_all.new.others c.show_all.new.others c.args.caller.now c.see_all.new.caller
    c.show_all.new.caller see.same see.looked see.seen show.same show.looks show.seen
