use Rattle.vbr_handles.proofs.AskingAll.{asked_all}
use Rattle.vbr_handles.proofs.asking_all.ask_all.Goals as goal

pub returns-clause-asks : goal.returns-clause-asks
returns-clause-asks g c =
    asked_all g.H.HandleOf.member g.N.Kind.kind c.args.question c.args.handles.now c.are_full.new.handles
    c.lack.new.handles c.are_beside.new.handles c.has_twice.new.handles c.put_all_back.new.handles
    c.take_all_out-members.result.0.items c.ask-told.result.1.items c.ask-told.result.0
    (c.are_full.ensures.full c.if-not-are_full.false) c.are_full.ensures.same c.lack.ensures.same
    c.are_beside.ensures c.has_twice.ensures.same (c.lack.ensures.no c.if-lack.false)
    (c.has_twice.ensures.no c.if-has_twice.false) c.take_all_out-members.ensures.members c.ask-told.ensures.tells
    c.put_all_back.ensures.members
