use Rattle.vbr_handles.proofs.Names.{pos, ◌<ℤ◌, rules, added_balances, members_by}
use Rattle.vbr_handles.proofs.AskingAll.{tells_no_room}
use Rattle.vbr_handles.proofs.asking_all.without_memory.Goals as goal

pub returns-then-added_balances-from-clause-asks : goal.returns-then-added_balances-from-clause-asks
returns-then-added_balances-from-clause-asks g c =
    let above : pos c.in-Renew.shape.slots <ℤ added_balances (members_by g.H.HandleOf.member c.args.handles.now) =
    search rules in
    tells_no_room g.H.HandleOf.member g.N.Kind.kind c.args.question.now c.in-Renew.shape c.args.handles.now
    c.added_balances.new.handles c.in-Renew.is c.requires.full c.requires.enough c.requires.once
    c.added_balances.ensures.same above
