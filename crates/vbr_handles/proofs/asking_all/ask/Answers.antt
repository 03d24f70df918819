use Rattle.vbr_handles.proofs.AskingAll.{as_many_renewed}
use Rattle.vbr_handles.proofs.asking_all.ask.Goals as goal

pub returns-in-Ok-renew_all-clause-many : goal.returns-in-Ok-renew_all-clause-many
returns-in-Ok-renew_all-clause-many g c =
    as_many_renewed g.N.Kind.kind c.args.members.items c.with_reserves.result.items c.in-Renew.shape
    (record {
      fresh = c.in-Ok-renew_all.fresh.items;
      renews = c.in-Ok-renew_all.ensures.renewed;
      reserves = c.with_reserves.ensures;
    })
