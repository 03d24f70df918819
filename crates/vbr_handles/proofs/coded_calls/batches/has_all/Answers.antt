use Rattle.vbr_handles.proofs.Names.{Owner, Member}
use Rattle.vbr_handles.proofs.InTurn.{seen_in_turn}
use Rattle.vbr_handles.proofs.coded_calls.batches.has_all.Goals as goal

pub returns : goal.returns
returns g c =
    seen_in_turn (λ (o : Owner Member). o.member) _ c.args.owner.now c.look_up_all.new.who c.args.keys.now
    c.look_up_all.new.answers c.look_up_all.ensures
