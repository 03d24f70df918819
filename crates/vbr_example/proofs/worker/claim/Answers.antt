use Rattle.vbr_example.proofs.ClaimedOnce.{claimed}
use Rattle.vbr_example.proofs.worker.claim.Goals as goal

pub returns : goal.returns
returns c = claimed c.args.member.now c.insert.new.self c.args.page c.insert.result c.insert.ensures.told.answers
