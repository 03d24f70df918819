use Rattle.vbr_example.proofs.Found.{finds}
use Rattle.vbr_example.proofs.telling.find_told.Goals as goal

pub returns : goal.returns
returns c = finds c.args.member.now.set c.args.message c.args.member.now.pass c.catch_up.new.self.pass
    c.has.new.self.pass c.has.result c.requires c.catch_up.ensures.catches c.has.ensures.told.answers
