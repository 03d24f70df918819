use Rattle.vbr_at_table.proofs.own_slots.PuttingAside.{puts_aside}
use Rattle.vbr_at_table.proofs.aside.Aside.of.Goals as goal

pub returns-clause-aside : goal.returns-clause-aside
returns-clause-aside c =
    puts_aside c.args.pass.now c.set_aside.new.self c.args.hand _ c.law.ensures c.requires.hand
    c.set_aside.ensures.trace c.set_aside.ensures.pool c.set_aside.ensures.hand c.slot.ensures c.birth.ensures
