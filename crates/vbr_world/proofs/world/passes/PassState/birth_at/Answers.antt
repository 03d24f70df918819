use Rattle.std.proofs.Common.{◌≡◌, rules, unwrap_or}
use Rattle.vbr_machine.specs.Knowledge.{birth_at}
use Rattle.vbr_world.proofs.KeptPasses.{birth_at-fits}
use Rattle.vbr_world.proofs.world.passes.PassState.birth_at.Goals as goal

-- the births that are read have room in words
pub returns-clause-fits : goal.returns-clause-fits
returns-clause-fits c =
    let reads = c.self.inside.checked.items in
    let is : c.unwrap_or.result ≡ unwrap_or (birth_at reads c.args.place) 0 = search rules in
    rw is (birth_at-fits reads c.args.place c.self.invariant.checked)
