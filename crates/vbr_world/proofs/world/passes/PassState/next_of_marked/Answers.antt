use Rattle.std.proofs.Common.{◌≡◌, rules}
use Rattle.vbr_machine.specs.Knowledge.{marked_in}
use Rattle.vbr_machine.specs.Acceptance.{next_of_marked}
use Rattle.vbr_world.proofs.KeptPasses.{next-fits}
use Rattle.vbr_world.proofs.world.passes.PassState.next_of_marked.Goals as goal

-- the links that are read have room in words
pub returns-clause-fits : goal.returns-clause-fits
returns-clause-fits c =
    let reads = c.self.inside.checked.items in
    let is : c.next_of_marked.result ≡ next_of_marked (marked_in reads c.args.slot) = search rules in
    rw is (next-fits reads c.args.slot c.self.invariant.checked)
