use Rattle.std.proofs.Common.{◌≡◌, drop, map, length, arith, rules, ap}
use Rattle.std.proofs.lemmas.List.{take_at, length-map}
use Rattle.vbr_machine.specs.Learning.{reread}
use Rattle.vbr_world.specs.WorldInLists.{FitsHolding}
use Rattle.vbr_world.proofs.KeptPasses.{all-map, fits-reread}
use Rattle.vbr_world.proofs.world.passes.PassState.reread.Goals as goal

-- each slot is reread, and what is reread has room
pub invariant_of-self : goal.invariant_of-self
invariant_of-self c =
    let own = c.self.inside.own in
    let new = c.reread_all.new.own in
    let is : new ≡ map reread own.items = search rules in
    let len : length new ≡ own.len = omega (arith, own.ok.0, ap length is, length-map own.items reread) in
    rw (take_at new (drop (length new) own.items) own.len len, is) (record {
      epoch = c.self.invariant.epoch;
      pending = c.self.invariant.pending;
      checked = c.self.invariant.checked;
      own = all-map FitsHolding reread own.items fits-reread c.self.invariant.own;
    })
