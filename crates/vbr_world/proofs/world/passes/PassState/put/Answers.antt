use Rattle.std.proofs.Common.{rules}
use Rattle.vbr_world.proofs.KeptPasses.{know_of-put}
use Rattle.vbr_world.proofs.world.passes.PassState.put.Goals as goal

-- a write to the list is a put at the slot
pub returns : goal.returns
returns c = record {
  slots = search rules;
  knows = rw (← c.self.view_is)
      (know_of-put
      (record {
        epoch = c.self.inside.epoch;
        pending = c.self.inside.pending.items;
        checked = c.self.inside.checked.items;
        own = c.self.inside.own.items;
      }) c.args.slot c.args.holding (rw (← c.self.view_is) at c.requires.slot));
}
