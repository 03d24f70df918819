-- The list of places with one entry set stands for the world with the slot put there.
use Rattle.std.proofs.Common.{rules}
use Rattle.vbr_world.proofs.KeptWorlds.{slot_put}
use Rattle.vbr_world.proofs.world.lists.Lists.put_slot.Goals as goal

pub returns : goal.returns
returns c = record {
  written = rw (← c.self.view_is)
      (slot_put _ c.args.slot c.args.place c.self.invariant (rw (← c.self.view_is) at c.requires));
  start = search rules;
  passes = search rules;
}
