use Rattle.std.proofs.Common.{◌≡◌}
use Rattle.vbr_world.specs.WorldInLists.{world_of}
use Rattle.vbr_machine.specs.Machine.{is_flagged}
use Rattle.vbr_machine.proofs.Lemmas.{flags_of_first}
use Rattle.vbr_world.proofs.world.lists.Lists.flags.Given as goal

abbrev pub invariant-loop-i : goal.invariant-loop-i
invariant-loop-i l = l.flags ≡ flags_of_first (is_flagged l.self.start (world_of l.self)) l.number l.i
