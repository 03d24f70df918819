use Rattle.std.proofs.Common.{◌≡◌, ◌++◌, map, take, drop}
use Rattle.vbr_machine.specs.Learning.{reread}
use Rattle.vbr_world.proofs.world.holdings.reread_all.Given as goal

-- the holdings up to this point are as they are once the epoch is read, and the others are as they were
abbrev pub invariant-loop-holding : goal.invariant-loop-holding
invariant-loop-holding l = l.own ≡ map reread (take l.holding-index l.initial.own) ++ drop l.holding-index l.initial.own
