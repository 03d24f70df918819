use Rattle.std.proofs.Common.{◌≡◌, drop}
use Rattle.vbr_machine.specs.Knowledge.{holds}
use Rattle.vbr_world.proofs.world.reads.holds.Given as goal

-- the reads behind this point answer what all of them do
abbrev pub invariant-loop-read : goal.invariant-loop-read
invariant-loop-read l = holds (drop l.read-index l.reads) l.slot ≡ holds l.reads l.slot
