use Rattle.std.proofs.Common.{◌≡◌, drop}
use Rattle.vbr_machine.specs.Knowledge.{key_in}
use Rattle.vbr_world.proofs.world.reads.key_in.Given as goal

-- the reads behind this point answer what all of them do
abbrev pub invariant-loop-read : goal.invariant-loop-read
invariant-loop-read l = key_in (drop l.read-index l.reads) l.slot ≡ key_in l.reads l.slot
