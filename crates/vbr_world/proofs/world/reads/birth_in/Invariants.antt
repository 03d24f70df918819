use Rattle.std.proofs.Common.{◌≡◌, drop}
use Rattle.vbr_machine.specs.Knowledge.{birth_in}
use Rattle.vbr_world.proofs.world.reads.birth_in.Given as goal

-- the reads behind this point answer what all of them do
abbrev pub invariant-loop-read : goal.invariant-loop-read
invariant-loop-read l = birth_in (drop l.read-index l.reads) l.slot ≡ birth_in l.reads l.slot
