use Rattle.std.proofs.Common.{◌≡◌, drop}
use Rattle.vbr_machine.specs.Knowledge.{marked_in}
use Rattle.vbr_world.proofs.world.reads.marked_in.Given as goal

-- the reads behind this point answer what all of them do
abbrev pub invariant-loop-read : goal.invariant-loop-read
invariant-loop-read l = marked_in (drop l.read-index l.reads) l.slot ≡ marked_in l.reads l.slot
