use Rattle.std.proofs.Common.{◌≡◌, drop}
use Rattle.vbr_machine.specs.Knowledge.{knows_link}
use Rattle.vbr_world.proofs.world.reads.knows_link.Given as goal

-- the reads behind this point answer what all of them do
abbrev pub invariant-loop-read : goal.invariant-loop-read
invariant-loop-read l = knows_link (drop l.read-index l.reads) l.place l.link ≡ knows_link l.reads l.place l.link
