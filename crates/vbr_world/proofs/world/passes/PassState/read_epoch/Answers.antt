use Rattle.std.proofs.Common.{rules}
use Rattle.vbr_world.specs.WorldInLists.{know_of}
use Rattle.vbr_world.proofs.KeptPasses.{read_epoch-same, read_epoch-moved}
use Rattle.vbr_world.proofs.world.passes.PassState.read_epoch.Goals as goal
use Rattle.vbr_world.proofs.world.passes.PassState.read_epoch.Goals.{then-epoch-self+in_ok-confirm, else-epoch-self}

-- the epoch has moved or not, and then the slots are reread
pub returns-clause-learned : goal.returns-clause-learned
returns-clause-learned c =
    let know = know_of c.args.self.now in
    let between = know_of c.if-epoch-self.self in
    record {
      knows = elim c.if-epoch-self.branch [
        | then-epoch-self+in_ok-confirm w ↦
            read_epoch-same know between (know_of c.reread.new.self) c.args.epoch (search rules) (search rules)
            c.reread.ensures.knows
        | else-epoch-self w ↦
            read_epoch-moved know between (know_of c.reread.new.self) c.args.epoch (search rules) (search rules)
            c.reread.ensures.knows
      ];
      slots = search rules;
    }
