use Rattle.vbr_set.specs.calls.MapCalls.{GetsEntry}
use Rattle.vbr_set.proofs.many_keys.BatchesAside.{aside_in_turn, calls_in_turn}
use Rattle.vbr_set.proofs.member.batches.«Member+Entries».get_all.Goals as goal

pub returns-clause-told : goal.returns-clause-told
returns-clause-told c =
    calls_in_turn (λ m n key answer. GetsEntry m n key c.args.budget answer) c.args.self.now c.look_up_all.new.who
    c.args.keys.now c.look_up_all.new.answers c.look_up_all.ensures

pub returns-clause-aside : goal.returns-clause-aside
returns-clause-aside c =
    aside_in_turn (λ m n key answer. GetsEntry m n key c.args.budget answer) c.args.self.now c.look_up_all.new.who
    c.args.keys.now c.look_up_all.new.answers c.look_up_all.ensures
