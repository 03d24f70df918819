use Rattle.vbr_machine.specs.declared.history.Op.TheVariants.{Has}
use Rattle.vbr_set.specs.calls.Members.{Called}
use Rattle.vbr_set.proofs.many_keys.BatchesAside.{aside_in_turn, calls_in_turn}
use Rattle.vbr_set.proofs.member.Member.has_all.Goals as goal

pub returns-clause-told : goal.returns-clause-told
returns-clause-told g c =
    calls_in_turn (λ m n key answer. Called Has m n key c.args.budget answer) c.args.self.now c.look_up_all.new.who
    c.args.keys.now c.look_up_all.new.answers c.look_up_all.ensures

pub returns-clause-aside : goal.returns-clause-aside
returns-clause-aside g c =
    aside_in_turn (λ m n key answer. Called Has m n key c.args.budget answer) c.args.self.now c.look_up_all.new.who
    c.args.keys.now c.look_up_all.new.answers c.look_up_all.ensures
