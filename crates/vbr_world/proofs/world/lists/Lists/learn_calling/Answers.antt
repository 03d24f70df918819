-- The pass learns, and its one or two calls are kept.
use Rattle.std.proofs.Common.{◌∙◌, ap, ◌++◌, ◌∷◌, []}
use Rattle.vbr_world.proofs.Learned.{learned_calling, learned_twice}
use Rattle.vbr_world.proofs.world.lists.Lists.learn_calling.Goals as goal

pub returns-in_ok-learn_at-in-None-clause-learned : goal.returns-in_ok-learn_at-in-None-clause-learned
returns-in_ok-learn_at-in-None-clause-learned c =
    rw (← c.self.view_is)
    (learned_calling _ c.learn_at.new.passes.items c.args.event.now.pass c.args.event.now.step c.args.found c.args.stamp
    c.self.invariant (rw (← c.self.view_is) at c.requires.step.found) (rw (← c.self.view_is) at c.requires.step.shown)
    c.in_ok-learn_at-in-None.ensures.learned.knows c.args.call c.push_reserved.new.self.items
    (rw (← c.self.view_is) at c.requires.ahead ∙ c.in-None.is) (rw (← c.self.view_is) at c.requires.call)
    (c.push_reserved.ensures.items ∙ ap (λ calls. calls ++ c.args.call ∷ []) c.in_ok-reserve-in-None.ensures.items))

pub returns-in_ok-learn_at-in-Some-clause-learned : goal.returns-in_ok-learn_at-in-Some-clause-learned
returns-in_ok-learn_at-in-Some-clause-learned c =
    rw (← c.self.view_is)
    (learned_twice _ c.learn_at-in-Some.new.passes.items c.args.event.now.pass c.args.event.now.step c.args.found
    c.args.stamp
    c.self.invariant (rw (← c.self.view_is) at c.requires.step.found) (rw (← c.self.view_is) at c.requires.step.shown)
    c.in_ok-learn_at-in-Some.ensures.learned.knows c.in-Some.first c.args.call c.push_reserved-in-Some-2.new.self.items
    (rw (← c.self.view_is) at c.requires.ahead ∙ c.in-Some.is) (rw (← c.self.view_is) at c.requires.call)
    (c.push_reserved-in-Some-2.ensures.items ∙ ap (λ calls. calls ++ c.args.call ∷ []) (c.push_reserved-in-Some.ensures.items ∙ ap (λ calls. calls ++ c.in-Some.first ∷ []) c.in_ok-reserve-in-Some.ensures.items)))
