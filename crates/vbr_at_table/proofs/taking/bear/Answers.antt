use Rattle.std.proofs.Common.{◌≡◌, sym, ap, ◌∙◌}
use Rattle.vbr_at_table.proofs.own_slots.Births.{bears_none, epoch_born, is_born}
use Rattle.vbr_at_table.proofs.steps.Counting.{no_room}
use Rattle.vbr_at_table.proofs.taking.bear.Goals as goal

pub returns-then-not-affords-clause-none : goal.returns-then-not-affords-clause-none
returns-then-not-affords-clause-none g c =
    bears_none c.args.at.now.stepper.now c.args.budget c.args.used c.requires.within
    (no_room _ _ c.affords.result c.if-not-affords.true c.affords.ensures.1)

pub returns-clause-born : goal.returns-clause-born
returns-clause-born g c =
    let hand : c.of.result ≡ record { slot = c.args.place.1; birth = _ } =
    c.of.ensures ∙ ap (λ e. record { slot = c.args.place.1; birth = e })
    (c.store_birth_at-birth.ensures.birth
    ∙ sym (epoch_born c.args.at.now.stepper.now c.store_birth_at-birth.new.self.stepper.now c.args.place.1
    c.store_birth_at-birth.ensures.step.did)) in
    is_born c.args.at.now.stepper.now c.store_birth_at-birth.new.self.stepper.now c.args.place.1
    c.store_birth_at-birth.ensures.step.did c.args.budget c.args.used c.args.place.0 c.of.result c.requires.empty_hand
    c.requires.below (c.affords.ensures.0 c.if-not-affords.false) c.law.ensures.room c.law.ensures.own.apart
    c.store_birth_at-birth.ensures.step.pool c.store_birth_at-birth.ensures.step.hand hand
