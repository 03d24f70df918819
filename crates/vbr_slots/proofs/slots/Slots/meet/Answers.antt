use Rattle.std.proofs.Common.{sym, ap, ◌∙◌}
use Rattle.vbr_slots.specs.declared.pass.Pass.TheInside.{Inside}
use Rattle.vbr_slots.specs.views.Views.{counted_steps, steps_of}
use Rattle.vbr_slots.proofs.steps.Calls.{count_on, did_took}
use Rattle.vbr_slots.proofs.steps.Steppers.{stays_well}
use Rattle.vbr_slots.proofs.slots.Slots.meet.Goals as goal

pub invariant_of-pass-inside : goal.invariant_of-pass-inside
invariant_of-pass-inside g c = stays_well _ c.meet_as.ensures.step tt c.pass-inside.invariant

pub invariant_of-pass : goal.invariant_of-pass
invariant_of-pass g c =
    let shown = c.pass-inside.view_is in
    let before =
    ap (λ (p : Inside). p.steps) shown ∙ c.pass.invariant.steps
    ∙ sym (ap (λ (p : Inside). counted_steps (steps_of p.stepper.trace)) shown) in
    record { steps = count_on _ _ 1 before c.steps_after-pass-inside-inside.ensures (did_took c.meet_as.ensures.step) }
