use Rattle.std.proofs.Common.{ℕ, ◌≤◌, List, length, Some, refl, sym, ap, ◌∙◌, subst, inr}
use Rattle.vbr_machine.specs.declared.event.Step.TheVariants.{Raise}
use Rattle.vbr_slots.specs.views.Views.{Did}
use Rattle.vbr_slots.proofs.Lemmas.{did_quiet}
use Rattle.vbr_set.proofs.held_slots.HeldCalls.{pool_without}
use Rattle.vbr_set.proofs.set.VbrSet.let_go.Goals as goal

pub returns-else-pool-lt-POOL-clause-comes_back : goal.returns-else-pool-lt-POOL-clause-comes_back
returns-else-pool-lt-POOL-clause-comes_back g c =
    let p = c.args.pass.now in
    let q = c.raise.new.pass in
    let S : ℕ → Type 0 = λ slot. (found : ℕ) × Did (Raise slot) p.trace q.trace found in
    inr (
      subst (λ (l : List ℕ). 64 ≤ length l) c.pool.ensures.pool c.if-pool-lt-POOL.false,
      subst S c.slot.ensures c.raise.ensures.step,
      c.raise.ensures.pool
          ∙ pool_without p c.slot.result c.law.ensures (c.requires.hand.slot ∙ ap Some (sym c.slot.ensures)),
    )

pub returns-else-pool-lt-POOL-clause-quiet : goal.returns-else-pool-lt-POOL-clause-quiet
returns-else-pool-lt-POOL-clause-quiet g c = did_quiet c.raise.ensures.step.1 (λ know. refl)
