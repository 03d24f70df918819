-- A slot that a pass retires alone leaves the lists as they were, and the epoch that was read.
use Rattle.std.proofs.Common.{ℕ, refl, sym, ◌∙◌}
use Rattle.vbr_machine.specs.Start.{IsStart}
use Rattle.vbr_machine.specs.declared.event.Step.TheVariants.{ReadEpoch, StoreStamp, Raise}
use Rattle.vbr_slots.specs.steps.Alone.{IsAlone, IsFresh, LeavesLists}
use Rattle.vbr_slots.specs.views.Views.{Trace, Did, knows}
use Rattle.vbr_slots.proofs.Lemmas.{alone_three, alone_two, epoch_now, leaves_on, looks, raise_leaves_lists}
use Rattle.vbr_slots.proofs.Lemmas.{same_leaves, stamp_leaves_lists}
use Rattle.vbr_at_table.proofs.reads.ReadSteps.{shape_on}
use Rattle.vbr_at_table.proofs.reads.Shown.{epoch_told}

module _ {p q r : Trace} {slot e n : ℕ} (is : IsStart p.start) (read : Did ReadEpoch p q e)
    (stamp : Did (StoreStamp slot (knows q).epoch) q r n) where
  pub retired_leaves : IsAlone p r → LeavesLists p r
  retired_leaves alone =
      let parts = alone_two read stamp alone in
      leaves_on (same_leaves p q read.same.1 (looks read parts.0 (λ w a. refl)))
      (stamp_leaves_lists (shape_on read is) stamp parts.1)

  pub retired_fresh : IsAlone p r → IsFresh r
  retired_fresh alone =
      let parts = alone_two read stamp alone in
      (retired_leaves alone).epoch ∙ sym (epoch_now is read parts.0) ∙ sym (epoch_told read) ∙ sym (epoch_told stamp)

  module _ {t : Trace} {m : ℕ} (raise : Did (Raise slot) r t m) where
    pub raised_leaves : IsAlone p t → LeavesLists p t
    raised_leaves alone =
        let parts = alone_three read stamp raise alone in
        leaves_on (same_leaves p q read.same.1 (looks read parts.0 (λ w a. refl)))
        (leaves_on (stamp_leaves_lists (shape_on read is) stamp parts.1)
        (raise_leaves_lists (shape_on stamp (shape_on read is)) raise parts.2))

    pub raised_fresh : IsAlone p t → IsFresh t
    raised_fresh alone =
        let parts = alone_three read stamp raise alone in
        (raised_leaves alone).epoch ∙ sym (epoch_now is read parts.0) ∙ sym (epoch_told read) ∙ sym (epoch_told stamp)
        ∙ sym (epoch_told raise)
