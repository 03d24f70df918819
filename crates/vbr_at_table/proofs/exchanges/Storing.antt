-- Steps that store or exchange, one after another, as what a call tells that stores.
use Rattle.std.proofs.Common.{◌≡◌, ℕ, ◌+◌, false, ◌∙◌}
use Rattle.vbr_machine.specs.declared.event.Step.{Step}
use Rattle.vbr_slots.specs.steps.Expected.{FindsOther}
use Rattle.vbr_slots.specs.views.Views.{Did, PassView, knows}
use Rattle.vbr_slots.proofs.Lemmas.{did_took, took_on}
use Rattle.vbr_at_table.specs.answers.Exchanges.{StoresIn}
use Rattle.vbr_at_table.specs.reads.KeptKnowledge.{Keeps}
use Rattle.vbr_at_table.specs.hands.KeptSlots.{TakesNoSlot}
use Rattle.vbr_at_table.proofs.epochs.Advancing.{advances_or_gives, did_none, none_on}
use Rattle.vbr_at_table.proofs.reads.KeptKnowledge.{keeps_on}
use Rattle.vbr_at_table.proofs.own_slots.SlotsAside.{HasHandled, handled}

pub stores_one : {p q : PassView} {step : Step} {r : ℕ} → Did step p.trace q.trace r →
    Keeps (knows p.trace) (knows q.trace) → q.pool ≡ p.pool → TakesNoSlot p q → StoresIn p q 1
stores_one d keeps pool none = record { took = did_took d; keeps = keeps; pool = pool; takes_no_slot = none }

pub stores_on : {p q r : PassView} (m n : ℕ) → StoresIn p q m → StoresIn q r n → StoresIn p r (m + n)
stores_on m n x y = record {
  took = took_on m n x.took y.took;
  keeps = keeps_on x.keeps y.keeps;
  pool = y.pool ∙ x.pool;
  takes_no_slot = none_on x.takes_no_slot y.takes_no_slot;
}

-- one more step, the last
pub stores_last : {p q r : PassView} {m : ℕ} {step : Step} {found : ℕ} → StoresIn p q m →
    Did step q.trace r.trace found → Keeps (knows q.trace) (knows r.trace) → r.pool ≡ q.pool → TakesNoSlot q r →
    StoresIn p r (m + 1)
stores_last {m = m} x d keeps pool none = stores_on m 1 x (stores_one d keeps pool none)

-- or one that is lost
pub stores_lost : {p q r : PassView} {m expected found : ℕ} {step : Step} → StoresIn p q m →
    FindsOther step q r expected found → advances_or_gives step ≡ false → HasHandled q (handled step) →
    Keeps (knows q.trace) (knows r.trace) → StoresIn p r (m + 1)
stores_lost x other e has keeps = stores_last x other.did keeps other.keeps.0 (did_none other.did e has other.keeps)
