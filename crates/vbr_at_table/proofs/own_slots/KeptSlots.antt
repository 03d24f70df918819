-- The slots of a pass stay its own while the one in hand is filled and published.
use Rattle.std.proofs.Common.{◌≡◌, ◌≢◌, ℕ, ◌+◌, List, Some, None, refl, sym, ap, ◌∙◌, subst, inl, inr, ⊎_elim}
use Rattle.std.specs.Prelude.{Contains}
use Rattle.std.proofs.lemmas.Bool.{cases_eq}
use Rattle.vbr_words.specs.declared.place.At.{At}
use Rattle.vbr_machine.specs.Acceptance.{MayBear}
use Rattle.vbr_machine.specs.Knowledge.{Know}
use Rattle.vbr_machine.specs.Put.{put}
use Rattle.vbr_machine.specs.declared.event.Step.TheVariants.{Publish}
use Rattle.vbr_machine.proofs.Lemmas.{put_here, put_other}
use Rattle.vbr_slots.specs.steps.Expected.{Publishes}
use Rattle.vbr_slots.specs.views.Views.{PassView, Did, knows}
use Rattle.vbr_at_table.specs.answers.Exchanges.{StoresIn}
use Rattle.vbr_at_table.specs.hands.KeptSlots.{HasSlot, HasFree, TakesNoSlot}
use Rattle.vbr_at_table.proofs.epochs.Advancing.{did_free}
use Rattle.vbr_at_table.proofs.exchanges.WonExchanges.{publish_keeps, publish_learned}
use Rattle.vbr_at_table.proofs.own_slots.SlotsAside.{keeps_aside, spent_aside}
use Rattle.vbr_at_table.proofs.exchanges.Storing.{stores_last}

-- where the slot in hand goes out of it, the others stay
pub spent_kept : (p q : PassView) (slot : ℕ) → ((s : ℕ) → (knows q.trace).own s ≡ put (knows p.trace).own slot None s) →
    p.hand ≡ Some slot → q.pool ≡ p.pool → HasFree p q
spent_kept p q slot own hand pool s h =
    let may : MayBear (put (knows p.trace).own slot None s) = subst MayBear (own s) h.0 in
    ⊎_elim (λ (is : s ≡ slot).
    absurd (subst MayBear (ap (put (knows p.trace).own slot None) is ∙ put_here (knows p.trace).own slot None) may))
    (λ (other : s ≢ slot). stays other (h.1 (subst MayBear (put_other (knows p.trace).own slot None s other) may)))
    (cases_eq s slot)
  where
    stays : s ≢ slot → HasSlot p s → HasSlot q s
    stays other (inl c) = inl (subst (λ (l : List ℕ). Contains l s) (sym pool) c)
    stays other (inr e) = let same : s ≡ slot = cc in absurd (other same)

-- so it is of the slot that is published
publish_none : (p q : PassView) {pred : At} {expected slot : ℕ} →
    Did (Publish pred expected slot) p.trace q.trace expected → p.hand ≡ Some slot → q.pool ≡ p.pool →
    q.hand ≡ None → TakesNoSlot p q
publish_none p q {slot = slot} d hand pool spent =
    did_free d refl pool (spent_kept p q slot (λ s. ap (λ (k : Know). k.own s) (publish_learned d)) hand pool)
    (keeps_aside d (inr hand) (spent_aside p q pool spent))

-- and a call that stores ends with it
pub publish_stores : {p q r : PassView} {m expected slot : ℕ} {pred : At} → StoresIn p q m →
    Publishes pred expected slot q r → q.hand ≡ Some slot → StoresIn p r (m + 1)
publish_stores {q = q} {r = r} stores found hand =
    stores_last stores found.did (publish_keeps found.did) found.pool
    (publish_none q r found.did hand found.pool found.hand)
