-- An unlinking: won, it gives the pass the slot to stamp; lost, it leaves all as it was.
use Rattle.std.proofs.Common.{◌≡◌, ◌≢◌, ℕ, false, Some, refl, sym, ap, ◌∙◌, subst, inl, ⊎_elim}
use Rattle.std.proofs.lemmas.Bool.{cases_eq}
use Rattle.vbr_words.specs.declared.place.At.{At}
use Rattle.vbr_machine.specs.Start.{IsStart}
use Rattle.vbr_machine.specs.Acceptance.{Accepts, IsInHand, IsUnlinked, MayBear}
use Rattle.vbr_machine.specs.Knowledge.{Know}
use Rattle.vbr_machine.specs.declared.event.Step.TheVariants.{Unlink}
use Rattle.vbr_machine.specs.declared.knowledge.Holding.TheVariants.{Unlinked}
use Rattle.vbr_machine.proofs.Lemmas.{put_other}
use Rattle.vbr_slots.specs.views.Views.{PassView, Did, KeepsPool, knows}
use Rattle.vbr_at_table.specs.hands.KeptSlots.{StaysInTurn, TakesNoSlot}
use Rattle.vbr_slots.proofs.Lemmas.{unlinked_new}
use Rattle.vbr_at_table.specs.costs.StepKinds.{bears_in}
use Rattle.vbr_at_table.proofs.returns.InTurn.{did_turn}
use Rattle.vbr_at_table.proofs.own_slots.SlotsAside.{aside_on, did_aside, pool_aside, same_slot}
use Rattle.vbr_at_table.proofs.steps.StepCounts.{same_made}
use Rattle.vbr_at_table.proofs.epochs.Advancing.{free_on, free_pool, grows_on, grows_same, longer, none_known}
use Rattle.vbr_at_table.proofs.epochs.Advancing.{same_advances}
use Rattle.vbr_at_table.proofs.epochs.Advancing.{same_flags, same_tries, shared_on}
use Rattle.vbr_at_table.specs.reads.KeptKnowledge.{KeepsUnlinked}
use Rattle.vbr_at_table.proofs.flags.FlagsInNeed.{wins_none, wins_none_on}
use Rattle.vbr_at_table.proofs.exchanges.WonExchanges.{unlink_learned, unlink_lost_same, unlink_owns}

pub lost_none : {p q : PassView} {pred : At} {expected slot found : ℕ} →
    Did (Unlink pred expected slot) p.trace q.trace found → found ≢ expected → KeepsPool p q → TakesNoSlot p q
lost_none {p} {q} d other pool =
    none_known (same_advances d refl) (same_flags d refl) (same_tries d refl) (wins_none d refl refl) pool (did_turn d)
    (unlink_lost_same d other) (λ s. same_made (bears_in s) d refl)

pub won_unlinks : {p q : PassView} {pred : At} {expected slot : ℕ} →
    IsStart p.trace.start → Accepts p.trace.start (knows p.trace) (Unlink pred expected slot) →
    Did (Unlink pred expected slot) p.trace q.trace expected → KeepsPool p q → KeepsUnlinked slot p q
won_unlinks {p} {q} {pred} {expected} {slot} start ok d pool = record {
  count = same_advances d refl;
  free = free_pool p q pool
      (λ s m. ⊎_elim (λ (is : s ≡ slot). absurd (subst MayBear (ap (knows q.trace).own is ∙ unlink_owns d) m))
      (λ (other : s ≢ slot). subst MayBear (stays s other) m) (cases_eq s slot));
  others = λ s other u. subst IsUnlinked (stays s other) u;
  turn = did_turn d;
  aside = λ s a. did_aside d s a.0 (λ e. not_of_it s (same_slot e) a.0) (pool_aside p q pool s a.1);
  grows = grows_same p q pool.0;
  shared = inl (same_flags d refl);
  tries = same_tries d refl;
  wins = wins_none d refl refl;
}
  where
    -- a slot that is unlinked was in no hand
    not_of_it : (s : ℕ) → slot ≡ s → ¬ (IsInHand ((knows p.trace).own s))
    not_of_it s is held =
        subst IsInHand (unlinked_new p.trace q.trace pred expected slot expected start ok d refl)
        (subst (λ (t : ℕ). IsInHand ((knows p.trace).own t)) (sym is) held)

    stays : (s : ℕ) → s ≢ slot → (knows q.trace).own s ≡ (knows p.trace).own s
    stays s other = ap (λ (k : Know). k.own s) (unlink_learned d)
        ∙ put_other (knows p.trace).own slot (Some (Unlinked false)) s other

-- what was done before the unlinking
pub unlinks_on : {slot : ℕ} (p q r : PassView) → TakesNoSlot p q → KeepsUnlinked slot q r → KeepsUnlinked slot p r
unlinks_on p q r a b = record {
  count = b.count ∙ a.count;
  free = free_on p q r a.kept.free b.free;
  others = λ s other u. a.kept.stamped s (b.others s other u);
  turn = λ all turn. b.turn (λ s u. all s (a.kept.stamped s u)) (a.kept.turn all turn);
  aside = aside_on p q r a.kept.aside b.aside;
  grows = grows_on p q r a.grows b.grows;
  shared = shared_on p q r 1 a.shared (longer q r b.grows) b.shared;
  tries = b.tries ∙ a.tries;
  wins = wins_none_on a.wins b.wins;
}

-- once the slot is stamped, none is lost
pub unlinks_none : {slot : ℕ} (p q r : PassView) → KeepsUnlinked slot p q → TakesNoSlot q r →
    StaysInTurn q.trace r.trace → ¬ (IsUnlinked ((knows r.trace).own slot)) → TakesNoSlot p r
unlinks_none {slot} p q r a b turn stamped = record {
  count = b.count ∙ a.count;
  kept = record {
    free = free_on p q r a.free b.kept.free;
    stamped = λ s u.
        ⊎_elim (λ (is : s ≡ slot). absurd (stamped (subst (λ (t : ℕ). IsUnlinked ((knows r.trace).own t)) is u)))
        (λ (other : s ≢ slot). a.others s other (b.kept.stamped s u)) (cases_eq s slot);
    turn = λ all before. turn (a.turn all before);
    aside = aside_on p q r a.aside b.kept.aside;
  };
  grows = grows_on p q r a.grows b.grows;
  shared = shared_on p q r 1 a.shared (longer q r b.grows) b.shared;
  tries = b.tries ∙ a.tries;
  wins = wins_none_on a.wins b.wins;
}
