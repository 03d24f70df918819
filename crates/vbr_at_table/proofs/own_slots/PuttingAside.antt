-- A slot is put aside, stays so, and is taken up.
use Rattle.std.proofs.Common.{◌≡◌, ℕ, ◌<◌, Option, Some, None, List, sym, ap, ◌∙◌, subst, inl, inr}
use Rattle.std.specs.Prelude.{Contains}
use Rattle.vbr_machine.specs.Start.{Start}
use Rattle.vbr_machine.specs.Acceptance.{IsInHand}
use Rattle.vbr_machine.specs.Learning.{birth_in_hand}
use Rattle.vbr_slots.specs.steps.PassLaw.{PassLaw}
use Rattle.vbr_slots.specs.pools.Pools.{HandFits}
use Rattle.vbr_slots.specs.views.Views.{PassView, Trace, knows}
use Rattle.vbr_at_table.specs.hands.Aside.{HasAside, IsPutAside}
use Rattle.vbr_at_table.specs.hands.Hands.{HandView, IsHandOf}
use Rattle.vbr_at_table.specs.hands.KeptSlots.{HasSlot, KeepsAside}
use Rattle.vbr_at_table.specs.declared.aside.Aside.{Aside}

pub puts_aside : (p q : PassView) (hand : HandView) (aside : Aside) → PassLaw p → IsHandOf p hand →
    q.trace ≡ p.trace → q.pool ≡ p.pool → q.hand ≡ None → aside.slot ≡ hand.slot → aside.birth ≡ hand.birth →
    IsPutAside q aside
puts_aside p q hand aside law is same pool empty slot birth =
    let P : Option ℕ → Type 0 = HandFits p.trace.start (knows p.trace) p.pool in
    let fits = subst P (is.slot ∙ ap Some (sym slot)) law.own.in_hand in
    record {
      low = subst (λ (t : Trace). aside.slot < t.start.shape.slots) (sym same) fits.0;
      is = (
        subst (λ (t : Trace). IsInHand ((knows t).own aside.slot)) (sym same) fits.1,
        outside fits.2,
      );
      given = ap (λ (t : Trace). birth_in_hand ((knows t).own aside.slot)) same
          ∙ ap (λ (s : ℕ). birth_in_hand ((knows p.trace).own s)) slot ∙ is.birth ∙ sym birth;
    }
  where
    outside : ¬ (Contains p.pool aside.slot) → ¬ (HasSlot q aside.slot)
    outside none (inl c) = none (subst (λ (l : List ℕ). Contains l aside.slot) pool c)
    outside none (inr h) = absurd (cc)

-- it stays so through what keeps slots
pub kept_aside : (p q : PassView) (aside : Option Aside) → KeepsAside p q → q.trace.start ≡ p.trace.start →
    HasAside p aside → HasAside q aside
kept_aside p q None keeps same has = tt
kept_aside p q (Some aside) keeps same has =
    let stays = keeps aside.slot has.is in
    record {
      low = subst (λ (start : Start). aside.slot < start.shape.slots) (sym same) has.low;
      is = (subst IsInHand (sym stays.known) has.is.0, stays.outside);
      given = ap birth_in_hand stays.known ∙ has.given;
    }
