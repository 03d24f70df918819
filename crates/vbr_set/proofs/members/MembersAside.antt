-- The slot that a member has put aside stays the pass's, from call to call.
use Rattle.std.proofs.Common.{◌≡◌, ℕ, ◌<◌, Option, Some, None, refl, sym, ap, ◌∙◌, subst}
use Rattle.vbr_machine.specs.Start.{Start}
use Rattle.vbr_machine.specs.Acceptance.{IsInHand}
use Rattle.vbr_machine.specs.Knowledge.{Know}
use Rattle.vbr_machine.specs.Learning.{birth_in_hand}
use Rattle.vbr_machine.specs.declared.event.Step.TheVariants.{ReadEpoch}
use Rattle.vbr_slots.specs.views.Views.{Did, KeepsPool, PassView, knows}
use Rattle.vbr_at_table.specs.hands.Aside.{HasAside}
use Rattle.vbr_at_table.specs.declared.aside.Aside.{Aside}
use Rattle.vbr_at_table.proofs.Lemmas.{did_none, kept_aside, pool_aside}

-- where two passes have met, and where one caught up with a token
pub met_aside : (p q : PassView) (aside : Option Aside) (epoch : ℕ) → Did ReadEpoch p.trace q.trace epoch →
    KeepsPool p q → HasAside p aside → HasAside q aside
met_aside p q aside epoch did pool has =
    kept_aside p q aside (did_none did refl tt pool).kept.aside did.same.1 has

pub caught_aside : (p q : PassView) (aside : Option Aside) → knows q.trace ≡ knows p.trace → KeepsPool p q →
    q.trace.start ≡ p.trace.start → HasAside p aside → HasAside q aside
caught_aside p q None know pool same has = tt
caught_aside p q (Some aside) know pool same has = record {
  low = subst (λ (start : Start). aside.slot < start.shape.slots) (sym same) has.low;
  is = (
    subst (λ (k : Know). IsInHand (k.own aside.slot)) (sym know) has.is.0,
    pool_aside p q pool aside.slot has.is.1,
  );
  given = ap (λ (k : Know). birth_in_hand (k.own aside.slot)) know ∙ has.given;
}
