-- A free slot isn't in hand.
use Rattle.std.proofs.Common.{sym, ap, ◌∙◌, inl}
use Rattle.vbr_slots.specs.pools.Pools.{hand_without}
use Rattle.vbr_slots.specs.views.Views.{PassView}
use Rattle.vbr_slots.proofs.pools.Pools.{hand_alone, hand_stays, pool_kept}
use Rattle.vbr_slots.proofs.at_table.AtTable.keep_free.Goals as goal

pub invariant_of-stepper : goal.invariant_of-stepper
invariant_of-stepper g c =
    let still = ap (λ (v : PassView). v.hand) c.stepper.view_is
    ∙ sym (hand_stays c.args.slot _ (λ is. (hand_alone _ _ c.args.slot _ _ c.law.ensures.own is).0 c.requires.free)) in
    record {
      start = c.stepper.invariant.start;
      pool = pool_kept c.args.slot c.stepper.view_is c.stepper.invariant.pool c.requires.slot (inl c.requires.free)
          c.requires.outside c.push.ensures.items
          (still ∙ sym (ap (λ (v : PassView). hand_without c.args.slot v.hand) c.stepper.view_is));
      tried = c.stepper.invariant.tried;
      low = c.stepper.invariant.low;
    }
