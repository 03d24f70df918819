-- A birth in a slot of the own pool.
use Rattle.std.proofs.Common.{◌≡◌, ◌≢◌, ℕ, ◌+◌, ◌<◌, ◌≤◌, Contains, List, length, get_or, Option, Some, None, refl, sym}
use Rattle.std.proofs.Common.{ap, ◌∙◌, subst, inl, inr, ⊎_elim, arith}
use Rattle.std.specs.Prelude.{AllPairs}
use Rattle.std.proofs.lemmas.Bool.{cases_eq}
use Rattle.std.proofs.lemmas.List.Elements.{Contains-get_or}
use Rattle.vbr_machine.specs.Acceptance.{MayBear, stamp_in}
use Rattle.vbr_machine.specs.Knowledge.{Know}
use Rattle.vbr_machine.specs.Learning.{newborn, birth_in_hand}
use Rattle.vbr_machine.specs.declared.event.Step.TheVariants.{StoreBirth}
use Rattle.vbr_machine.specs.declared.knowledge.Holding.{Holding}
use Rattle.vbr_machine.specs.declared.knowledge.Holding.TheVariants.{InHand}
use Rattle.vbr_machine.proofs.Lemmas.{put_here, put_other}
use Rattle.vbr_slots.specs.pools.Pools.{without}
use Rattle.vbr_slots.specs.views.Views.{PassView, Did, knows}
use Rattle.vbr_slots.proofs.Lemmas.{did_quiet}
use Rattle.vbr_at_table.specs.hands.Hands.{HandView}
use Rattle.vbr_at_table.specs.pools.Pieces.{BearsNone, IsBorn, IsStampedBelow}
use Rattle.vbr_at_table.specs.hands.KeptSlots.{HasSlot, HasFree}
use Rattle.vbr_at_table.specs.declared.budget.TheConstants.{PIECE}
use Rattle.vbr_at_table.specs.declared.refusal.Refusal.TheVariants.{OutOfSteps}
use Rattle.vbr_at_table.proofs.returns.InTurn.{did_turn}
use Rattle.vbr_at_table.proofs.epochs.Advancing.{did_stamps, nobody, same_advances, same_flags, same_tries}
use Rattle.vbr_at_table.proofs.steps.Counting.{counts_none, counts_one}
use Rattle.vbr_at_table.proofs.flags.FlagsInNeed.{wins_none}
use Rattle.vbr_at_table.proofs.own_slots.SlotsAside.{keeps_aside, same_slot}
use Rattle.vbr_at_table.proofs.own_slots.PoolLists.{left_in, stays_in, without_one, without_shorter}

module _ (p q : PassView) (slot : ℕ)
    (d : Did (StoreBirth slot (knows p.trace).epoch) p.trace q.trace (knows p.trace).epoch) where
  abbrev born : Option Holding
  born = Some (InHand (newborn (stamp_in ((knows p.trace).own slot)) (knows p.trace).epoch))

  own_here : (knows q.trace).own slot ≡ born
  own_here = ap (λ (k : Know). k.own slot) d.know ∙ put_here (knows p.trace).own slot born

  pub epoch_born : (knows q.trace).epoch ≡ (knows p.trace).epoch
  epoch_born = ap (λ (k : Know). k.epoch) d.know

  -- the stamps that the pass knows stay
  stamps_stay : (s : ℕ) → stamp_in ((knows q.trace).own s) ≡ stamp_in ((knows p.trace).own s)
  stamps_stay s =
      ⊎_elim (λ (is : s ≡ slot).
      ap (λ (i : ℕ). stamp_in ((knows q.trace).own i)) is ∙ ap stamp_in own_here
      ∙ ap (λ (i : ℕ). stamp_in ((knows p.trace).own i)) (sym is))
      (λ (other : s ≢ slot).
      ap (λ (k : Know). stamp_in (k.own s)) d.know ∙ ap stamp_in (put_other (knows p.trace).own slot born s other))
      (cases_eq s slot)

  -- the slot goes from the pool into the hand, and the others stay
  free_born : p.hand ≡ None → q.pool ≡ without slot p.pool → q.hand ≡ Some slot → HasFree p q
  free_born empty pool in_hand s h =
      ⊎_elim (λ (is : s ≡ slot). inr (in_hand ∙ ap Some (sym is)))
      (λ (other : s ≢ slot).
      stays other (h.1
      (subst MayBear (ap (λ (k : Know). k.own s) d.know ∙ put_other (knows p.trace).own slot born s other) h.0)))
      (cases_eq s slot)
    where
      stays : s ≢ slot → HasSlot p s → HasSlot q s
      stays other (inl c) = inl (subst (λ (l : List ℕ). Contains l s) (sym pool) (stays_in slot p.pool s other c))
      stays other (inr e) = nobody p.hand s empty e

  outside_born : Contains p.pool slot → q.pool ≡ without slot p.pool → q.hand ≡ Some slot → (s : ℕ) →
      ¬ (HasSlot p s) → ¬ (HasSlot q s)
  outside_born there pool in_hand s none (inl c) =
      none (inl (left_in slot p.pool s (subst (λ (l : List ℕ). Contains l s) pool c)))
  outside_born there pool in_hand s none (inr h) =
      none (inl (subst (Contains p.pool) (same_slot (sym in_hand ∙ h)) there))

  pub is_born : (budget used index : ℕ) (hand : HandView) → p.hand ≡ None →
      IsStampedBelow p (knows p.trace).epoch (Some (index, slot)) → used + PIECE ≤ budget → length p.pool ≤ 64 →
      AllPairs ◌≢◌ p.pool → q.pool ≡ without slot p.pool → q.hand ≡ Some slot →
      hand ≡ record { slot = slot; birth = (knows q.trace).epoch } → IsBorn p q slot budget used (hand, used + 1)
  is_born budget used index hand empty below room most apart pool in_hand is =
      let there : Contains p.pool slot = subst (Contains p.pool) below.1 (Contains-get_or p.pool index 0 below.0) in
      subst (λ (h : HandView). IsBorn p q slot budget used (h, used + 1)) (sym is) (record {
        uses = record { counts = counts_one used d; within = omega arith; at_most = omega arith };
        sum = refl;
        slot = refl;
        births = record {
          in_hand = record { slot = in_hand; birth = ap birth_in_hand own_here ∙ sym epoch_born };
          birth = refl;
          above = (let s = stamps_stay slot in let e = epoch_born in let b = below.2 in omega arith);
          rest = pool;
          room = (let less = without_shorter slot p.pool there in let e = ap length pool in omega arith);
        };
        oldest = record {
          place = below.3.place;
          low = below.3.low;
          is = below.3.is;
          before = λ k less.
              (let s = stamps_stay (get_or p.pool k 0) in
              let e = epoch_born in
              let b = below.3.before k less in
              omega arith);
        };
        leaves = record {
          quiet = did_quiet d (λ know. refl);
          kept = record {
            free = free_born empty pool in_hand;
            stamped = did_stamps d refl;
            turn = did_turn d;
            aside = keeps_aside d (inl there) (outside_born there pool in_hand);
          };
          one = (let few = without_one slot p.pool apart in let e = ap length pool in omega arith);
          flags = same_flags d refl;
          tries = same_tries d refl;
          wins = wins_none d refl refl;
          advances = same_advances d refl;
        };
      })

-- or the budget has no room for one
pub bears_none : (p : PassView) (budget used : ℕ) → used ≤ budget → budget < used + PIECE →
    BearsNone p p budget used (OutOfSteps used, used)
bears_none p budget used within short = record {
  same = refl;
  short = record {
    uses = record { counts = counts_none p.trace used; within = within; at_most = omega arith };
    why = refl;
    short = short;
  };
}
