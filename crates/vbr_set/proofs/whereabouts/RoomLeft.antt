-- Where a lone insert finds no slot, none is in the shared pool, and its own pass has none.
use Rattle.std.proofs.Common.{◌≡◌, ◌≢◌, ℕ, ◌+◌, ◌<◌, ◌==◌, ◌&&◌, Bool, true, cond, List, [], ◌∷◌, ◌++◌, Option}
use Rattle.std.proofs.Common.{Some, None, arith, sym, subst, ap, ◌∙◌, append_assoc, eq-eqb, inl, inr}
use Rattle.std.specs.Prelude.{Contains, count_by}
use Rattle.std.proofs.lemmas.Bool.{false_from_ne_true, false≢true}
use Rattle.std.proofs.lemmas.List.{append_cancel_left}
use Rattle.std.proofs.lemmas.List.Sums.{sum_by-append}
use Rattle.vbr_machine.specs.Acceptance.{IsUnlinked, MayBear}
use Rattle.vbr_machine.specs.Runs.{world_after}
use Rattle.vbr_machine.specs.Whereabouts.{InSharedPool, Unstamped, WithPass, is_at, is_unstamped, may_bear, number_at}
use Rattle.vbr_machine.specs.Whereabouts.{number_had}
use Rattle.vbr_machine.specs.declared.event.Event.{Event}
use Rattle.vbr_machine.specs.declared.event.Step.{Step}
use Rattle.vbr_machine.specs.declared.knowledge.Holding.{Holding}
use Rattle.vbr_machine.specs.declared.knowledge.Holding.TheVariants.{Free, Unlinked, InHand}
use Rattle.vbr_machine.specs.declared.knowledge.SlotPlace.TheVariants.{Shared}
use Rattle.vbr_machine.proofs.Lemmas.{IsRaise, NoneRaises, count_none, none_shared, stays_outside}
use Rattle.vbr_slots.specs.steps.Alone.{IsAlone, OnlyEventsOf}
use Rattle.vbr_slots.specs.views.Views.{PassView, Trace, knows}
use Rattle.vbr_at_table.specs.costs.StepKinds.{flags_raised, is_raise}
use Rattle.vbr_at_table.specs.hands.KeptSlots.{HasSlot}
use Rattle.vbr_at_table.specs.pools.SharedPool.{WasOutside}
use Rattle.vbr_set.specs.whereabouts.Room.{HasAllSlots}

-- ---- a pass that was alone, and raised no flag

-- the flags that a pass raised among these events
abbrev raised_in : ℕ → List Event → ℕ
raised_in who events = count_by (λ (e : Event). (e.pass == who) && is_raise e.step) events

both : (who : ℕ) (xs ys : List Event) → raised_in who (xs ++ ys) ≡ raised_in who xs + raised_in who ys
both who xs ys = sum_by-append (λ (e : Event). cond ((e.pass == who) && is_raise e.step) 1 0) xs ys

raise_counts : (step : Step) → IsRaise step → is_raise step ≡ true
raise_counts step is = grind arith

one_raises : (who : ℕ) (event : Event) → event.pass ≡ who → raised_in who (event ∷ []) ≡ 0 → IsRaise event.step → ⊥
one_raises who event e none is =
    let x : raised_in who (event ∷ []) ≡ 1 =
    ap (λ (b : Bool). 0 + cond (b && is_raise event.step) 1 0) (eq-eqb event.pass who e)
    ∙ ap (λ (b : Bool). 0 + cond b 1 0) (raise_counts event.step is) in
    omega arith

none_raised : (who : ℕ) (own : List Event) → OnlyEventsOf who own → raised_in who own ≡ 0 → NoneRaises own
none_raised who [] each none = tt
none_raised who (event ∷ own) each none =
    let sum = both who (event ∷ []) own in
    (one_raises who event each.0 (omega arith), none_raised who own each.1 (omega arith))

none_behind : (xs ys : List Event) → NoneRaises (xs ++ ys) → NoneRaises ys
none_behind [] ys none = none
none_behind (x ∷ xs) ys none = none_behind xs ys none.1

module _ {p q : Trace} (alone : IsAlone p q) (who : q.who ≡ p.who) (same : flags_raised q ≡ flags_raised p) where
  own_raised : NoneRaises alone.own
  own_raised = none_raised p.who alone.own alone.each none
    where
      all : raised_in p.who q.seen ≡ raised_in p.who p.seen
      all = ap (λ (w : ℕ). raised_in w q.seen) (sym who) ∙ same

      none : raised_in p.who alone.own ≡ 0
      none = let was = all in let sum = ap (raised_in p.who) alone.seen ∙ both p.who p.seen alone.own in omega arith

  -- what was outside the shared pool at a moment is outside at the end
  outside_now : (slot : ℕ) → WasOutside p q slot → (world_after p.start q.seen).place slot ≢ Shared
  outside_now slot was =
      subst P (sym was.is.to.1) (stays_outside p.start was.moment was.is.to.0 slot behind was.outside)
    where
      P : List Event → Type 0
      P run = (world_after p.start run).place slot ≢ Shared

      own : alone.own ≡ was.is.from.0 ++ was.is.to.0
      own = append_cancel_left p.seen alone.own (was.is.from.0 ++ was.is.to.0)
          (sym alone.seen ∙ was.is.to.1 ∙ ap (λ (l : List Event). l ++ was.is.to.0) was.is.from.1
          ∙ append_assoc p.seen was.is.from.0 was.is.to.0)

      behind : NoneRaises was.is.to.0
      behind = none_behind was.is.from.0 was.is.to.0 (subst NoneRaises own own_raised)

  pub none_in_shared_pool : ((slot : ℕ) → slot < p.start.shape.slots → WasOutside p q slot) →
      number_at p.start q.seen InSharedPool ≡ 0
  none_in_shared_pool was = none_shared p.start q.seen (λ slot low. outside_now slot (was slot low))

-- ---- what a pass has

pub bears : (known : Option Holding) → may_bear known ≡ true → MayBear known
bears (Some (Free stamp)) e = tt
bears (Some (InHand known)) e = tt
bears _ e = absurd (false≢true e)

is_unlinked : (known : Option Holding) → is_unstamped known ≡ true → IsUnlinked known
is_unlinked (Some (Unlinked reread)) e = tt
is_unlinked _ e = absurd (false≢true e)

-- a pass that has stamped each slot that it unlinked has none unstamped
pub none_unstamped : (p : PassView) → ((slot : ℕ) → ¬ (IsUnlinked ((knows p.trace).own slot))) →
    number_at p.trace.start p.trace.seen (Unstamped p.trace.who) ≡ 0
none_unstamped p stamped =
    count_none _ p.trace.start.shape.slots
    (λ s low. false_from_ne_true _ (λ e. stamped s (is_unlinked ((knows p.trace).own s) e)))

-- and with an empty pool and an empty hand it has none at all
pub none_had : (p : PassView) → HasAllSlots p → p.pool ≡ [] → p.hand ≡ None →
    number_had p.trace.start p.trace.seen p.trace.who ≡ 0
none_had p all empty no_hand =
    let a = count_none (is_at p.trace.start p.trace.seen (WithPass p.trace.who)) p.trace.start.shape.slots
    (λ s low. false_from_ne_true _ (λ e. no_slot s (all.free s (bears ((knows p.trace).own s) e)))) in
    let b = none_unstamped p all.stamped in
    omega arith
  where
    no_slot : (s : ℕ) → HasSlot p s → ⊥
    no_slot s (inl there) =
        let in_none : Contains [] s = subst (λ (l : List ℕ). Contains l s) empty there in
        let low = in_none.1 in
        omega arith
    no_slot s (inr there) = absurd (let x : None ≡ Some s = sym no_hand ∙ there in cc)
