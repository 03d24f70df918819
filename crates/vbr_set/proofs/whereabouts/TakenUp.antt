-- Where a lone insert or store finds no slot, all slots are taken up.
use Rattle.std.proofs.Common.{◌≡◌, ◌≢◌, ℕ, ◌+◌, ◌-◌, ◌*◌, ◌<◌, ◌≤◌, List, [], length, Option, None, arith, subst, ap}
use Rattle.std.proofs.Common.{◌∙◌, inl, inr}
use Rattle.vbr_machine.specs.Start.{Start}
use Rattle.vbr_machine.specs.History.{set_after}
use Rattle.vbr_machine.specs.Keys.{AreKeysOf}
use Rattle.vbr_machine.specs.Nodes.{marked_after}
use Rattle.vbr_machine.specs.Opened.{opening_keys}
use Rattle.vbr_machine.specs.Whereabouts.{InSharedPool, InSet, number_at, number_had}
use Rattle.vbr_machine.specs.declared.history.Call.{Call}
use Rattle.vbr_machine.proofs.Lemmas.{add_up, run_agrees, somewhere}
use Rattle.vbr_slots.specs.steps.Alone.{IsAlone}
use Rattle.vbr_slots.specs.steps.Calls.{IsSame}
use Rattle.vbr_slots.specs.steps.PassLaw.{PassLaw}
use Rattle.vbr_slots.specs.views.Views.{PassView}
use Rattle.vbr_slots.specs.declared.pass.TheConstants.{POOL}
use Rattle.vbr_at_table.specs.costs.StepKinds.{flags_raised}
use Rattle.vbr_at_table.specs.hands.KeptSlots.{KeepsSlots, SharesWhereFull}
use Rattle.vbr_at_table.specs.declared.aside.Aside.{Aside}
use Rattle.vbr_at_table.specs.pools.Refusals.{HasNoSlot}
use Rattle.vbr_list.specs.calls.Refusals.{FoundNoSlot}
use Rattle.vbr_at_table.specs.declared.refusal.Refusal.TheVariants.{NoSlot}
use Rattle.vbr_set.specs.histories.Histories.{calls_of}
use Rattle.vbr_set.specs.calls.MapCalls.{InsertRefused}
use Rattle.vbr_set.specs.calls.Members.{MemberView}
use Rattle.vbr_set.specs.whereabouts.Room.{AreTakenUp, HasAllSlots, OthersAreBetweenCalls, held_by_others, number_aside}
use Rattle.vbr_set.proofs.sums.CountedKeys.{counted_keys}
use Rattle.vbr_set.proofs.whereabouts.HavingSlots.{all_kept}
use Rattle.vbr_set.proofs.whereabouts.RoomLeft.{none_had, none_in_shared_pool}
use Rattle.vbr_set.proofs.whereabouts.RoomOfOthers.{had_between, sum_but_none, sum_but_within}

-- a pool that is empty isn't full, so no flag was raised
none_raised : (p q : PassView) → q.pool ≡ [] → SharesWhereFull 2 p q → flags_raised q.trace ≡ flags_raised p.trace
none_raised p q empty (inl same) = same
none_raised p q empty (inr full) = absurd (let none = ap (length {A = ℕ}) empty in omega arith)

-- what an insert or a store tells that finds no slot
record ToldNone (m n : MemberView) : Type 0 where
  same : IsSame m.pass.trace n.pass.trace
  hand : n.pass.hand ≡ None
  none : HasNoSlot m.pass n.pass
  shared : SharesWhereFull 2 m.pass n.pass
  kept : KeepsSlots m.pass n.pass

-- of one that looked for a slot in vain
found_none : {m n : MemberView} {key : ℕ} → IsSame m.pass.trace n.pass.trace → n.pass.hand ≡ None →
    FoundNoSlot m.pass n.pass key → SharesWhereFull 2 m.pass n.pass → KeepsSlots m.pass n.pass → ToldNone m n
found_none same hand found shared kept = record {
  same = same;
  hand = hand;
  none = record { empty = found.empty; still = found.still; outside = found.outside };
  shared = shared;
  kept = kept;
}

told_none : (m n : MemberView) (key budget : ℕ) → InsertRefused m n key budget NoSlot → ToldNone m n
told_none m n key budget (inl c) = found_none c.same c.hand c.bounds.refused c.bounds.shared c.bounds.kept
told_none m n key budget (inr (inl (value, c))) =
    found_none c.same c.hand c.bounds.refused c.bounds.shared c.bounds.kept
told_none m n key budget (inr (inr (value, wanted, c))) =
    record {
      same = c.same;
      hand = c.hand;
      none = c.bounds.1.refused.none;
      shared = c.bounds.1.shared;
      kept = c.bounds.0;
    }

module _ (m n : MemberView) (key budget : ℕ) (law : PassLaw n.pass) (all : HasAllSlots m.pass)
    (refused : InsertRefused m n key budget NoSlot) (alone : IsAlone m.pass.trace n.pass.trace) where
  abbrev p : PassView
  p = m.pass

  abbrev q : PassView
  q = n.pass

  c : ToldNone m n
  c = told_none m n key budget refused

  none_shared : number_at q.trace.start q.trace.seen InSharedPool ≡ 0
  none_shared = ap (λ (start : Start). number_at start q.trace.seen InSharedPool) c.same.start
      ∙ none_in_shared_pool alone c.same.who (none_raised p q c.none.still c.shared) c.none.outside

  none_own : number_had q.trace.start q.trace.seen q.trace.who ≡ 0
  none_own = none_had q (all_kept p q c.kept all) c.none.still c.hand

  in_set : (keys : List ℕ) →
      AreKeysOf keys (set_after (opening_keys q.trace.start) (calls_of q.trace.start q.trace.seen)) →
      length keys ≡ number_at q.trace.start q.trace.seen InSet
  in_set keys are =
      let g = run_agrees q.trace.start q.trace.passes q.trace.seen law.start law.is_run in
      counted_keys g.sound g.fits g.tells keys
      (subst (λ (calls : List Call). AreKeysOf keys (set_after (opening_keys q.trace.start) calls)) g.calls are)

  pub taken_up : AreTakenUp q.trace
  taken_up keys are =
      let sum = add_up q.trace.start q.trace.passes q.trace.seen
      (somewhere q.trace.start q.trace.passes q.trace.seen law.safe law.is_run) in
      let others = sum_but_none q.trace.passes q.trace.who (number_had q.trace.start q.trace.seen) none_own in
      let a = none_shared in
      let b = in_set keys are in
      omega arith

  pub suffices : (aside : ℕ → Option Aside) → OthersAreBetweenCalls aside q.trace → (keys : List ℕ) →
      AreKeysOf keys (set_after (opening_keys q.trace.start) (calls_of q.trace.start q.trace.seen)) →
      q.trace.start.shape.slots
      ≤ length keys + marked_after q.trace.start q.trace.seen
      + (POOL * (q.trace.passes - 1) + held_by_others aside q.trace)
  suffices aside between keys are =
      let up = taken_up keys are in
      let few = sum_but_within q.trace.passes q.trace.who POOL (number_had q.trace.start q.trace.seen)
      (λ i. number_aside (aside i)) law.low each in
      omega (arith, up, few)
    where
      each : (i : ℕ) → i < q.trace.passes → i ≢ q.trace.who →
          number_had q.trace.start q.trace.seen i ≤ POOL + number_aside (aside i)
      each i low ne =
          let o = between i low ne in
          subst (λ (who : ℕ). number_had q.trace.start q.trace.seen who ≤ POOL + number_aside (aside i)) o.1
          (had_between (aside i) o.0 q.trace o.2)
