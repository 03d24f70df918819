-- A step that leaves the own pool and the hand of its pass leaves the stepper well that made it.
use Rattle.std.proofs.Common.{◌≡◌, ℕ, ◌<◌, ◌==◌, Bool, true, false, List, get_or, Option, Some, None, cond, refl, sym}
use Rattle.std.proofs.Common.{subst}
use mathlib.Core.Logic.{dite}
use native.Mathlib.Decide.{ℕ_discrete}
use Rattle.vbr_words.specs.declared.link.Link.{Link}
use Rattle.vbr_machine.specs.Start.{Start, IsStart}
use Rattle.vbr_machine.specs.Acceptance.{MayBear, IsInHand}
use Rattle.vbr_machine.specs.Knowledge.{Know}
use Rattle.vbr_machine.specs.Learning.{learn, reread, with_key, with_value, with_link}
use Rattle.vbr_machine.specs.Machine.{Load, access_of}
use Rattle.vbr_machine.specs.Put.{put}
use Rattle.vbr_machine.specs.declared.event.Step.{Step}
use Rattle.vbr_machine.specs.declared.event.Step.TheVariants.{ReadEpoch, StoreStamp, Raise, TakeFlag, StoreBirth}
use Rattle.vbr_machine.specs.declared.event.Step.TheVariants.{StoreKey, StoreValue, StoreLink, Publish, Mark, Replace}
use Rattle.vbr_machine.specs.declared.event.Step.TheVariants.{Unlink}
use Rattle.vbr_machine.specs.declared.knowledge.Holding.{Holding}
use Rattle.vbr_machine.specs.declared.knowledge.Holding.TheVariants.{Unlinked, InHand}
use Rattle.vbr_machine.proofs.Lemmas.{put_here, put_other}
use Rattle.vbr_slots.specs.declared.stepper.Stepper.TheInside.{Inside}
use Rattle.vbr_slots.specs.pools.Pools.{OwnPool, HandFits}
use Rattle.vbr_slots.specs.views.StepperView.{IsWell, view_of}
use Rattle.vbr_slots.specs.pools.Tried.{last_tried, tried_by}
use Rattle.vbr_slots.specs.views.Views.{PassView, Trace, Did, knows}
use Rattle.vbr_slots.proofs.pools.Passes.{pool_after}
use Rattle.vbr_slots.proofs.steps.Tried.{keeps_tried}

-- the step is of a kind that leaves what the pass may give birth in, and what it has in hand
abbrev pub LeavesPools : Step → Type 0
LeavesPools (StoreStamp s stamp) = ⊥
LeavesPools (Raise s) = ⊥
LeavesPools (TakeFlag s) = ⊥
LeavesPools (StoreBirth s birth) = ⊥
LeavesPools (Publish pred expected s) = ⊥
LeavesPools (Replace s expected t) = ⊥
LeavesPools (Unlink pred expected s) = ⊥
LeavesPools _ = Unit {0}

-- what may be born in, or is in hand, stays so
record StaysOwn (was is : Option Holding) : Type 0 where
  may : MayBear was → MayBear is
  in_hand : IsInHand was → IsInHand is

-- each slot stays so
abbrev AllStayOwn : (ℕ → Option Holding) → (ℕ → Option Holding) → Type 0
AllStayOwn was is = (s : ℕ) → StaysOwn (was s) (is s)

-- ---- what the pass owns

all_stay : (own : ℕ → Option Holding) → AllStayOwn own own
all_stay own s = record { may = λ x. x; in_hand = λ x. x }

either_own : (b : Bool) (own : ℕ → Option Holding) (k l : Know) → AllStayOwn own k.own → AllStayOwn own l.own →
    AllStayOwn own (cond b k l).own
either_own true own k l a b = a
either_own false own k l a b = b

reread_own : (holding : Option Holding) → StaysOwn holding (reread holding)
reread_own (Some (Unlinked seen)) = record { may = λ x. x; in_hand = λ x. x }
reread_own _ = record { may = λ x. x; in_hand = λ x. x }

key_own : (holding : Option Holding) (key : ℕ) → StaysOwn holding (with_key holding key)
key_own (Some (InHand known)) key = record { may = λ x. x; in_hand = λ x. x }
key_own _ key = record { may = λ x. x; in_hand = λ x. x }

value_own : (holding : Option Holding) (value : ℕ) → StaysOwn holding (with_value holding value)
value_own (Some (InHand known)) value = record { may = λ x. x; in_hand = λ x. x }
value_own _ value = record { may = λ x. x; in_hand = λ x. x }

link_own : (holding : Option Holding) (link : Link) → StaysOwn holding (with_link holding link)
link_own (Some (InHand known)) link = record { may = λ x. x; in_hand = λ x. x }
link_own _ link = record { may = λ x. x; in_hand = λ x. x }

put_own : (own : ℕ → Option Holding) (t : ℕ) (holding : Option Holding) → StaysOwn (own t) holding →
    AllStayOwn own (put own t holding)
put_own own t holding stays s =
    dite (ℕ_discrete s t)
    (λ same. subst (λ (x : ℕ). StaysOwn (own x) (put own t holding x)) (sym same)
    (subst (StaysOwn (own t)) (sym (put_here own t holding)) stays))
    (λ other. subst (StaysOwn (own s)) (sym (put_other own t holding s other))
    (record { may = λ x. x; in_hand = λ x. x }))

owns_still : (step : Step) (r stamp : ℕ) (know : Know) → LeavesPools step →
    AllStayOwn know.own (learn step r stamp know).own
owns_still ReadEpoch r stamp know leaves =
    either_own (r == know.epoch) know.own _ _ (λ s. reread_own (know.own s)) (λ s. reread_own (know.own s))
owns_still (StoreKey s key) r stamp know leaves = put_own know.own s _ (key_own (know.own s) key)
owns_still (StoreValue s value) r stamp know leaves = put_own know.own s _ (value_own (know.own s) value)
owns_still (StoreLink s next) r stamp know leaves = put_own know.own s _ (link_own (know.own s) _)
owns_still (Mark s expected) r stamp know leaves =
    either_own (r == expected) know.own _ know (all_stay know.own) (all_stay know.own)
owns_still (StoreStamp s new) r stamp know leaves = absurd leaves
owns_still (Raise s) r stamp know leaves = absurd leaves
owns_still (TakeFlag s) r stamp know leaves = absurd leaves
owns_still (StoreBirth s birth) r stamp know leaves = absurd leaves
owns_still (Publish pred expected s) r stamp know leaves = absurd leaves
owns_still (Replace s expected t) r stamp know leaves = absurd leaves
owns_still (Unlink pred expected s) r stamp know leaves = absurd leaves
owns_still _ r stamp know leaves = all_stay know.own

-- ---- the pool and the hand

hand_still : (start : Start) (was is : Know) (pool : List ℕ) (hand : Option ℕ) → AllStayOwn was.own is.own →
    HandFits start was pool hand → HandFits start is pool hand
hand_still start was is pool None stays h = tt
hand_still start was is pool (Some s) stays h = (h.0, (stays s).in_hand h.1, h.2)

pool_still : (start : Start) (was is : Know) (pool : List ℕ) (hand : Option ℕ) → AllStayOwn was.own is.own →
    OwnPool start was pool hand → OwnPool start is pool hand
pool_still start was is pool hand stays o = record {
  pooled = λ k d low. let of_pool = o.pooled k d low in (of_pool.0, (stays (get_or pool k d)).may of_pool.1);
  apart = o.apart;
  in_hand = hand_still start was is pool hand stays o.in_hand;
}

tries_none : (step : Step) (before : ℕ) → LeavesPools step → tried_by step before ≡ before
tries_none (TakeFlag s) before leaves = absurd leaves
tries_none _ before leaves = refl

-- a stepper is well after a step that tries to take no slot, where its pool and its hand are as the pass then knows
-- its slots
pub well_after : {step : Step} {q : Trace} {r : ℕ} {hand : Option ℕ} (p : Inside) → Did step p.runner q r →
    tried_by step (last_tried p.runner) ≡ last_tried p.runner → OwnPool q.start (knows q) p.pool.items hand → IsWell p →
    IsWell (record p { runner = q; hand = hand })
well_after {step} {q} p d tries pool well = record {
  start = subst IsStart (sym d.same.1) well.start;
  pool = pool;
  tried = keeps_tried d tries well.tried;
  low = subst (λ (start : Start). p.tried < start.shape.slots) (sym d.same.1) well.low;
}

-- and after a step of a kind that leaves them
pub stays_well : {step : Step} {q : Trace} {r : ℕ} (p : Inside) → Did step p.runner q r → LeavesPools step → IsWell p →
    IsWell (record p { runner = q })
stays_well {step} {q} {r} p d leaves well =
    well_after p d (tries_none step _ leaves)
    (pool_after p.runner q step r d p.pool.items p.hand
    (pool_still p.runner.start (knows p.runner) _ p.pool.items p.hand (owns_still step r _ (knows p.runner) leaves)
    well.pool)) well

-- a load is a step of such a kind
pub load_leaves : (know : Know) (step : Step) → access_of know step ≡ Load → LeavesPools step
load_leaves know (StoreStamp s stamp) is = absurd (cc)
load_leaves know (Raise s) is = absurd (cc)
load_leaves know (TakeFlag s) is = absurd (cc)
load_leaves know (StoreBirth s birth) is = absurd (cc)
load_leaves know (Publish pred expected s) is = absurd (cc)
load_leaves know (Replace s expected t) is = absurd (cc)
load_leaves know (Unlink pred expected s) is = absurd (cc)
load_leaves know _ is = tt

-- so a stepper that loads stays well
pub load_well : {step : Step} {q : Trace} {r : ℕ} {v : PassView} (p : Inside) → view_of p ≡ v →
    access_of (knows v.trace) step ≡ Load → Did step v.trace q r → IsWell p → IsWell (record p { runner = q })
load_well {step} {q} {r} {v} p is load did well =
    stays_well p (subst (λ (u : PassView). Did step u.trace q r) (sym is) did)
    (load_leaves (knows v.trace) step load) well
