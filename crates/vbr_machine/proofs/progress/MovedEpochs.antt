-- The epoch moves no further than steps are made that would advance it.
-- Since a moment after which a pass made none, each advance disturbs it.
use Rattle.std.proofs.Common.{◌≡◌, ◌≢◌, ℕ, ◌+◌, ◌≤◌, Bool, true, false, not, cond, List, [], ◌∷◌, ◌++◌, Option, Some}
use Rattle.std.proofs.Common.{None, refl, ap, sym, subst, ◌∙◌, inl, inr, arith}
use Rattle.std.specs.Prelude.{◌==◌, ◌&&◌, if◌then◌else◌, ◌⊎◌, count_by}
use Rattle.std.proofs.lemmas.List.Sums.{sum_by-append}
use Rattle.std.specs.List.{AllByRecursion}
use Rattle.std.proofs.lemmas.Bool.{ne_eqb}
use Rattle.vbr_words.specs.Flags.{has_flag}
use Rattle.vbr_machine.specs.Start.{Start}
use Rattle.vbr_machine.specs.Learning.{call_of}
use Rattle.vbr_machine.specs.Machine.{World, opening, found, after}
use Rattle.vbr_machine.specs.Runs.{world_after}
use Rattle.vbr_machine.specs.Incarnations.{Incarnations, at_opening, last_in}
use Rattle.vbr_machine.specs.Chronicles.{Happening, Advances, Raises, GivesUp, Bears, Entry, becomes, incarnations_from}
use Rattle.vbr_machine.specs.Accounts.{after_giving_up, chronicle_from, entry_of_call, happens, incarnations_after}
use Rattle.vbr_machine.specs.Accounts.{incarnations_with, just}
use Rattle.vbr_machine.specs.Disturbances.{one_if, disturbances_in, disturbances}
use Rattle.vbr_machine.specs.declared.history.Call.{Call}
use Rattle.vbr_machine.specs.declared.event.Event.{Event}
use Rattle.vbr_machine.specs.declared.event.Step.{Step}
use Rattle.vbr_machine.specs.declared.event.Step.TheVariants.{ReadEpoch, Advance, LoadStamp, PeekBirth, StoreStamp}
use Rattle.vbr_machine.specs.declared.event.Step.TheVariants.{Raise}
use Rattle.vbr_machine.specs.declared.event.Step.TheVariants.{TakeFlag, StoreBirth, StoreKey, StoreLink, LoadLink}
use Rattle.vbr_machine.specs.declared.event.Step.TheVariants.{LoadBirth, LoadKey, Publish, Mark, Replace, Unlink}
use Rattle.vbr_machine.specs.declared.event.Step.TheVariants.{ConfirmPresent, ConfirmAbsent, StoreValue, LoadValue}
use Rattle.vbr_machine.specs.declared.knowledge.Holding.{Holding}
use Rattle.vbr_machine.specs.declared.knowledge.Holding.TheVariants.{Free, Unlinked, InHand}
use Rattle.vbr_machine.proofs.runs.EveryRun.{incarnations-append, incarnations_from-append}
use Rattle.vbr_machine.proofs.runs.OwnEntries.{chronicle_from-append}
use Rattle.vbr_machine.proofs.progress.Since.{disturbances_in-append}

-- a step that would advance the epoch
abbrev pub IsAdvance : Step → Type 0
IsAdvance (Advance from) = Unit {0}
IsAdvance _ = ⊥

-- a pass makes none by these events
abbrev pub AdvancesNone : ℕ → List Event → Type 0
AdvancesNone who events = AllByRecursion (λ (event : Event). event.pass ≡ who → IsAdvance event.step → ⊥) events

-- a step is one, or not
as_advance : (step : Step) → ((from : ℕ) × (step ≡ Advance from)) ⊎ (IsAdvance step → ⊥)
as_advance (Advance from) = inl (from, refl)
as_advance ReadEpoch = inr (λ x. x)
as_advance (LoadStamp s) = inr (λ x. x)
as_advance (PeekBirth s) = inr (λ x. x)
as_advance (StoreStamp s stamp) = inr (λ x. x)
as_advance (Raise s) = inr (λ x. x)
as_advance (TakeFlag s) = inr (λ x. x)
as_advance (StoreBirth s birth) = inr (λ x. x)
as_advance (StoreKey s key) = inr (λ x. x)
as_advance (StoreValue s value) = inr (λ x. x)
as_advance (StoreLink s next) = inr (λ x. x)
as_advance (LoadLink place) = inr (λ x. x)
as_advance (LoadBirth s) = inr (λ x. x)
as_advance (LoadKey s) = inr (λ x. x)
as_advance (LoadValue s) = inr (λ x. x)
as_advance (Publish pred expected s) = inr (λ x. x)
as_advance (Mark s expected) = inr (λ x. x)
as_advance (Replace s expected t) = inr (λ x. x)
as_advance (Unlink pred expected s) = inr (λ x. x)
as_advance (ConfirmPresent op s expected) = inr (λ x. x)
as_advance (ConfirmAbsent op key place expected) = inr (λ x. x)

module _ (start : Start) where
  -- the epoch stays by these events
  abbrev Stays : Incarnations → List Entry → Type 0
  Stays a entries = (incarnations_from start a entries).epoch ≡ a.epoch

  either_stays : (a : Incarnations) (t : Bool) (xs ys : List Entry) → Stays a xs → Stays a ys →
      Stays a (if t then xs else ys)
  either_stays a true xs ys x y = x
  either_stays a false xs ys x y = y

  given_up_stays : (a : Incarnations) (p s : ℕ) (what : Happening) (own : Option Holding) →
      ((b : Incarnations) → (becomes start b p what).epoch ≡ b.epoch) → Stays a (after_giving_up a p s what own)
  given_up_stays a p s what None stays = stays a
  given_up_stays a p s what (Some (Free stamp)) stays = stays a
  given_up_stays a p s what (Some (Unlinked seen)) stays = stays a
  given_up_stays a p s what (Some (InHand known)) stays = stays (becomes start a p (GivesUp (last_in a s)))

  answered_stays : (a : Incarnations) (p : ℕ) (made : Option Call) → Stays a (entry_of_call p made)
  answered_stays a p None = refl
  answered_stays a p (Some call) = refl

  -- by a step that is no advance
  step_stays : (w : World) (a : Incarnations) (p : ℕ) (step : Step) → (IsAdvance step → ⊥) →
      Stays a (happens start w a p step)
  step_stays w a p (Advance from) none = absurd (none tt)
  step_stays w a p (TakeFlag s) none = either_stays a (has_flag (found start w (TakeFlag s)) s) _ _ refl refl
  step_stays w a p (Raise s) none = given_up_stays a p s (Raises s) ((w.know p).own s) (λ b. refl)
  step_stays w a p (StoreBirth s birth) none = given_up_stays a p s (Bears s birth) ((w.know p).own s) (λ b. refl)
  step_stays w a p (Publish pred expected s) none =
      either_stays a (found start w (Publish pred expected s) == expected) _ _ refl refl
  step_stays w a p (Mark s expected) none = either_stays a (found start w (Mark s expected) == expected) _ _ refl refl
  step_stays w a p (Replace s expected t) none =
      either_stays a (found start w (Replace s expected t) == expected) _ _ refl refl
  step_stays w a p (Unlink pred expected s) none =
      either_stays a (found start w (Unlink pred expected s) == expected) _ _ refl refl
  step_stays w a p (ConfirmPresent op s expected) none =
      either_stays a (found start w (ConfirmPresent op s expected) == expected) _ _
      (answered_stays a p (call_of start p (w.know p) (ConfirmPresent op s expected))) refl
  step_stays w a p (ConfirmAbsent op key place expected) none =
      either_stays a (found start w (ConfirmAbsent op key place expected) == expected) _ _
      (answered_stays a p (call_of start p (w.know p) (ConfirmAbsent op key place expected))) refl
  step_stays w a p _ none = refl

  -- the epoch after a step and those after it
  epoch_on : (w : World) (a : Incarnations) (event : Event) (events : List Event) →
      (incarnations_from start a (chronicle_from start w a (event ∷ events))).epoch
      ≡ (incarnations_from start (incarnations_with start w a event)
      (chronicle_from start (after start w event.pass event.step) (incarnations_with start w a event) events)).epoch
  epoch_on w a event events =
      ap (λ (c : Incarnations). c.epoch)
      (incarnations_from-append start a (happens start w a event.pass event.step)
      (chronicle_from start (after start w event.pass event.step) (incarnations_with start w a event) events))

  -- and after a beginning of a run and what came then
  epoch_since : (first rest : List Event) →
      (incarnations_after start (first ++ rest)).epoch
      ≡ (incarnations_from start (incarnations_after start first)
      (chronicle_from start (world_after start first) (incarnations_after start first) rest)).epoch
  epoch_since first rest =
      ap (λ (c : Incarnations). c.epoch) (incarnations-append start (opening start) (at_opening start) first rest)

  -- ---- no further than steps advance it

  -- how many of these are steps that pass a test
  abbrev passed : (Step → Bool) → List Event → ℕ
  passed test events = count_by (λ (event : Event). test event.step) events

  advance_moves : (w : World) (a : Incarnations) (p from : ℕ) →
      (incarnations_from start a (happens start w a p (Advance from))).epoch ≤ a.epoch + 1
  advance_moves w a p from = either (found start w (Advance from) == from)
    where
      either : (t : Bool) → (incarnations_from start a (if t then just p Advances else [])).epoch ≤ a.epoch + 1
      either true = omega arith
      either false = omega arith

  module _ (test : Step → Bool) (tells : (step : Step) → IsAdvance step → test step ≡ true) where
    step_passed : (w : World) (a : Incarnations) (event : Event) →
        (incarnations_with start w a event).epoch ≤ a.epoch + passed test (event ∷ [])
    step_passed w a event = go (as_advance event.step)
      where
        go : ((from : ℕ) × (event.step ≡ Advance from)) ⊎ (IsAdvance event.step → ⊥) →
            (incarnations_with start w a event).epoch ≤ a.epoch + passed test (event ∷ [])
        go (inl (from, e)) =
            let moves = subst
            (λ (s : Step). (incarnations_from start a (happens start w a event.pass s)).epoch ≤ a.epoch + 1) (sym e)
            (advance_moves w a event.pass from) in
            let one : passed test (event ∷ []) ≡ 1 =
            ap (λ (b : Bool). 0 + cond b 1 0) (tells event.step (subst IsAdvance (sym e) tt)) in
            omega (arith, moves, one)
        go (inr none_made) = let stays = step_stays w a event.pass event.step none_made in omega (arith, stays)

    events_passed : (w : World) (a : Incarnations) (events : List Event) →
        (incarnations_from start a (chronicle_from start w a events)).epoch ≤ a.epoch + passed test events
    events_passed w a [] = omega arith
    events_passed w a (event ∷ events) =
        let v = after start w event.pass event.step in
        let b = incarnations_with start w a event in
        let one = step_passed w a event in
        let rest = events_passed v b events in
        let on = epoch_on w a event events in
        let sum = sum_by-append (λ (e : Event). cond (test e.step) 1 0) (event ∷ []) events in
        omega (arith, one, rest, on, sum)

    -- a law: the epoch has moved since a beginning of a run no further than steps were made that would advance it
    pub moved_by_steps : (first rest : List Event) →
        (incarnations_after start (first ++ rest)).epoch ≤ (incarnations_after start first).epoch + passed test rest
    moved_by_steps first rest =
        let moves = events_passed (world_after start first) (incarnations_after start first) rest in
        let since = epoch_since first rest in
        omega (arith, moves, since)

-- ---- no further than a pass was disturbed

module _ (start : Start) (who bucket : ℕ) where
  -- the epoch moves no more than these events disturb
  abbrev Moves : Incarnations → List Entry → Type 0
  Moves a entries = (incarnations_from start a entries).epoch ≤ a.epoch + disturbances_in start who bucket a entries

  one_of_another : (p : ℕ) → p ≢ who → one_if (not (p == who) && true) ≡ 1
  one_of_another p ne = ap (λ b. one_if (not b && true)) (ne_eqb p who ne)

  advance_disturbs : (w : World) (a : Incarnations) (p from : ℕ) → p ≢ who →
      Moves a (happens start w a p (Advance from))
  advance_disturbs w a p from ne = either (found start w (Advance from) == from)
    where
      either : (t : Bool) → Moves a (if t then just p Advances else [])
      either true = let one = one_of_another p ne in omega (arith, one)
      either false = omega arith

  step_moves : (w : World) (a : Incarnations) (p : ℕ) (step : Step) → (p ≡ who → IsAdvance step → ⊥) →
      Moves a (happens start w a p step)
  step_moves w a p step none = go (as_advance step)
    where
      go : ((from : ℕ) × (step ≡ Advance from)) ⊎ (IsAdvance step → ⊥) → Moves a (happens start w a p step)
      go (inl (from, e)) =
          subst (λ (s : Step). Moves a (happens start w a p s)) (sym e)
          (advance_disturbs w a p from (λ is. none is (subst IsAdvance (sym e) tt)))
      go (inr none_made) = let stays = step_stays start w a p step none_made in omega (arith, stays)

  events_move : (w : World) (a : Incarnations) (events : List Event) → AdvancesNone who events →
      Moves a (chronicle_from start w a events)
  events_move w a [] none = omega arith
  events_move w a (event ∷ events) none =
      let now = happens start w a event.pass event.step in
      let v = after start w event.pass event.step in
      let b = incarnations_with start w a event in
      let one = step_moves w a event.pass event.step none.0 in
      let rest = events_move v b events none.1 in
      let made = epoch_on start w a event events in
      let sum = disturbances_in-append start who bucket a now (chronicle_from start v b events) in
      omega (arith, one, rest, made, sum)

  -- a law: the epoch has moved since a beginning of a run no more than the pass was disturbed, where it made no
  -- step that would advance it
  pub moved_by_others : (first rest : List Event) → AdvancesNone who rest →
      (incarnations_after start (first ++ rest)).epoch + disturbances start first who bucket
      ≤ (incarnations_after start first).epoch + disturbances start (first ++ rest) who bucket
  moved_by_others first rest none =
      let a = incarnations_after start first in
      let w = world_after start first in
      let moves = events_move w a rest none in
      let made = epoch_since start first rest in
      let sum : disturbances start (first ++ rest) who bucket
      ≡ disturbances start first who bucket + disturbances_in start who bucket a (chronicle_from start w a rest) = (
      ap (disturbances_in start who bucket (at_opening start))
      (chronicle_from-append start (opening start) (at_opening start) first rest)
      ∙ disturbances_in-append start who bucket (at_opening start)
      (chronicle_from start (opening start) (at_opening start) first) (chronicle_from start w a rest)) in
      omega (arith, moves, made, sum)
