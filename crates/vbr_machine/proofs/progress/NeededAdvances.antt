-- Where passes advance the epoch only in need, each advance is paid by a node that was retired.
use Rattle.std.proofs.Common.{◌≡◌, ◌≢◌, ℕ, ◌+◌, ◌*◌, ◌<◌, ◌≤◌, Bool, true, false, cond, List, [], ◌∷◌, ◌++◌, Option}
use Rattle.std.proofs.Common.{Some, None, refl, sym, ap, ◌∙◌, subst, append_assoc, inl, inr, arith}
use Rattle.std.specs.Prelude.{◌==◌, ◌⊎◌, if◌then◌else◌}
use Rattle.std.proofs.lemmas.Bool.{cases_Bool, cases_eq, eqb-true}
use Rattle.vbr_words.specs.Flags.{has_flag}
use Rattle.vbr_machine.specs.Start.{Start, IsStart}
use Rattle.vbr_machine.specs.Put.{put}
use Rattle.vbr_machine.specs.Keys.{Keys}
use Rattle.vbr_machine.specs.Opened.{has_opening_key, key_count, opening_keys}
use Rattle.vbr_machine.specs.Learning.{call_of}
use Rattle.vbr_machine.specs.Machine.{World, opening, after, found}
use Rattle.vbr_machine.specs.Runs.{AreAccepted, Begins, IsRun, world_from, world_after}
use Rattle.vbr_machine.specs.Incarnations.{Incarnations, at_opening, last_in, opening_state}
use Rattle.vbr_machine.specs.Chronicles.{Happening, Advances, Gains, Probes, Raises, GivesUp, Bears, Keyed, Valued}
use Rattle.vbr_machine.specs.Chronicles.{Aims, Inserts, Removes, Replaces, Unlinks, Stamps, Confirms, Entry, Allowed}
use Rattle.vbr_machine.specs.Chronicles.{MayStamp, becomes, incarnations_from, IsLawful}
use Rattle.vbr_machine.specs.Incarnations.{State, Unborn, InHand as StateInHand, GivenUp, Linked, Marked}
use Rattle.vbr_machine.specs.Incarnations.{Unlinked as StateUnlinked, Stamped}
use Rattle.vbr_machine.specs.Accounts.{after_giving_up, chronicle, chronicle_from, entry_of_call, happens}
use Rattle.vbr_machine.specs.Accounts.{incarnations_after, incarnations_with, just, notes_after}
use Rattle.vbr_machine.specs.Agreement.{Agrees}
use Rattle.vbr_machine.specs.Notes.{Notes, notes_with}
use Rattle.vbr_machine.specs.Disturbances.{disturbances, how_many, is_removal, one_if, updates}
use Rattle.vbr_machine.specs.Needs.{AdvancesInNeed, NeedsAdvance}
use Rattle.vbr_machine.specs.Nodes.{marked_after}
use Rattle.vbr_machine.specs.Unretired.{is_unretired, removes, unretired_after}
use Rattle.vbr_machine.specs.declared.history.Call.{Call}
use Rattle.vbr_machine.specs.declared.event.Event.{Event}
use Rattle.vbr_machine.specs.declared.event.Step.{Step}
use Rattle.vbr_machine.specs.declared.event.Step.TheVariants.{Advance, StoreStamp, Raise}
use Rattle.vbr_machine.specs.declared.event.Step.TheVariants.{TakeFlag, StoreBirth, StoreKey, StoreLink}
use Rattle.vbr_machine.specs.declared.event.Step.TheVariants.{Publish, Mark, Replace, Unlink}
use Rattle.vbr_machine.specs.declared.event.Step.TheVariants.{ConfirmPresent, ConfirmAbsent, StoreValue}
use Rattle.vbr_machine.specs.declared.knowledge.Holding.{Holding}
use Rattle.vbr_machine.specs.declared.knowledge.Holding.TheVariants.{Free, Unlinked, InHand}
use Rattle.vbr_machine.proofs.reads.OwnedSlots.{stamp_known}
use Rattle.vbr_machine.proofs.runs.EveryRun.{incarnations-append, run_agrees, run_lawful, runs_agree, step_agrees}
use Rattle.vbr_machine.proofs.runs.OwnEntries.{chronicle_from-append}
use Rattle.vbr_machine.proofs.runs.RunsGoOn.{is_run_after, is_run_before, world_after-append}
use Rattle.vbr_machine.proofs.progress.Progress.{disturbances_paid}
use Rattle.vbr_machine.proofs.progress.Retirements.{all_follow, how_many-append, removals_are_calls, unretired_births}
use Rattle.vbr_machine.proofs.progress.Retirements.{is_retirement, removals_are_removes, unretired_once}
use Rattle.vbr_machine.proofs.whereabouts.OutsidePool.{count_none}
use Rattle.vbr_machine.proofs.words.Puts.{put_here, put_other}

-- ---- stamps are no greater than the epoch

abbrev AreLow : Incarnations → Type 0
AreLow a = (s : ℕ) → a.stamp s ≤ a.epoch

-- a stamp is that of an epoch since the unlinking
stamp_low : (st : State) (pass stamp epoch : ℕ) → MayStamp st pass stamp epoch → stamp ≤ epoch
stamp_low (StateUnlinked by unlinked) pass stamp epoch m = m.2
stamp_low Unborn pass stamp epoch m = absurd m
stamp_low (StateInHand p) pass stamp epoch m = absurd m
stamp_low GivenUp pass stamp epoch m = absurd m
stamp_low Linked pass stamp epoch m = absurd m
stamp_low Marked pass stamp epoch m = absurd m
stamp_low (Stamped u r) pass stamp epoch m = absurd m

-- a number that all stamps are no greater than, once one is written that isn't either
put_low : (stamps : ℕ → ℕ) (v stamp most : ℕ) → ((s : ℕ) → stamps s ≤ most) → stamp ≤ most → (s : ℕ) →
    put stamps v stamp s ≤ most
put_low stamps v stamp most low new s = go (cases_eq s v)
  where
    go : (s ≡ v) ⊎ (s ≢ v) → put stamps v stamp s ≤ most
    go (inl is) = subst (λ (n : ℕ). n ≤ most) (sym (ap (put stamps v stamp) is ∙ put_here stamps v stamp)) new
    go (inr other) = subst (λ (n : ℕ). n ≤ most) (sym (put_other stamps v stamp s other)) (low s)

low_after : (start : Start) (keys : Keys) (a : Incarnations) (pass : ℕ) (what : Happening) →
    Allowed start keys a pass what → AreLow a → AreLow (becomes start a pass what)
low_after start keys a pass Advances h low s = let l = low s in omega arith
low_after start keys a pass (Gains v) h low s = low s
low_after start keys a pass (Probes v) h low s = low s
low_after start keys a pass (Raises v) h low s = low s
low_after start keys a pass (GivesUp c) h low s = low s
low_after start keys a pass (Bears v birth) h low s = low s
low_after start keys a pass (Keyed c key) h low s = low s
low_after start keys a pass (Valued c value) h low s = low s
low_after start keys a pass (Aims c link) h low s = low s
low_after start keys a pass (Inserts c behind) h low s = low s
low_after start keys a pass (Removes c) h low s = low s
low_after start keys a pass (Replaces old c) h low s = low s
low_after start keys a pass (Unlinks c behind) h low s = low s
low_after start keys a pass (Stamps c stamp) h low s =
    put_low a.stamp (a.slot c) stamp a.epoch low (stamp_low (a.state c) pass stamp a.epoch h) s
low_after start keys a pass (Confirms call) h low s = low s

all_low : (start : Start) (keys : Keys) (a : Incarnations) (entries : List Entry) → IsLawful start keys a entries →
    AreLow a → AreLow (incarnations_from start a entries)
all_low start keys a [] l low = low
all_low start keys a (entry ∷ entries) l low =
    all_low start keys (becomes start a entry.pass entry.what) entries l.1
    (low_after start keys a entry.pass entry.what l.0 low)

-- a law: after a run no stamp is greater than the epoch
run_low : (start : Start) (passes : ℕ) (run : List Event) → IsStart start → IsRun start passes run →
    AreLow (incarnations_after start run)
run_low start passes run is ok =
    all_low start (opening_keys start) (at_opening start) (chronicle start run) (run_lawful start passes run is ok)
    (λ s. omega arith)

-- ---- needed advances in a chronicle

-- where the event is an advance, a slot is stamped with the epoch as it stands
abbrev IsNeeded : Incarnations → Happening → Type 0
IsNeeded a Advances = (s : ℕ) × (a.epoch ≤ a.stamp s)
IsNeeded a _ = Unit {0}

abbrev AreNeeded : Start → Incarnations → List Entry → Type 0
AreNeeded start a [] = Unit {0}
AreNeeded start a (entry ∷ entries) =
    IsNeeded a entry.what × AreNeeded start (becomes start a entry.pass entry.what) entries

needed-append : (start : Start) (a : Incarnations) (xs ys : List Entry) → AreNeeded start a xs →
    AreNeeded start (incarnations_from start a xs) ys → AreNeeded start a (xs ++ ys)
needed-append start a [] ys n m = m
needed-append start a (x ∷ xs) ys n m = (n.0, needed-append start (becomes start a x.pass x.what) xs ys n.1 m)

-- no stamp is greater than a number, and the epoch is at most one greater
record AreWithin (a : Incarnations) (most : ℕ) : Type 0 where
  stamps : (s : ℕ) → a.stamp s ≤ most
  epoch : a.epoch ≤ most + 1

same_within : {a b : Incarnations} {most : ℕ} → AreWithin a most → ((s : ℕ) → b.stamp s ≡ a.stamp s) →
    b.epoch ≡ a.epoch → AreWithin b (most + 0)
same_within {a} {b} {most} w stamps epoch =
    record {
      stamps = λ s. (let l = w.stamps s in let e = stamps s in omega (arith, l, e));
      epoch = (let l = w.epoch in omega (arith, l, epoch));
    }

-- a needed advance leaves that so, and a retirement makes the number one greater
one_within : (start : Start) (keys : Keys) (a : Incarnations) (pass most : ℕ) (what : Happening) →
    Allowed start keys a pass what → IsNeeded a what → AreWithin a most →
    AreWithin (becomes start a pass what) (most + one_if (is_retirement what))
one_within start keys a pass most Advances h need w =
    record {
      stamps = λ s. (let l = w.stamps s in omega (arith, l));
      epoch = (let l = w.stamps need.0 in let n = need.1 in omega (arith, l, n));
    }
one_within start keys a pass most (Stamps c stamp) h need w =
    record {
      stamps = put_low a.stamp (a.slot c) stamp (most + 1) (λ s. (let l = w.stamps s in omega (arith, l)))
          (let l = stamp_low (a.state c) pass stamp a.epoch h in let e = w.epoch in omega (arith, l, e));
      epoch = (let e = w.epoch in omega (arith, e));
    }
one_within start keys a pass most (Gains v) h need w = same_within w (λ s. refl) refl
one_within start keys a pass most (Probes v) h need w = same_within w (λ s. refl) refl
one_within start keys a pass most (Raises v) h need w = same_within w (λ s. refl) refl
one_within start keys a pass most (GivesUp c) h need w = same_within w (λ s. refl) refl
one_within start keys a pass most (Bears v birth) h need w = same_within w (λ s. refl) refl
one_within start keys a pass most (Keyed c key) h need w = same_within w (λ s. refl) refl
one_within start keys a pass most (Valued c value) h need w = same_within w (λ s. refl) refl
one_within start keys a pass most (Aims c link) h need w = same_within w (λ s. refl) refl
one_within start keys a pass most (Inserts c behind) h need w = same_within w (λ s. refl) refl
one_within start keys a pass most (Removes c) h need w = same_within w (λ s. refl) refl
one_within start keys a pass most (Replaces old c) h need w = same_within w (λ s. refl) refl
one_within start keys a pass most (Unlinks c behind) h need w = same_within w (λ s. refl) refl
one_within start keys a pass most (Confirms call) h need w = same_within w (λ s. refl) refl

-- a law of chronicles
all_within : (start : Start) (keys : Keys) (a : Incarnations) (most : ℕ) (entries : List Entry) →
    IsLawful start keys a entries → AreNeeded start a entries → AreWithin a most →
    (incarnations_from start a entries).epoch ≤ most + 1 + how_many is_retirement entries
all_within start keys a most [] l need w = let e = w.epoch in omega (arith, e)
all_within start keys a most (entry ∷ entries) l need w =
    let now = one_within start keys a entry.pass most entry.what l.0 need.0 w in
    let rest = all_within start keys (becomes start a entry.pass entry.what)
    (most + one_if (is_retirement entry.what)) entries l.1 need.1 now in
    omega (arith, rest)

-- ---- needed advances in a run

module _ (start : Start) where
  needed_either : (a : Incarnations) (t : Bool) (xs ys : List Entry) → AreNeeded start a xs → AreNeeded start a ys →
      AreNeeded start a (if t then xs else ys)
  needed_either a true xs ys x y = x
  needed_either a false xs ys x y = y

  given_up_needed : (a : Incarnations) (p s : ℕ) (what : Happening) (own : Option Holding) →
      ((b : Incarnations) → IsNeeded b what) → AreNeeded start a (after_giving_up a p s what own)
  given_up_needed a p s what None need = (need a, tt)
  given_up_needed a p s what (Some (Free stamp)) need = (need a, tt)
  given_up_needed a p s what (Some (Unlinked seen)) need = (need a, tt)
  given_up_needed a p s what (Some (InHand known)) need = (tt, (need (becomes start a p (GivesUp (last_in a s))), tt))

  answered_needed : (a : Incarnations) (p : ℕ) (made : Option Call) → AreNeeded start a (entry_of_call p made)
  answered_needed a p None = tt
  answered_needed a p (Some call) = (tt, tt)

  -- a pass that needs the epoch to advance has a slot that is stamped with it
  advance_needed : (w : World) (a : Incarnations) (notes : ℕ → Notes) (p from : ℕ) → Agrees start w a notes →
      NeedsAdvance (w.know p) from → AreNeeded start a (happens start w a p (Advance from))
  advance_needed w a notes p from g need = go (cases_Bool (w.epoch == from))
    where
      stands : w.epoch ≡ from → a.epoch ≤ a.stamp need.slot
      stands is =
          let known = stamp_known start w a notes p need.slot g need.may in
          let shown = g.image.stamp need.slot in
          let now = g.image.epoch in
          let high = need.stamped in
          omega (arith, is, known, shown, now, high)

      go : ((w.epoch == from) ≡ true) ⊎ ((w.epoch == from) ≡ false) →
          AreNeeded start a (if w.epoch == from then just p Advances else [])
      go (inl is) =
          let P : Bool → Type 0 = λ t. AreNeeded start a (if t then just p Advances else []) in
          subst P (sym is) ((need.slot, stands (eqb-true w.epoch from is)), tt)
      go (inr other) =
          let P : Bool → Type 0 = λ t. AreNeeded start a (if t then just p Advances else []) in
          subst P (sym other) tt

  -- each event of a run, as far as it is an advance
  abbrev IsInNeed : World → ℕ → Step → Type 0
  IsInNeed w p (Advance from) = NeedsAdvance (w.know p) from
  IsInNeed w p _ = Unit {0}

  step_needed : (w : World) (a : Incarnations) (notes : ℕ → Notes) (p : ℕ) (step : Step) → Agrees start w a notes →
      IsInNeed w p step → AreNeeded start a (happens start w a p step)
  step_needed w a notes p (Advance from) g need = advance_needed w a notes p from g need
  step_needed w a notes p (TakeFlag s) g need =
      needed_either a (has_flag (found start w (TakeFlag s)) s) _ _ (tt, tt) (tt, tt)
  step_needed w a notes p (Raise s) g need = given_up_needed a p s (Raises s) ((w.know p).own s) (λ b. tt)
  step_needed w a notes p (StoreBirth s birth) g need =
      given_up_needed a p s (Bears s birth) ((w.know p).own s) (λ b. tt)
  step_needed w a notes p (StoreStamp s stamp) g need = (tt, tt)
  step_needed w a notes p (StoreKey s key) g need = (tt, tt)
  step_needed w a notes p (StoreValue s value) g need = (tt, tt)
  step_needed w a notes p (StoreLink s next) g need = (tt, tt)
  step_needed w a notes p (Publish pred expected s) g need =
      needed_either a (found start w (Publish pred expected s) == expected) _ _ (tt, tt) tt
  step_needed w a notes p (Mark s expected) g need =
      needed_either a (found start w (Mark s expected) == expected) _ _ (tt, tt) tt
  step_needed w a notes p (Replace s expected t) g need =
      needed_either a (found start w (Replace s expected t) == expected) _ _ (tt, tt) tt
  step_needed w a notes p (Unlink pred expected s) g need =
      needed_either a (found start w (Unlink pred expected s) == expected) _ _ (tt, tt) tt
  step_needed w a notes p (ConfirmPresent op s expected) g need =
      needed_either a (found start w (ConfirmPresent op s expected) == expected) _ _
      (answered_needed a p (call_of start p (w.know p) (ConfirmPresent op s expected))) tt
  step_needed w a notes p (ConfirmAbsent op key place expected) g need =
      needed_either a (found start w (ConfirmAbsent op key place expected) == expected) _ _
      (answered_needed a p (call_of start p (w.know p) (ConfirmAbsent op key place expected))) tt
  step_needed w a notes p _ g need = tt

  -- what is needed of events from a world on
  abbrev AreInNeed : World → List Event → Type 0
  AreInNeed w [] = Unit {0}
  AreInNeed w (event ∷ events) =
      IsInNeed w event.pass event.step × AreInNeed (after start w event.pass event.step) events

  events_needed : (passes : ℕ) (w : World) (a : Incarnations) (notes : ℕ → Notes) (events : List Event) →
      Agrees start w a notes → AreAccepted start passes w events → AreInNeed w events →
      AreNeeded start a (chronicle_from start w a events)
  events_needed passes w a notes [] g ok need = tt
  events_needed passes w a notes (event ∷ events) g ok need =
      let p = event.pass in
      let b = incarnations_with start w a event in
      let v = after start w p event.step in
      let new = put notes p (notes_with start w b p event.step (notes p)) in
      let one = step_agrees start w a notes p event.step g ok.0.1 in
      needed-append start a (happens start w a p event.step) (chronicle_from start v b events)
      (step_needed w a notes p event.step g need.0) (events_needed passes v b new events one.1 ok.1 need.1)

  -- what each pass needed where it advanced the epoch, by these events from a world on
  abbrev NeedsThere : World → List Event → ℕ → Type 0
  NeedsThere w events pass =
      (before rest : List Event) (from : ℕ) → events ≡ before ++ record { pass = pass; step = Advance from } ∷ rest →
      NeedsAdvance ((world_from start w before).know pass) from

  is_in_need : (w : World) (events : List Event) (p : ℕ) (step : Step) →
      ((from : ℕ) → step ≡ Advance from → NeedsAdvance (w.know p) from) → IsInNeed w p step
  is_in_need w events p (Advance from) need = need from refl
  is_in_need w events p _ need = tt

  all_in_need : (passes : ℕ) (w : World) (events : List Event) → AreAccepted start passes w events →
      ((pass : ℕ) → pass < passes → NeedsThere w events pass) → AreInNeed w events
  all_in_need passes w [] ok need = tt
  all_in_need passes w (event ∷ events) ok need = (
    is_in_need w events event.pass event.step
        (λ from same. need event.pass ok.0.0 [] events from
        (ap (λ (one : Event). one ∷ events) (λ i. record { pass = event.pass; step = same i }))),
    all_in_need passes (after start w event.pass event.step) events ok.1
        (λ pass low before rest from e. need pass low (event ∷ before) rest from
        (ap (λ (l : List Event). event ∷ l) e)),
  )

  needs_there : (first rest : List Event) (pass : ℕ) → AdvancesInNeed start first (first ++ rest) pass →
      NeedsThere (world_after start first) rest pass
  needs_there first rest pass need before later from e =
      subst (λ (w : World). NeedsAdvance (w.know pass) from) (world_after-append start first before)
      (need before later from
      (ap (λ (l : List Event). first ++ l) e
      ∙ sym (append_assoc first before (record { pass = pass; step = Advance from } ∷ later))))

-- ---- the laws

-- each pass advances the epoch in need, since a beginning of a run
abbrev pub AllAdvanceInNeed : Start → ℕ → List Event → List Event → Type 0
AllAdvanceInNeed start passes first run = (pass : ℕ) → pass < passes → AdvancesInNeed start first run pass

advances_since : (start : Start) (passes : ℕ) (first rest : List Event) → IsStart start →
    IsRun start passes (first ++ rest) → AllAdvanceInNeed start passes first (first ++ rest) →
    (incarnations_after start (first ++ rest)).epoch + unretired_after start (first ++ rest)
    + how_many is_removal (chronicle start first)
    ≤ (incarnations_after start first).epoch + 1 + unretired_after start first
    + how_many is_removal (chronicle start (first ++ rest))
advances_since start passes first rest is ok need =
    omega (arith, within, follow, made_epoch, made_births, sum, before, later)
  where
    w : World
    w = world_after start first

    a : Incarnations
    a = incarnations_after start first

    entries : List Entry
    entries = chronicle_from start w a rest

    ok_first : IsRun start passes first
    ok_first = is_run_before start passes first rest ok

    ok_rest : AreAccepted start passes w rest
    ok_rest = is_run_after start passes first rest ok

    good : Agrees start w a (notes_after start first)
    good = run_agrees start passes first is ok_first

    lawful : IsLawful start (opening_keys start) a entries
    lawful = (runs_agree start passes w a (notes_after start first) rest good ok_rest).0

    needed : AreNeeded start a entries
    needed = events_needed start passes w a (notes_after start first) rest good ok_rest
        (all_in_need start passes w rest ok_rest (λ pass low. needs_there start first rest pass (need pass low)))

    within : (incarnations_from start a entries).epoch ≤ a.epoch + 1 + how_many is_retirement entries
    within = all_within start (opening_keys start) a a.epoch entries lawful needed
        (record { stamps = run_low start passes first is ok_first; epoch = omega arith })

    follow : how_many is_retirement entries + unretired_births (incarnations_from start a entries)
        ≡ how_many is_removal entries + unretired_births a
    follow = all_follow start (opening_keys start) a entries good.sound lawful

    makes : incarnations_after start (first ++ rest) ≡ incarnations_from start a entries
    makes = incarnations-append start (opening start) (at_opening start) first rest

    made_epoch : (incarnations_after start (first ++ rest)).epoch ≡ (incarnations_from start a entries).epoch
    made_epoch = ap (λ (b : Incarnations). b.epoch) makes

    made_births : unretired_births (incarnations_after start (first ++ rest))
        ≡ unretired_births (incarnations_from start a entries)
    made_births = ap unretired_births makes

    sum : how_many is_removal (chronicle start (first ++ rest))
        ≡ how_many is_removal (chronicle start first) + how_many is_removal entries
    sum = ap (how_many is_removal) (chronicle_from-append start (opening start) (at_opening start) first rest)
        ∙ how_many-append is_removal (chronicle start first) entries

    before : unretired_births a ≡ unretired_after start first
    before = unretired_once start passes first is ok_first

    later : unretired_births (incarnations_after start (first ++ rest)) ≡ unretired_after start (first ++ rest)
    later = unretired_once start passes (first ++ rest) is ok

-- a law: between two moments of a run the epoch advances at most once, and once for each node that was removed and not
-- retired at the first, or is removed since; those that are so at the second have still to be retired
pub advances_paid : (start : Start) (passes : ℕ) (first run : List Event) → IsStart start → IsRun start passes run →
    Begins first run → AllAdvanceInNeed start passes first run →
    (incarnations_after start run).epoch + unretired_after start run + how_many is_removal (chronicle start first)
    ≤ (incarnations_after start first).epoch + 1 + unretired_after start first
    + how_many is_removal (chronicle start run)
advances_paid start passes first run is ok begins need =
    subst Law (sym begins.1) (advances_since start passes first begins.0 is
    (subst (IsRun start passes) begins.1 ok) (subst (AllAdvanceInNeed start passes first) begins.1 need))
  where
    Law : List Event → Type 0
    Law l = (incarnations_after start l).epoch + unretired_after start l + how_many is_removal (chronicle start first)
        ≤ (incarnations_after start first).epoch + 1 + unretired_after start first
        + how_many is_removal (chronicle start l)

-- no more removals than updates
removals_since : (start : Start) (first rest : List Event) →
    how_many is_removal (chronicle start (first ++ rest)) + updates (incarnations_after start first).calls
    ≤ how_many is_removal (chronicle start first) + updates (incarnations_after start (first ++ rest)).calls
removals_since start first rest =
    let a = incarnations_after start first in
    let entries = chronicle_from start (world_after start first) a rest in
    let calls = removals_are_calls start a entries in
    let sum : how_many is_removal (chronicle start (first ++ rest))
    ≡ how_many is_removal (chronicle start first) + how_many is_removal entries =
    ap (how_many is_removal) (chronicle_from-append start (opening start) (at_opening start) first rest)
    ∙ how_many-append is_removal (chronicle start first) entries in
    let made : updates (incarnations_after start (first ++ rest)).calls
    ≡ updates (incarnations_from start a entries).calls =
    ap (λ (b : Incarnations). updates b.calls)
    (incarnations-append start (opening start) (at_opening start) first rest) in
    omega (arith, calls, sum, made)

-- a law: so a pass is disturbed at most once, once for each node that was marked at first, once for each that was
-- removed and not retired, and three times for each update that is answered yes
pub disturbances_answered : (start : Start) (passes : ℕ) (first run : List Event) → IsStart start →
    IsRun start passes run → Begins first run → AllAdvanceInNeed start passes first run → (who bucket : ℕ) →
    disturbances start run who bucket + 3 * updates (incarnations_after start first).calls
    ≤ disturbances start first who bucket + 1 + marked_after start first + unretired_after start first
    + 3 * updates (incarnations_after start run).calls
disturbances_answered start passes first run is ok begins need who bucket =
    let paid = disturbances_paid start passes first run is ok begins who bucket in
    let advances = advances_paid start passes first run is ok begins need in
    let Law : List Event → Type 0 = λ l. how_many is_removal (chronicle start l)
    + updates (incarnations_after start first).calls
    ≤ how_many is_removal (chronicle start first) + updates (incarnations_after start l).calls in
    let removals = subst Law (sym begins.1) (removals_since start first begins.0) in
    omega (arith, paid, advances, removals)

-- ---- from the opening on

-- a law: from the opening on the epoch is at most one more than the removes answered yes whose nodes were retired
pub epoch_paid : (start : Start) (passes : ℕ) (run : List Event) → IsStart start → IsRun start passes run →
    AllAdvanceInNeed start passes [] run →
    (incarnations_after start run).epoch + unretired_after start run
    ≤ 1 + removes (incarnations_after start run).calls
epoch_paid start passes run is ok need =
    let a = at_opening start in
    let good = run_agrees start passes [] is tt in
    let needed = events_needed start passes (opening start) a (notes_after start []) run good ok
    (all_in_need start passes (opening start) run ok (λ pass low. needs_there start [] run pass (need pass low))) in
    let lawful = run_lawful start passes run is ok in
    let within = all_within start (opening_keys start) a 0 (chronicle start run) lawful needed
    (record { stamps = λ s. omega arith; epoch = omega arith }) in
    let follow = all_follow start (opening_keys start) a (chronicle start run) good.sound lawful in
    let none : unretired_births a ≡ 0 =
    count_none (λ c. is_unretired (opening_state start c)) (key_count start)
    (λ c l. linked (has_opening_key start c)) in
    let after = unretired_once start passes run is ok in
    let calls = removals_are_removes start a (chronicle start run) in
    omega (arith, within, follow, none, after, calls)
  where
    linked : (b : Bool) → is_unretired (cond b Linked Unborn) ≡ false
    linked true = refl
    linked false = refl
