-- What a run adds since a beginning of it: to its chronicle, and to what has disturbed a pass.
use Rattle.std.proofs.Common.{◌≡◌, ◌≢◌, ℕ, zero, suc, ◌+◌, ◌<◌, ◌≤◌, Bool, true, false, not, List, [], ◌∷◌, ◌++◌, refl}
use Rattle.std.proofs.Common.{sym, ap, ◌∙◌, subst, inl, inr, eq-eqb, arith, append-nil}
use Rattle.std.specs.Prelude.{◌==◌, ◌&&◌, ◌⊎◌}
use Rattle.std.proofs.lemmas.List.{append_cancel_left}
use Rattle.std.proofs.lemmas.List.Elements.{filter-append}
use Rattle.vbr_words.specs.declared.place.At.{At}
use Rattle.vbr_machine.specs.Start.{Start, IsStart}
use Rattle.vbr_machine.specs.Opened.{opening_keys}
use Rattle.vbr_machine.specs.Machine.{World, opening}
use Rattle.vbr_machine.specs.Runs.{Begins, IsRun, NoneOf, world_after}
use Rattle.vbr_machine.specs.Images.{link_shown_at}
use Rattle.vbr_machine.specs.Incarnations.{Incarnations, at_opening}
use Rattle.vbr_machine.specs.Chronicles.{Entry, becomes, incarnations_from, IsLawful, entries_by}
use Rattle.vbr_machine.specs.Accounts.{chronicle, chronicle_from, happens, incarnations_after, notes_after, own_entries}
use Rattle.vbr_machine.specs.Disturbances.{changes, one_if, disturbances_in, disturbances, own_changes_in, own_changes}
use Rattle.vbr_machine.specs.Disturbances.{IsOpenIn, disturbs, own_changes_by}
use Rattle.vbr_machine.specs.Sound.{Sound, Grows}
use Rattle.vbr_machine.specs.declared.event.Event.{Event}
use Rattle.vbr_machine.specs.declared.event.Step.{Step}
use Rattle.vbr_machine.proofs.progress.Calm.{IsCalm, NoneBy, none_by, none_changes, calm_from, calm_epoch, calm_shown}
use Rattle.vbr_machine.proofs.runs.EveryRun.{incarnations-append, run_agrees, run_grows, runs_agree}
use Rattle.vbr_machine.proofs.runs.OwnEntries.{AreBy, chronicle_from-append, happens_by, others_add}
use Rattle.vbr_machine.proofs.runs.RunsGoOn.{is_run_after, is_run_before}

-- ---- what was added

-- what events since a beginning add to the chronicle, which is lawful there
pub record Since (start : Start) (first run : List Event) : Type 0 where
  pub entries : List Entry
  pub adds : chronicle start run ≡ chronicle start first ++ entries
  pub makes : incarnations_after start run ≡ incarnations_from start (incarnations_after start first) entries
  pub lawful : IsLawful start (opening_keys start) (incarnations_after start first) entries
  pub sound : Sound start (incarnations_after start first)
  pub grown : Grows (incarnations_after start first) (incarnations_after start run)

since_append : (start : Start) (passes : ℕ) (first rest : List Event) → IsStart start →
    IsRun start passes (first ++ rest) → Since start first (first ++ rest)
since_append start passes first rest is ok =
    let before = run_agrees start passes first is (is_run_before start passes first rest ok) in
    record {
      entries = chronicle_from start (world_after start first) (incarnations_after start first) rest;
      adds = chronicle_from-append start (opening start) (at_opening start) first rest;
      makes = incarnations-append start (opening start) (at_opening start) first rest;
      lawful = (runs_agree start passes (world_after start first) (incarnations_after start first)
          (notes_after start first) rest before (is_run_after start passes first rest ok)).0;
      sound = before.sound;
      grown = run_grows start passes first rest is ok;
    }

pub since : (start : Start) (passes : ℕ) (first run : List Event) → IsStart start → IsRun start passes run →
    Begins first run → Since start first run
since start passes first run is ok begins =
    let P : List Event → Type 0 = IsRun start passes in
    let Q : List Event → Type 0 = Since start first in
    subst Q (sym begins.1) (since_append start passes first begins.0 is (subst P begins.1 ok))

-- ---- disturbances

-- what is counted of events, from the incarnations ahead of them, adds up
abbrev AddsUp : Start → (Incarnations → List Entry → ℕ) → Type 0
AddsUp start count = (a : Incarnations) (xs ys : List Entry) →
    count a (xs ++ ys) ≡ count a xs + count (incarnations_from start a xs) ys

-- which it does where each event counts by itself
adds_up : (start : Start) (count : Incarnations → List Entry → ℕ) (one : Incarnations → Entry → ℕ) →
    ((a : Incarnations) → count a [] ≡ 0) → ((a : Incarnations) (x : Entry) (xs : List Entry) →
    count a (x ∷ xs) ≡ one a x + count (becomes start a x.pass x.what) xs) → AddsUp start count
adds_up start count one none more a [] ys = let n = none a in omega (arith, n)
adds_up start count one none more a (x ∷ xs) ys =
    let r = adds_up start count one none more (becomes start a x.pass x.what) xs ys in
    let m = more a x (xs ++ ys) in
    let n = more a x xs in
    omega (arith, r, m, n)

-- then a run has counted what its beginning had, and what came since
sum_since : {start : Start} {first run : List Event} (x : Since start first run)
    (count : Incarnations → List Entry → ℕ) → AddsUp start count →
    count (at_opening start) (chronicle start run)
    ≡ count (at_opening start) (chronicle start first) + count (incarnations_after start first) x.entries
sum_since {start} {first} x count sums =
    ap (count (at_opening start)) x.adds ∙ sums (at_opening start) (chronicle start first) x.entries

pub disturbances_in-append : (start : Start) (who bucket : ℕ) → AddsUp start (disturbances_in start who bucket)
disturbances_in-append start who bucket = adds_up start (disturbances_in start who bucket)
    (λ a x. one_if (disturbs start who bucket a x)) (λ a. refl) (λ a x xs. refl)

own_changes_in-append : (start : Start) (who bucket : ℕ) → AddsUp start (own_changes_in start who bucket)
own_changes_in-append start who bucket = adds_up start (own_changes_in start who bucket)
    (λ a x. one_if (own_changes_by start who bucket a x)) (λ a. refl) (λ a x xs. refl)

-- those of the beginning, and those since
pub disturbances_sum : {start : Start} {first run : List Event} (x : Since start first run) (who bucket : ℕ) →
    disturbances start run who bucket
    ≡ disturbances start first who bucket + disturbances_in start who bucket (incarnations_after start first) x.entries
disturbances_sum {start} x who bucket =
    sum_since x (disturbances_in start who bucket) (disturbances_in-append start who bucket)

pub disturbances_grow : {start : Start} {first run : List Event} → Since start first run → (who bucket : ℕ) →
    disturbances start first who bucket ≤ disturbances start run who bucket
disturbances_grow x who bucket = let s = disturbances_sum x who bucket in omega (arith, s)

-- ---- own events

pub own_since : {start : Start} {first run : List Event} (x : Since start first run) (who : ℕ) →
    own_entries start run who ≡ own_entries start first who ++ entries_by who x.entries
own_since {start} {first} x who =
    ap (entries_by who) x.adds ∙ filter-append (λ (entry : Entry). entry.pass == who) (chronicle start first) x.entries

-- a pass that added none to its own events added none
pub none_since : {start : Start} {first run : List Event} (x : Since start first run) (who : ℕ) →
    own_entries start run who ≡ own_entries start first who → NoneBy who x.entries
none_since {start} {first} x who same =
    let own = own_entries start first who in
    none_by who x.entries
    (append_cancel_left own (entries_by who x.entries) [] (sym (own_since x who) ∙ same ∙ sym (append-nil own)))

own_changes_sum : {start : Start} {first run : List Event} (x : Since start first run) (who bucket : ℕ) →
    own_changes start run who bucket
    ≡ own_changes start first who bucket + own_changes_in start who bucket (incarnations_after start first) x.entries
own_changes_sum {start} x who bucket =
    sum_since x (own_changes_in start who bucket) (own_changes_in-append start who bucket)

-- so it changed nothing itself
pub own_unchanged : {start : Start} {first run : List Event} (x : Since start first run) (who bucket : ℕ) →
    own_entries start run who ≡ own_entries start first who →
    own_changes start run who bucket ≡ own_changes start first who bucket
own_unchanged {start} {first} x who bucket same =
    let s = own_changes_sum x who bucket in
    let none = none_changes start who bucket (incarnations_after start first) x.entries (none_since x who same) in
    omega (arith, s, none)

-- nor between any two moments of that
pub own_between : {start : Start} {p x y r : List Event} → Since start p x → Since start x y → Since start y r →
    (who bucket : ℕ) → own_changes start r who bucket ≡ own_changes start p who bucket →
    own_changes start y who bucket ≡ own_changes start x who bucket
own_between a b c who bucket same =
    let e1 = own_changes_sum a who bucket in
    let e2 = own_changes_sum b who bucket in
    let e3 = own_changes_sum c who bucket in
    omega (arith, e1, e2, e3, same)

-- ---- what shows a disturbance

module _ {start : Start} {first run : List Event} (x : Since start first run) (who bucket : ℕ)
    (same : own_changes start run who bucket ≡ own_changes start first who bucket) where
  -- there was one, or all events since were calm
  calm_or_more : (IsCalm start bucket (incarnations_after start first) x.entries) ⊎
      (disturbances start first who bucket < disturbances start run who bucket)
  calm_or_more = go (disturbances_in start who bucket (incarnations_after start first) x.entries) refl
    where
      own : own_changes_in start who bucket (incarnations_after start first) x.entries ≡ 0
      own = let s = own_changes_sum x who bucket in omega (arith, s, same)

      go : (n : ℕ) → disturbances_in start who bucket (incarnations_after start first) x.entries ≡ n →
          (IsCalm start bucket (incarnations_after start first) x.entries) ⊎
          (disturbances start first who bucket < disturbances start run who bucket)
      go zero z = inl (calm_from start who bucket (incarnations_after start first) x.entries own z)
      go (suc n) z = inr (let s = disturbances_sum x who bucket in omega (arith, s, z))

  -- a law: where a pass that changed nothing itself was disturbed no more, the epoch and each open place of the
  -- bucket are as they were
  calm_where : disturbances start run who bucket ≡ disturbances start first who bucket →
      IsCalm start bucket (incarnations_after start first) x.entries
  calm_where none = go calm_or_more
    where
      go : (IsCalm start bucket (incarnations_after start first) x.entries) ⊎
          (disturbances start first who bucket < disturbances start run who bucket) →
          IsCalm start bucket (incarnations_after start first) x.entries
      go (inl calm) = calm
      go (inr more) = absurd (omega (arith, none, more))

  pub undisturbed_shown : disturbances start run who bucket ≡ disturbances start first who bucket → (place : At) →
      IsOpenIn start (incarnations_after start first) bucket place →
      link_shown_at (incarnations_after start run) place ≡ link_shown_at (incarnations_after start first) place
  undisturbed_shown none place is = ap (λ (a : Incarnations). link_shown_at a place) x.makes
      ∙ calm_shown start (opening_keys start) bucket (incarnations_after start first) x.entries x.sound x.lawful
      (calm_where none) place is

  -- and so there was one where they can't all have been calm
  not_calm : (IsCalm start bucket (incarnations_after start first) x.entries → ⊥) →
      disturbances start first who bucket < disturbances start run who bucket
  not_calm some = go calm_or_more
    where
      go : (IsCalm start bucket (incarnations_after start first) x.entries) ⊎
          (disturbances start first who bucket < disturbances start run who bucket) →
          disturbances start first who bucket < disturbances start run who bucket
      go (inl calm) = absurd (some calm)
      go (inr more) = more

  -- a law: where the epoch has moved, a pass that changed nothing itself was disturbed
  pub moved_disturbed : (incarnations_after start run).epoch ≢ (incarnations_after start first).epoch →
      disturbances start first who bucket < disturbances start run who bucket
  moved_disturbed other = not_calm (λ calm. other
      (ap (λ (a : Incarnations). a.epoch) x.makes
      ∙ calm_epoch start bucket (incarnations_after start first) x.entries calm))

  -- a law: and so it was where an open place of the bucket shows another link
  pub changed_disturbed : (place : At) → IsOpenIn start (incarnations_after start first) bucket place →
      link_shown_at (incarnations_after start run) place ≢ link_shown_at (incarnations_after start first) place →
      disturbances start first who bucket < disturbances start run who bucket
  changed_disturbed place is other = not_calm (λ calm. other
      (ap (λ (a : Incarnations). link_shown_at a place) x.makes
      ∙ calm_shown start (opening_keys start) bucket (incarnations_after start first) x.entries x.sound x.lawful calm
      place is))

-- ---- own steps

-- by a step of its own that changes nothing a pass changes nothing, whatever others did before
pub step_changes_none : (start : Start) (seen rest : List Event) (who bucket : ℕ) (step : Step) → NoneOf who rest →
    ((w : World) (a : Incarnations) → own_changes_in start who bucket a (happens start w a who step) ≡ 0) →
    own_changes start ((seen ++ rest) ++ (record { pass = who; step = step }) ∷ []) who bucket
    ≡ own_changes start seen who bucket
step_changes_none start seen rest who bucket step none changes_none =
    let w = world_after start seen in
    let a = incarnations_after start seen in
    let others = chronicle_from start w a rest in
    let event : Event = record { pass = who; step = step } in
    let before = seen ++ rest in
    let now = happens start (world_after start before) (incarnations_after start before) who step in
    let one : chronicle start before ≡ chronicle start seen ++ others =
    chronicle_from-append start (opening start) (at_opening start) seen rest in
    let two : chronicle start (before ++ event ∷ []) ≡ chronicle start before ++ (now ++ []) =
    chronicle_from-append start (opening start) (at_opening start) before (event ∷ []) in
    let quiet = none_changes start who bucket a others (none_by who others (others_add start w a who rest none)) in
    let s1 : own_changes start before who bucket
    ≡ own_changes start seen who bucket + own_changes_in start who bucket a others =
    ap (own_changes_in start who bucket (at_opening start)) one
    ∙ own_changes_in-append start who bucket (at_opening start) (chronicle start seen) others in
    let s2 : own_changes start (before ++ event ∷ []) who bucket
    ≡ own_changes start before who bucket + own_changes_in start who bucket (incarnations_after start before)
    (now ++ []) = ap (own_changes_in start who bucket (at_opening start)) two
    ∙ own_changes_in-append start who bucket (at_opening start) (chronicle start before) (now ++ []) in
    let s3 : own_changes_in start who bucket (incarnations_after start before) (now ++ []) ≡ 0 =
    ap (own_changes_in start who bucket (incarnations_after start before)) (append-nil now)
    ∙ changes_none (world_after start before) (incarnations_after start before) in
    omega (arith, quiet, s1, s2, s3)

-- ---- a pass that is alone

counts_no_own : (p q : Bool) → p ≡ true → one_if (not p && q) ≡ 0
counts_no_own true q e = refl
counts_no_own false q e = absurd (cc)

own_disturb_none : (start : Start) (who bucket : ℕ) (a : Incarnations) (entries : List Entry) → AreBy who entries →
    disturbances_in start who bucket a entries ≡ 0
own_disturb_none start who bucket a [] by = refl
own_disturb_none start who bucket a (entry ∷ entries) by =
    let one = counts_no_own (entry.pass == who) (changes start a bucket entry.what) (eq-eqb entry.pass who by.0) in
    let rest = own_disturb_none start who bucket (becomes start a entry.pass entry.what) entries by.1 in
    omega (arith, one, rest)

-- a law: a pass doesn't disturb itself
pub undisturbed_by_itself : (start : Start) (run : List Event) (event : Event) (bucket : ℕ) →
    disturbances start (run ++ event ∷ []) event.pass bucket ≡ disturbances start run event.pass bucket
undisturbed_by_itself start run event bucket =
    let now = happens start (world_after start run) (incarnations_after start run) event.pass event.step in
    let adds : chronicle start (run ++ event ∷ []) ≡ chronicle start run ++ (now ++ []) =
    chronicle_from-append start (opening start) (at_opening start) run (event ∷ []) in
    let none = own_disturb_none start event.pass bucket (incarnations_after start run) (now ++ [])
    (let P : List Entry → Type 0 = AreBy event.pass in
    subst P (sym (append-nil now))
    (happens_by start (world_after start run) (incarnations_after start run) event.pass event.step)) in
    let sum : disturbances start (run ++ event ∷ []) event.pass bucket
    ≡ disturbances start run event.pass bucket + disturbances_in start event.pass bucket (incarnations_after start run)
    (now ++ []) =
    (ap (disturbances_in start event.pass bucket (at_opening start)) adds
    ∙ disturbances_in-append start event.pass bucket (at_opening start) (chronicle start run) (now ++ [])) in
    omega (arith, sum, none)
