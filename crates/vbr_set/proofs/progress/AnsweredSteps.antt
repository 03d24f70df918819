-- In a stretch in which many steps are made a whole call lies, and so somebody is answered.
use Rattle.std.proofs.Common.{◌≡◌, ℕ, zero, suc, ◌+◌, ◌*◌, ◌<◌, ◌≤◌, ◌==◌, Bool, cond, List, [], ◌∷◌, ◌++◌}
use Rattle.std.proofs.Common.{length, length-append, Ok, Err, refl, ap, sym, subst, ◌∙◌, append_assoc}
use Rattle.std.proofs.Common.{append-nil, eq-eqb, arith, inl, inr, ⊎_elim}
use Rattle.std.specs.Prelude.{◌⊎◌, Contains}
use Rattle.std.proofs.lemmas.Bool.{cases_order}
use Rattle.std.proofs.lemmas.List.{append_cancel_left}
use Rattle.std.proofs.lemmas.List.Sums.{sum_by-append}
use Rattle.vbr_machine.specs.Start.{Start}
use Rattle.vbr_machine.specs.Machine.{World, after}
use Rattle.vbr_machine.specs.Runs.{AreAccepted, Begins, BeginsFor, IsRun, NoneOf, world_after}
use Rattle.vbr_machine.specs.Whereabouts.{sum_of}
use Rattle.vbr_machine.specs.declared.event.Event.{Event}
use Rattle.vbr_machine.specs.declared.history.Call.{Call}
use Rattle.vbr_machine.proofs.Lemmas.{begins_refl, begins_run, begins_trans, calls_since, is_run_after}
use Rattle.vbr_machine.specs.History.{calls_by}
use Rattle.vbr_slots.specs.steps.Calls.{IsSame, Made, Quiet, made_by}
use Rattle.vbr_slots.specs.views.Views.{PassView, Trace, steps_in, steps_of}
use Rattle.vbr_slots.proofs.Lemmas.{same_on}
use Rattle.vbr_at_table.specs.costs.WithinBudget.{TookWithin}
use Rattle.vbr_at_table.specs.declared.refusal.Refusal.TheVariants.{OutOfSteps}
use Rattle.vbr_list.specs.updates.Storing.{Makes, stored_calls}
use Rattle.vbr_set.specs.progress.Callers.{CallsAreAnswered, CallsOn, CallsThrough, CallsOrRests, MadeAmply, MakesFew}
use Rattle.vbr_set.specs.progress.Callers.{Rests, SomebodyIsAnswered, StepsAreAnswered, got, inserted, inserted_entry}
use Rattle.vbr_set.specs.progress.Callers.{last_view, inserted_entry_knowing, inserted_knowing, looked_up, removed}
use Rattle.vbr_set.specs.progress.Callers.{removed_entry, removed_if, stored, stored_knowing}
use Rattle.vbr_set.specs.histories.Histories.{calls_of}
use Rattle.vbr_set.specs.progress.Progressing.{AnotherIsAnswered, Proceeds, SeesRun}
use Rattle.vbr_set.specs.progress.WalkProgress.{BringsAWalkOn, BringsOn, CallsRestsOrWalks, DoesInStretch}
use Rattle.vbr_set.specs.progress.WalkProgress.{SomebodyGoesOn, StepsOrWalksAreAnswered, WalkedAmply, WalksOnWithin}
use Rattle.vbr_set.specs.progress.WalkProgress.{called, comes_through, makes_few, walked}
use Rattle.vbr_set.proofs.progress.AnsweredCalls.{map_refusals_show, refusals_show}
use Rattle.vbr_set.proofs.progress.AnsweredWalks.{walks_show}
use Rattle.vbr_set.proofs.progress.KnownBudgets.{known_budgets_show}
use Rattle.vbr_set.proofs.sums.PassSums.{one_in_sum, sum_at_most, sum_both, sum_same}
use Rattle.vbr_set.proofs.progress.StretchedRuns.{run_at}

-- ---- what one call shows

-- what a call with budget enough tells of its steps, and that somebody is answered
record Facts (p q : PassView) (budget : ℕ) : Type 0 where
  same : IsSame p.trace q.trace
  seen : Begins p.trace.seen q.trace.seen
  steps : TookWithin p.trace q.trace budget
  answered : SeesRun p.trace → Proceeds p.trace q.trace → SomebodyIsAnswered p.trace q.trace

-- the pass was answered itself
own_answered : (p q : Trace) (call : Call) (more : List Call) → IsSame p q → Begins p.seen q.seen →
    made_by q ≡ made_by p ++ call ∷ more → SomebodyIsAnswered p q
own_answered p q call more same seen calls =
    record {
      since = since.0;
      adds = ap (λ (s : Start). calls_of s q.seen) same.start ∙ since.1;
      some = λ none. nothing (append_cancel_left (made_by p) (call ∷ more) []
          (sym calls ∙ stays none ∙ sym (append-nil (made_by p))));
    }
  where
    since : (calls : List Call) × (calls_of p.start q.seen ≡ calls_of p.start p.seen ++ calls)
    since = calls_since p.start p.seen q.seen seen

    stays : since.0 ≡ [] → made_by q ≡ made_by p
    stays none = (λ i. calls_by (same.who i) (calls_of (same.start i) q.seen))
        ∙ ap (calls_by p.who) (since.1 ∙ ap (λ (l : List Call). calls_of p.start p.seen ++ l) none
        ∙ append-nil (calls_of p.start p.seen))

    nothing : call ∷ more ≡ [] → ⊥
    nothing e = absurd (cc)

-- or another was
others_answered : (p q : Trace) → AnotherIsAnswered p q → SomebodyIsAnswered p q
others_answered p q a = record { since = a.since; adds = a.adds; some = λ none. go a.since none a.among }
  where
    go : (since : List Call) → since ≡ [] → Contains since a.call → ⊥
    go since none has = let l : length since ≡ 0 = ap length none in let low = has.1 in omega (arith, l, low)

module _ (p q : PassView) (budget : ℕ) where
  facts_ok : (call : Call) → Made call p.trace q.trace → TookWithin p.trace q.trace budget → Facts p q budget
  facts_ok call made steps = record {
    same = made.same;
    seen = made.seen;
    steps = steps;
    answered = λ law goes. own_answered p.trace q.trace call [] made.same made.seen made.calls;
  }

  facts_err : Quiet p.trace q.trace → TookWithin p.trace q.trace budget →
      (SeesRun p.trace → Proceeds p.trace q.trace → AnotherIsAnswered p.trace q.trace) → Facts p q budget
  facts_err quiet steps shows = record {
    same = quiet.same;
    seen = quiet.seen;
    steps = steps;
    answered = λ law goes. others_answered p.trace q.trace (shows law goes);
  }

  -- one call or two
  facts_made : (calls : List Call) → Makes calls p.trace q.trace → TookWithin p.trace q.trace budget → Facts p q budget
  facts_made [] made steps = absurd made
  facts_made (one ∷ []) made steps = facts_ok one made steps
  facts_made (one ∷ two ∷ []) made steps = record {
    same = made.same;
    seen = made.seen;
    steps = steps;
    answered = λ law goes. own_answered p.trace q.trace one (two ∷ []) made.same made.seen made.calls;
  }
  facts_made (one ∷ two ∷ three ∷ more) made steps = absurd made

  facts_of : MadeAmply p q budget → Facts p q budget
  facts_of (looked_up key (Ok reply) enough c) = facts_ok _ c.made c.steps
  facts_of (looked_up key (Err refusal) enough c) =
      facts_err c.quiet c.steps (λ law goes. refusals_show.look_up p q key budget refusal law goes c enough)
  facts_of (removed key (Ok reply) enough c) = facts_ok _ c.made c.steps
  facts_of (removed key (Err refusal) enough c) =
      facts_err c.quiet c.steps (λ law goes. refusals_show.remove p q key budget refusal law goes c enough)
  facts_of (inserted key (Ok reply) enough room c) = facts_ok _ c.made c.steps
  facts_of (inserted key (Err (OutOfSteps used)) enough room c) =
      facts_err c.quiet c.steps (λ law goes. refusals_show.insert p q key budget used law goes c enough)
  facts_of (inserted key (Err _) enough room c) = absurd room
  facts_of (got key (Ok reply) enough c) = facts_ok _ c.calls.made c.calls.steps
  facts_of (got key (Err refusal) enough c) =
      facts_err c.calls.quiet c.calls.steps (λ law goes. map_refusals_show.get p q key budget refusal law goes c enough)
  facts_of (removed_entry key (Ok reply) enough c) = facts_ok _ c.calls.made c.calls.steps
  facts_of (removed_entry key (Err refusal) enough c) =
      facts_err c.calls.quiet c.calls.steps
      (λ law goes. map_refusals_show.remove_entry p q key budget refusal law goes c enough)
  facts_of (removed_if key expected (Ok reply) enough c) = facts_ok _ c.calls.made c.calls.steps
  facts_of (removed_if key expected (Err refusal) enough c) =
      facts_err c.calls.quiet c.calls.steps
      (λ law goes. map_refusals_show.remove_if p q key expected budget refusal law goes c enough)
  facts_of (inserted_entry key value (Ok reply) enough room c) = facts_ok _ c.calls.made c.calls.steps
  facts_of (inserted_entry key value (Err (OutOfSteps used)) enough room c) =
      facts_err c.calls.quiet c.calls.steps
      (λ law goes. map_refusals_show.insert_entry p q key value budget used law goes c enough)
  facts_of (inserted_entry key value (Err _) enough room c) = absurd room
  facts_of (stored key value wanted (Ok there) enough room c) =
      facts_made (stored_calls p.trace.who key value wanted there) c.made c.steps
  facts_of (stored key value wanted (Err (OutOfSteps used)) enough room c) =
      facts_err c.quiet c.steps
      (λ law goes. map_refusals_show.store p q key value wanted budget used law goes c enough)
  facts_of (stored key value wanted (Err _) enough room c) = absurd room
  facts_of (inserted_knowing key (Ok reply) beyond others enough room c) = facts_ok _ c.made c.steps
  facts_of (inserted_knowing key (Err (OutOfSteps used)) beyond others enough room c) =
      facts_err c.quiet c.steps
      (λ law goes. known_budgets_show.insert p q beyond key budget used law goes others c enough)
  facts_of (inserted_knowing key (Err _) beyond others enough room c) = absurd room
  facts_of (inserted_entry_knowing key value (Ok reply) beyond others enough room c) =
      facts_ok _ c.calls.made c.calls.steps
  facts_of (inserted_entry_knowing key value (Err (OutOfSteps used)) beyond others enough room c) =
      facts_err c.calls.quiet c.calls.steps
      (λ law goes. known_budgets_show.insert_entry p q beyond key value budget used law goes others c enough)
  facts_of (inserted_entry_knowing key value (Err _) beyond others enough room c) = absurd room
  facts_of (stored_knowing key value wanted (Ok there) beyond others enough room c) =
      facts_made (stored_calls p.trace.who key value wanted there) c.made c.steps
  facts_of (stored_knowing key value wanted (Err (OutOfSteps used)) beyond others enough room c) =
      facts_err c.quiet c.steps
      (λ law goes. known_budgets_show.store p q beyond key value wanted budget used law goes others c enough)
  facts_of (stored_knowing key value wanted (Err _) beyond others enough room c) = absurd room

pub calls_answered : CallsAreAnswered
calls_answered p q budget law goes made = (facts_of p q budget made).answered law goes

-- ---- beginnings of one run

first_same : (x y : Event) (xs ys : List Event) → x ∷ xs ≡ y ∷ ys → x ≡ y
first_same x y xs ys e = cc

rest_same : (x y : Event) (xs ys : List Event) → x ∷ xs ≡ y ∷ ys → xs ≡ ys
rest_same x y xs ys e = cc

-- one of two begins the other
either_begins : (xs ys a b : List Event) → xs ++ a ≡ ys ++ b → Begins xs ys ⊎ Begins ys xs
either_begins [] ys a b e = inl (ys, refl)
either_begins (x ∷ xs) [] a b e = inr (x ∷ xs, refl)
either_begins (x ∷ xs) (y ∷ ys) a b e = elim (either_begins xs ys a b (rest_same x y (xs ++ a) (ys ++ b) e)) [
  | inl l ↦ inl (l.0, λ i. sym first i ∷ l.1 i)
  | inr r ↦ inr (r.0, λ i. first i ∷ r.1 i)
]
  where
    first : x ≡ y
    first = first_same x y (xs ++ a) (ys ++ b) e

which_begins : (xs ys run : List Event) → Begins xs run → Begins ys run → Begins xs ys ⊎ Begins ys xs
which_begins xs ys run b c = either_begins xs ys b.0 c.0 (sym b.1 ∙ c.1)

none_front : (who : ℕ) (xs ys : List Event) → NoneOf who (xs ++ ys) → NoneOf who xs
none_front who [] ys none = tt
none_front who (x ∷ xs) ys none = (none.0, none_front who xs ys none.1)

none_back : (who : ℕ) (xs ys : List Event) → NoneOf who (xs ++ ys) → NoneOf who ys
none_back who [] ys none = none
none_back who (x ∷ xs) ys none = none_back who xs ys none.1

-- a pass that made no step in a stretch made none in a part of it
still_between : (who : ℕ) (first one two run : List Event) → Begins first one → Begins one two → Begins two run →
    BeginsFor who first run → BeginsFor who one two
still_between who first one two run a b c still =
    (b.0, b.1, none_front who b.0 c.0 (none_back who a.0 (b.0 ++ c.0) (subst (NoneOf who) same still.2)))
  where
    same : still.0 ≡ a.0 ++ (b.0 ++ c.0)
    same = append_cancel_left first still.0 (a.0 ++ (b.0 ++ c.0))
        (sym still.1 ∙ c.1 ∙ ap (λ (l : List Event). l ++ c.0) b.1 ∙ append_assoc one b.0 c.0
        ∙ ap (λ (l : List Event). l ++ (b.0 ++ c.0)) a.1 ∙ append_assoc first a.0 (b.0 ++ c.0))

-- ---- steps of one pass

steps_grow : (who : ℕ) (xs ys : List Event) → Begins xs ys → steps_in who xs ≤ steps_in who ys
steps_grow who xs ys b =
    let sum = sum_by-append (λ (e : Event). cond (e.pass == who) 1 0) xs b.0 in
    let is = ap (steps_in who) b.1 in
    omega (arith, sum, is)

-- of a call of a walk: it brings its cursor on, or somebody is answered
record WalkFacts (p q : PassView) (budget : ℕ) (Brought : Type 0) : Type 0 where
  same : IsSame p.trace q.trace
  seen : Begins p.trace.seen q.trace.seen
  steps : TookWithin p.trace q.trace budget
  brought : SeesRun p.trace → Proceeds p.trace q.trace → Brought ⊎ SomebodyIsAnswered p.trace q.trace

walk_facts : (p q : PassView) (budget : ℕ) (walk : WalkedAmply p q budget) →
    WalkFacts p q budget (BringsOn walk.from walk.to walk.answer)
walk_facts p q budget walk = record {
  same = walk.call.quiet.same;
  seen = walk.call.quiet.seen;
  steps = walk.call.steps;
  brought = λ law goes.
      ⊎_elim (λ on. inl on) (λ other. inr (others_answered p.trace q.trace other))
      (walks_show.on p q walk.from walk.to budget walk.answer law goes walk.call walk.enough);
}

-- what a pass does next, in any case
record Goes (most : ℕ) (p q : PassView) : Type 0 where
  same : IsSame p.trace q.trace
  seen : Begins p.trace.seen q.trace.seen
  few : steps_of q.trace ≤ steps_of p.trace + most

goes_of : (most : ℕ) (p q : PassView) → CallsRestsOrWalks most p q → Goes most p q
goes_of most p q (called (inl rests)) = let same = rests.steps in record {
  same = rests.same;
  seen = rests.seen;
  few = omega (arith, same);
}
goes_of most p q (called (inr call)) =
    let goes = call.2 in
    let facts = facts_of p goes.back call.0 goes.call in
    let few = goes.steps in
    let low = call.1 in
    record {
      same = same_on facts.same goes.same;
      seen = begins_trans p.trace.seen goes.back.trace.seen q.trace.seen facts.seen goes.seen;
      few = omega (arith, few, low);
    }
goes_of most p q (walked budget low walk) =
    let facts = walk_facts p q budget walk in
    let took = facts.steps.took.made in
    let within = facts.steps.within in
    record { same = facts.same; seen = facts.seen; few = omega (arith, took, within, low) }

-- by that it makes no more steps than so many
call_steps : (most who : ℕ) {v w : PassView} → v.trace.who ≡ who → Goes most v w →
    steps_in who w.trace.seen ≤ steps_in who v.trace.seen + most
call_steps most who {v} {w} is goes =
    let few = goes.few in
    let first : steps_of v.trace ≡ steps_in who v.trace.seen = ap (λ (k : ℕ). steps_in k v.trace.seen) is in
    let last : steps_of w.trace ≡ steps_in who w.trace.seen =
    ap (λ (k : ℕ). steps_in k w.trace.seen) (goes.same.who ∙ is) in
    omega (arith, few, first, last)

-- none where it rests
rest_steps : (who : ℕ) (v w : PassView) → v.trace.who ≡ who → Rests v w →
    steps_in who w.trace.seen ≡ steps_in who v.trace.seen
rest_steps who v w is rests =
    sym (ap (λ (k : ℕ). steps_in k w.trace.seen) (rests.same.who ∙ is)) ∙ rests.steps
    ∙ ap (λ (k : ℕ). steps_in k v.trace.seen) is

calls_seen : (most : ℕ) (v : PassView) (views : List PassView) → CallsOn (CallsRestsOrWalks most) v views →
    Begins v.trace.seen (last_view v views).trace.seen
calls_seen most v [] calls = begins_refl v.trace.seen
calls_seen most v (w ∷ views) calls =
    begins_trans v.trace.seen w.trace.seen (last_view w views).trace.seen (goes_of most v w calls.1).seen
    (calls_seen most w views calls.2)

-- ---- a whole call in a stretch

-- a pass of the same table
record IsLike (p v : PassView) : Type 0 where
  start : v.trace.start ≡ p.trace.start
  passes : v.trace.passes ≡ p.trace.passes

like_on : {p v w : PassView} → IsLike p v → IsSame v.trace w.trace → IsLike p w
like_on like same = record { start = same.start ∙ like.start; passes = same.passes ∙ like.passes }

-- of two lists that are none together each is
first_none : (xs ys : List Call) → xs ++ ys ≡ [] → xs ≡ []
first_none [] ys e = refl
first_none (x ∷ xs) ys e = absurd (cc)

last_none : (xs ys : List Call) → xs ++ ys ≡ [] → ys ≡ []
last_none [] ys e = e
last_none (x ∷ xs) ys e = absurd (cc)

module _ (p q : PassView) (goes : Proceeds p.trace q.trace) where
  -- a part of the stretch
  part : (v w : PassView) → IsLike p v → IsSame v.trace w.trace → Begins p.trace.seen v.trace.seen →
      Begins v.trace.seen w.trace.seen → Begins w.trace.seen q.trace.seen → Proceeds v.trace w.trace
  part v w like same a b c = record {
    sees = record {
      same = same;
      begins = b;
      is_run = begins_run w.trace.start w.trace.passes w.trace.seen q.trace.seen c
          (run_at q.trace.seen to_start to_passes goes.sees.is_run);
    };
    each = λ who low. elim (goes.each who (subst (λ (n : ℕ). who < n) (sym to_passes) low)) [
      | inl still ↦ inl (still_between who p.trace.seen v.trace.seen w.trace.seen q.trace.seen a b c still)
      | inr back ↦
          inr (record {
            view = back.view;
            is = back.is;
            start = back.start ∙ to_start;
            in_need = back.in_need;
            run = back.run;
            own = back.own;
            seen = begins_trans w.trace.seen q.trace.seen back.run c back.seen;
          })
    ];
  }
    where
      to_start : q.trace.start ≡ w.trace.start
      to_start = goes.sees.same.start ∙ sym (same.start ∙ like.start)

      to_passes : q.trace.passes ≡ w.trace.passes
      to_passes = goes.sees.same.passes ∙ sym (same.passes ∙ like.passes)

  -- what was answered in a part was answered in the whole
  whole : (v w : PassView) → IsLike p v → IsSame v.trace w.trace → Begins p.trace.seen v.trace.seen →
      Begins w.trace.seen q.trace.seen → SomebodyIsAnswered v.trace w.trace → SomebodyIsAnswered p.trace q.trace
  whole v w like same a c s =
      let start = p.trace.start in
      let before = calls_since start p.trace.seen v.trace.seen a in
      let later = calls_since start w.trace.seen q.trace.seen c in
      let middle : calls_of start w.trace.seen ≡ calls_of start v.trace.seen ++ s.since =
      ap (λ (x : Start). calls_of x w.trace.seen) (sym (same.start ∙ like.start)) ∙ s.adds
      ∙ ap (λ (x : Start). calls_of x v.trace.seen ++ s.since) like.start in
      record {
        since = before.0 ++ (s.since ++ later.0);
        adds = ap (λ (x : Start). calls_of x q.trace.seen) goes.sees.same.start ∙ later.1
            ∙ ap (λ (l : List Call). l ++ later.0) middle
            ∙ append_assoc (calls_of start v.trace.seen) s.since later.0
            ∙ ap (λ (l : List Call). l ++ (s.since ++ later.0)) before.1
            ∙ append_assoc (calls_of start p.trace.seen) before.0 (s.since ++ later.0);
        some = λ none. s.some (first_none s.since later.0 (last_none before.0 (s.since ++ later.0) none));
      }

  -- a call that lies in the stretch
  inside : (v w : PassView) (budget : ℕ) → SeesRun v.trace → IsLike p v → Facts v w budget →
      Begins p.trace.seen v.trace.seen → Begins w.trace.seen q.trace.seen → SomebodyIsAnswered p.trace q.trace
  inside v w budget law like facts a c =
      whole v w like facts.same a c (facts.answered law (part v w like facts.same a facts.seen c))

  -- ---- the steps of one pass in the stretch

  -- somebody is answered in it, or a call of a walk of these brings its cursor on
  abbrev Done : (most : ℕ) → (v : PassView) → (views : List PassView) → CallsOn (CallsRestsOrWalks most) v views →
      Type 0
  Done most v views does =
      SomebodyIsAnswered p.trace q.trace ⊎ WalksOnWithin p.trace q.trace most v views does

  abbrev FewOr : ℕ → ℕ → Type 0 → Type 0
  FewOr who steps Else = (steps_in who q.trace.seen ≤ steps) ⊎ Else

  -- what is done later is done
  later_done : {most : ℕ} {v w : PassView} (views : List PassView) (next : CallsRestsOrWalks most v w)
      (law : SeesRun v.trace) (does : CallsOn (CallsRestsOrWalks most) w views) → Done most w views does →
      Done most v (w ∷ views) (law, next, does)
  later_done views next law does (inl answered) = inl answered
  later_done views next law does (inr walks) = inr (inr walks)

  -- from a view in the stretch on
  from_within : (most who : ℕ) (v : PassView) (views : List PassView) → v.trace.who ≡ who → IsLike p v →
      (does : CallsOn (CallsRestsOrWalks most) v views) → Begins p.trace.seen v.trace.seen →
      Begins q.trace.seen (last_view v views).trace.seen →
      FewOr who (steps_in who v.trace.seen + most) (Done most v views does)
  from_within most who v [] is like does a later =
      inl (let few = steps_grow who q.trace.seen v.trace.seen later in omega (arith, few))
  from_within most who v (w ∷ views) is like does a later =
      go does.1
      (λ on. from_within most who w views (step.same.who ∙ is) (like_on like step.same) does.2
      (begins_trans p.trace.seen v.trace.seen w.trace.seen a step.seen) later)
      (which_begins q.trace.seen w.trace.seen (last_view w views).trace.seen later
      (calls_seen most w views does.2))
    where
      step : Goes most v w
      step = goes_of most v w does.1

      rest_of : (next : CallsRestsOrWalks most v w) → (n : ℕ) → FewOr who n (Done most w views does.2) →
          FewOr who n (Done most v (w ∷ views) (does.0, next, does.2))
      rest_of next n (inl few) = inl few
      rest_of next n (inr done) = inr (later_done views next does.0 does.2 done)

      go : (next : CallsRestsOrWalks most v w) →
          (Begins w.trace.seen q.trace.seen → FewOr who (steps_in who w.trace.seen + most) (Done most w views does.2)) →
          Begins q.trace.seen w.trace.seen ⊎ Begins w.trace.seen q.trace.seen →
          FewOr who (steps_in who v.trace.seen + most) (Done most v (w ∷ views) (does.0, next, does.2))
      go next rest (inl ends) =
          inl (let few = steps_grow who q.trace.seen w.trace.seen ends in
          let one = call_steps most who is step in
          omega (arith, few, one))
      go (called (inl rests)) rest (inr on) =
          rest_of (called (inl rests)) (steps_in who v.trace.seen + most)
          (subst (λ (n : ℕ). FewOr who (n + most) (Done most w views does.2)) (rest_steps who v w is rests) (rest on))
      go (called (inr call)) rest (inr on) =
          let goes = call.2 in
          inr (inl (inside v goes.back call.0 does.0 like (facts_of v goes.back call.0 goes.call) a
          (begins_trans goes.back.trace.seen w.trace.seen q.trace.seen goes.seen on)))
      go (walked budget low walk) rest (inr on) =
          let facts = walk_facts v w budget walk in
          inr (elim (facts.brought does.0 (part v w like facts.same a facts.seen on)) [
            | inl brought ↦ inr (inl (a, on, brought))
            | inr answered ↦ inl (whole v w like facts.same a on answered)
          ])

  -- from a view ahead of it
  from_ahead : (most who : ℕ) (v : PassView) (views : List PassView) → v.trace.who ≡ who → IsLike p v →
      (does : CallsOn (CallsRestsOrWalks most) v views) → Begins v.trace.seen p.trace.seen →
      Begins q.trace.seen (last_view v views).trace.seen →
      FewOr who (steps_in who p.trace.seen + 2 * most) (Done most v views does)
  from_ahead most who v [] is like does a later =
      inl (let few = steps_grow who q.trace.seen v.trace.seen later in
      let first = steps_grow who v.trace.seen p.trace.seen a in
      omega (arith, few, first))
  from_ahead most who v (w ∷ views) is like does a later =
      let step = goes_of most v w does.1 in
      elim (which_begins p.trace.seen w.trace.seen (last_view w views).trace.seen
      (begins_trans p.trace.seen q.trace.seen (last_view w views).trace.seen goes.sees.begins later)
      (calls_seen most w views does.2)) [
        | inl comes ↦
            elim (from_within most who w views (step.same.who ∙ is) (like_on like step.same) does.2 comes later) [
              | inl few ↦
                  inl (let one = call_steps most who is step in
                  let first = steps_grow who v.trace.seen p.trace.seen a in
                  omega (arith, few, one, first))
              | inr done ↦ inr (later_done views does.1 does.0 does.2 done)
            ]
        | inr ahead ↦
            elim (from_ahead most who w views (step.same.who ∙ is) (like_on like step.same) does.2 ahead later) [
              | inl few ↦ inl few
              | inr done ↦ inr (later_done views does.1 does.0 does.2 done)
            ]
      ]

  -- a pass makes few steps in the stretch, or somebody is answered in it, or a walk of the pass is brought on
  few_or_done : (most who : ℕ) (does : DoesInStretch p.trace q.trace most who) →
      MakesFew p.trace q.trace (2 * most) who ⊎ (SomebodyIsAnswered p.trace q.trace ⊎ BringsAWalkOn does)
  few_or_done most who (makes_few few) = inl few
  few_or_done most who (comes_through c) =
      from_ahead most who c.first c.views c.is (record { start = c.start; passes = c.passes }) c.calls c.earlier c.later

  abbrev AllFew : ℕ → ℕ → Type 0
  AllFew most n = (who : ℕ) → who < n → MakesFew p.trace q.trace (2 * most) who

  one_few_more : (most n : ℕ) → AllFew most n → MakesFew p.trace q.trace (2 * most) n → AllFew most (suc n)
  one_few_more most n few last who low = elim (cases_order who n) [
    | inl is ↦ subst (MakesFew p.trace q.trace (2 * most)) (sym is) last
    | inr (inl less) ↦ few who less
    | inr (inr more) ↦ absurd (omega (arith, low, more))
  ]

  -- all of them do, or something is done
  all_few : (most n : ℕ) (Else : Type 0) →
      ((who : ℕ) → who < n → MakesFew p.trace q.trace (2 * most) who ⊎ Else) → AllFew most n ⊎ Else
  all_few most zero Else each = inl (λ who low. absurd (omega (arith, low)))
  all_few most (suc n) Else each =
      elim (all_few most n Else (λ who low. each who (omega (arith, low)))) [
        | inr done ↦ inr done
        | inl few ↦ ⊎_elim (λ last. inl (one_few_more most n few last)) (λ done. inr done) (each n (omega arith))
      ]

-- ---- all steps

-- each event is a step of one of the passes
all_steps : (start : Start) (passes : ℕ) (w : World) (events : List Event) → AreAccepted start passes w events →
    length events ≤ sum_of passes (λ who. steps_in who events)
all_steps start passes w [] accepted = omega arith
all_steps start passes w (e ∷ events) accepted =
    let own : 0 + cond (e.pass == e.pass) 1 0 ≡ 1 = ap (λ (b : Bool). 0 + cond b 1 0) (eq-eqb e.pass e.pass refl) in
    let its = one_in_sum passes e.pass (λ who. steps_in who (e ∷ [])) accepted.0.0 in
    let rest = all_steps start passes (after start w e.pass e.step) events accepted.1 in
    let each = sum_same passes (λ who. steps_in who (e ∷ events)) (λ who. steps_in who (e ∷ []) + steps_in who events)
    (λ who. sum_by-append (λ (x : Event). cond (x.pass == who) 1 0) (e ∷ []) events) in
    let sum = sum_both passes (λ who. steps_in who (e ∷ [])) (λ who. steps_in who events) in
    omega (arith, own, its, rest, each, sum)

-- not all passes make few steps in a stretch in which all of them make so many
not_all_few : (p q : PassView) (most : ℕ) → SeesRun p.trace → Proceeds p.trace q.trace →
    length p.trace.seen + 2 * most * p.trace.passes < length q.trace.seen →
    ((who : ℕ) → who < p.trace.passes → MakesFew p.trace q.trace (2 * most) who) → ⊥
not_all_few p q most law goes many few = omega (arith, most_of_all, all, long, many)
  where
    b : Begins p.trace.seen q.trace.seen
    b = goes.sees.begins

    run : IsRun p.trace.start p.trace.passes (p.trace.seen ++ b.0)
    run = subst (λ (l : List Event). IsRun p.trace.start p.trace.passes l) b.1
        (run_at q.trace.seen goes.sees.same.start goes.sees.same.passes goes.sees.is_run)

    all : length b.0 ≤ sum_of p.trace.passes (λ who. steps_in who b.0)
    all = all_steps p.trace.start p.trace.passes (world_after p.trace.start p.trace.seen) b.0
        (is_run_after p.trace.start p.trace.passes p.trace.seen b.0 run)

    long : length q.trace.seen ≡ length p.trace.seen + length b.0
    long = ap length b.1 ∙ length-append p.trace.seen b.0

    most_of_all : sum_of p.trace.passes (λ who. steps_in who b.0) ≤ p.trace.passes * (2 * most)
    most_of_all =
        let all_of = sum_at_most p.trace.passes (2 * most) (λ who. steps_in who b.0)
        (λ who low. (let f = few who low in
        let sum = sum_by-append (λ (e : Event). cond (e.pass == who) 1 0) p.trace.seen b.0 in
        let is = ap (steps_in who) b.1 in
        omega (arith, f, sum, is))) in
        omega (arith, all_of)

pub steps_or_walks : StepsOrWalksAreAnswered
steps_or_walks p q most law goes does many =
    elim (all_few p q goes most p.trace.passes (SomebodyGoesOn p.trace q.trace most does)
    (λ who low. elim (few_or_done p q goes most who (does who low)) [
      | inl few ↦ inl few
      | inr (inl answered) ↦ inr (inl answered)
      | inr (inr walks) ↦ inr (inr (who, low, walks))
    ])) [
      | inr done ↦ done
      | inl few ↦ absurd (not_all_few p q most law goes many few)
    ]

-- ---- callers that don't walk

-- they do what callers do that may walk
abbrev as_walker : (most : ℕ) → (v : PassView) → (views : List PassView) → CallsOn (CallsOrRests most) v views →
    CallsOn (CallsRestsOrWalks most) v views
as_walker most v [] calls = tt
as_walker most v (w ∷ views) calls = (calls.0, called calls.1, as_walker most w views calls.2)

abbrev as_walkers : {p q : Trace} {most who : ℕ} →
    MakesFew p q (2 * most) who ⊎ CallsThrough (CallsOrRests most) p q who → DoesInStretch p q most who
as_walkers (inl few) = makes_few few
as_walkers {most = most} (inr c) = comes_through (record {
  first = c.first;
  views = c.views;
  is = c.is;
  start = c.start;
  passes = c.passes;
  calls = as_walker most c.first c.views c.calls;
  earlier = c.earlier;
  later = c.later;
})

-- none of it is a walk
no_walk : (p q : Trace) (most : ℕ) (v : PassView) (views : List PassView)
    (calls : CallsOn (CallsOrRests most) v views) →
    WalksOnWithin p q most v views (as_walker most v views calls) → ⊥
no_walk p q most v [] calls walks = walks
no_walk p q most v (w ∷ views) calls (inl here) = here.2
no_walk p q most v (w ∷ views) calls (inr later) = no_walk p q most w views calls.2 later

no_walks : {p q : Trace} {most who : ℕ}
    (does : MakesFew p q (2 * most) who ⊎ CallsThrough (CallsOrRests most) p q who) →
    BringsAWalkOn (as_walkers does) → ⊥
no_walks (inl few) walks = walks
no_walks {p} {q} {most} (inr c) walks = no_walk p q most c.first c.views c.calls walks

pub steps_answered : StepsAreAnswered
steps_answered p q most law goes each many =
    elim (steps_or_walks p q most law goes (λ who low. as_walkers (each who low)) many) [
      | inl answered ↦ answered
      | inr walks ↦ absurd (no_walks (each walks.0 walks.1) walks.2)
    ]
