-- Where each pass advances the epoch in need, a call with budget enough is refused only where another is answered.
use Rattle.std.proofs.Common.{◌≡◌, ℕ, zero, suc, ◌+◌, ◌*◌, ◌<◌, ◌≤◌, ◌==◌, ◌&&◌, cond, [], ◌∷◌, ◌++◌}
use Rattle.std.proofs.Common.{refl, ap, sym, subst, ◌∙◌, arith, inl, inr, ⊎_elim}
use Rattle.std.specs.Prelude.{count_by}
use Rattle.std.proofs.lemmas.List.Sums.{sum_by-append}
use Rattle.vbr_words.specs.Buckets.{bucket_of}
use Rattle.vbr_machine.specs.Needs.{AdvancesInNeed}
use Rattle.vbr_machine.specs.Runs.{IsRun}
use Rattle.vbr_machine.specs.Start.{Start}
use Rattle.vbr_machine.specs.declared.event.Event.{Event}
use Rattle.vbr_machine.specs.Unretired.{removes}
use Rattle.vbr_machine.proofs.Lemmas.{AllAdvanceInNeed, disturbances_answered, epoch_paid, need_between, need_still}
use Rattle.vbr_machine.proofs.Lemmas.{run_agrees}
use Rattle.vbr_slots.specs.steps.Calls.{Quiet}
use Rattle.vbr_slots.specs.views.Views.{PassView, TableView, Trace, new_trace}
use Rattle.vbr_at_table.specs.costs.Advances.{AdvancedInNeed}
use Rattle.vbr_at_table.specs.costs.StepKinds.{advances, is_advance}
use Rattle.vbr_at_table.proofs.Lemmas.{did_none, stays_in_need}
use Rattle.vbr_list.specs.look_ups.Cursors.{SeesMore}
use Rattle.vbr_list.specs.calls.Budgets.{listed_for}
use Rattle.vbr_list.specs.traversals.Disturbed.{disturbed, disturbed_in, enough_among, enough_to_insert_among}
use Rattle.vbr_list.specs.traversals.Disturbed.{enough_to_search_among, enough_to_store_among, steps_for_slot}
use Rattle.vbr_list.specs.traversals.Disturbed.{steps_to_prepare}
use Rattle.vbr_list.specs.declared.wanted.Wanted.{Wanted}
use Rattle.vbr_at_table.specs.declared.refusal.Refusal.TheVariants.{OutOfSteps}
use Rattle.vbr_set.specs.progress.Progressing.{AnotherIsAnswered, AnswersDisturb, EpochsArePaid}
use Rattle.vbr_set.specs.progress.Progressing.{MapRefusalsShowAnswers, PassesAdvanceInNeed, Proceeds}
use Rattle.vbr_set.specs.progress.Progressing.{RefusalsShowAnswers, SeesRun, most_unanswered, updates_in}
use Rattle.vbr_set.proofs.histories.AnyCall.{call_leaves}
use Rattle.vbr_set.proofs.progress.AnsweredMeanwhile.{another_answered}
use Rattle.vbr_set.proofs.progress.Progress.{fewer_to_look_up, fewer_to_search, lacks_to_insert, lacks_to_store}
use Rattle.vbr_set.proofs.progress.StretchedRuns.{come_by_calls, run_at}

-- ---- how often a pass is disturbed

-- each pass that stood still, or came back, advanced the epoch in need
all_in_need : (p q : PassView) → Proceeds p.trace q.trace →
    AllAdvanceInNeed p.trace.start p.trace.passes p.trace.seen q.trace.seen
all_in_need p q goes who low = elim (goes.each who (subst (λ (n : ℕ). who < n) (sym goes.sees.same.passes) low)) [
  | inl still ↦ need_still p.trace.start p.trace.seen q.trace.seen who still
  | inr back ↦ need_between p.trace.start p.trace.seen q.trace.seen back.view.trace.seen back.run who
      (subst (λ (x : Start × ℕ). AdvancesInNeed x.0 [] back.view.trace.seen x.1)
      (λ i. ((back.start ∙ goes.sees.same.start) i, back.is i)) back.in_need)
      back.own back.seen
]

disturbed_in_by : (p q : PassView) (bucket : ℕ) → SeesRun p.trace → Proceeds p.trace q.trace →
    disturbed_in p.trace q.trace bucket ≤ most_unanswered p.trace + 3 * updates_in p.trace q.trace
disturbed_in_by p q bucket law goes =
    let most = disturbances_answered p.trace.start p.trace.passes p.trace.seen q.trace.seen law.start run
    goes.sees.begins (all_in_need p q goes) p.trace.who bucket in
    omega (arith, most)
  where
    run : IsRun p.trace.start p.trace.passes q.trace.seen
    run = run_at q.trace.seen (goes.sees.same.start) (goes.sees.same.passes) goes.sees.is_run

pub answers_disturb : AnswersDisturb
answers_disturb p q key law goes = disturbed_in_by p q (bucket_of p.trace.start.shape key) law goes

-- ---- what the epoch has cost

pub epochs_paid : EpochsArePaid
epochs_paid p law back =
    let paid = epoch_paid p.trace.start p.trace.passes p.trace.seen law.start law.is_run
    (λ who low. need_between p.trace.start [] p.trace.seen (back who low).view.trace.seen (back who low).run who
    (subst (λ (x : Start × ℕ). AdvancesInNeed x.0 [] (back who low).view.trace.seen x.1)
    (λ i. ((back who low).start i, (back who low).is i)) (back who low).in_need) (back who low).own
    (back who low).seen) in
    let told = ap removes (run_agrees p.trace.start p.trace.passes p.trace.seen law.start law.is_run).calls in
    omega (arith, paid, told)

-- ---- what a refusal shows

-- where no update was answered, the pass was disturbed no more often than is known at first
pub few_in : (p q : PassView) (bucket : ℕ) → SeesRun p.trace → Proceeds p.trace q.trace →
    updates_in p.trace q.trace ≡ 0 → disturbed_in p.trace q.trace bucket ≤ most_unanswered p.trace
few_in p q bucket law goes none = let all = disturbed_in_by p q bucket law goes in omega (arith, all, none)

few : (p q : PassView) (key : ℕ) → SeesRun p.trace → Proceeds p.trace q.trace → updates_in p.trace q.trace ≡ 0 →
    disturbed p.trace q.trace key ≤ most_unanswered p.trace
few p q key law goes none = few_in p q (bucket_of p.trace.start.shape key) law goes none

-- another pass was answered, where the contrary is refuted
pub shown : (p q : PassView) → SeesRun p.trace → Quiet p.trace q.trace → (updates_in p.trace q.trace ≡ 0 → ⊥) →
    AnotherIsAnswered p.trace q.trace
shown p q law quiet some = another_answered p q law quiet (go (updates_in p.trace q.trace) refl)
  where
    go : (n : ℕ) → updates_in p.trace q.trace ≡ n → 1 ≤ updates_in p.trace q.trace
    go zero e = absurd (some e)
    go (suc n) e = omega (arith, e)

-- a budget isn't both below what is enough and enough
pub refuted : (budget steps : ℕ) → budget < steps → steps ≤ budget → ⊥
refuted budget steps less enough = omega (arith, less, enough)

-- what is enough while no update is answered yes
abbrev to_look_up : PassView → ℕ → ℕ
to_look_up p key = enough_among (listed_for p.trace key) (most_unanswered p.trace)

abbrev to_search : PassView → ℕ → ℕ
to_search p key = enough_to_search_among (listed_for p.trace key) (most_unanswered p.trace)

abbrev to_insert : PassView → PassView → ℕ → ℕ
to_insert p q key = enough_to_insert_among (listed_for p.trace key) (most_unanswered p.trace) (steps_for_slot p q.trace)

abbrev to_store : Wanted → PassView → PassView → ℕ → ℕ
to_store wanted p q key =
    enough_to_store_among (listed_for p.trace key) (most_unanswered p.trace) (steps_to_prepare wanted p q.trace)

pub refusals_show : RefusalsShowAnswers
refusals_show =
    record {
      look_up = λ p q key budget refusal law goes c enough.
          shown p q law c.quiet
          (λ none. refuted budget (to_look_up p key)
          (fewer_to_look_up _ _ _ budget (few p q key law goes none) c.bounds.disturbed_within) enough);
      remove = λ p q key budget refusal law goes c enough.
          shown p q law c.quiet
          (λ none. refuted budget (to_search p key)
          (fewer_to_search _ _ _ budget (few p q key law goes none) c.bounds.disturbed_within) enough);
      insert = λ p q key budget used law goes c enough.
          shown p q law c.quiet
          (λ none. refuted budget (to_insert p q key)
          (lacks_to_insert _ _ _ budget (few p q key law goes none) _ (OutOfSteps used) c.bounds.disturbed_within)
          enough);
    }

pub map_refusals_show : MapRefusalsShowAnswers
map_refusals_show =
    record {
      get = λ p q key budget refusal law goes c enough.
          shown p q law c.calls.quiet
          (λ none. refuted budget (to_look_up p key)
          (fewer_to_look_up _ _ _ budget (few p q key law goes none) c.calls.bounds.disturbed_within) enough);
      remove_entry = λ p q key budget refusal law goes c enough.
          shown p q law c.calls.quiet
          (λ none. refuted budget (to_search p key)
          (fewer_to_search _ _ _ budget (few p q key law goes none) c.calls.bounds.disturbed_within) enough);
      remove_if = λ p q key expected budget refusal law goes c enough.
          shown p q law c.calls.quiet
          (λ none. refuted budget (to_search p key)
          (fewer_to_search _ _ _ budget (few p q key law goes none) c.calls.bounds.disturbed_within) enough);
      insert_entry = λ p q key value budget used law goes c enough.
          shown p q law c.calls.quiet
          (λ none. refuted budget (to_insert p q key)
          (lacks_to_insert _ _ _ budget (few p q key law goes none) _ (OutOfSteps used)
          c.calls.bounds.disturbed_within) enough);
      store = λ p q key value wanted budget used law goes c enough.
          shown p q law c.quiet
          (λ none. refuted budget (to_store wanted p q key)
          (lacks_to_store _ _ _ budget (few p q key law goes none) _ (OutOfSteps used) c.bounds.disturbed_within)
          enough);
    }

-- ---- the calls

-- a pass that has seen nothing made no step
need_opened : (set : TableView) (who : ℕ) → AdvancedInNeed (new_trace set who)
need_opened set who [] after from e = absurd (cc)
need_opened set who (x ∷ before) after from e = absurd (cc)

-- who caught up made no step
advances_grow : (p q : Trace) → SeesMore p q → advances p ≤ advances q
advances_grow p q sees =
    let sum = sum_by-append (λ (e : Event). cond ((e.pass == p.who) && is_advance e.step) 1 0) p.seen sees.begins.0 in
    let is : advances q ≡ count_by (λ (e : Event). (e.pass == p.who) && is_advance e.step) (p.seen ++ sees.begins.0) =
    (λ i. count_by (λ (e : Event). (e.pass == sees.same.who i) && is_advance e.step) (sees.begins.1 i)) in
    omega (arith, sum, is)

pub advance_in_need : PassesAdvanceInNeed
advance_in_need =
    record {
      opened = need_opened;
      called = λ op m n need call.
          (let left = call_leaves op m n call in
          stays_in_need m.pass n.pass left.sees.same left.sees.begins
          (⊎_elim (λ none. inl none.count) (λ may. may.advances) left.slots) need);
      went_over = λ p q need sees none. stays_in_need p q sees.same sees.begins (inl none.count) need;
      met = λ p q epoch need did pool.
          (let sees = (come_by_calls.met p q epoch did pool).sees in
          stays_in_need p q sees.same sees.begins (inl (did_none did refl tt pool).count) need);
      caught = λ set p q token need c.
          (let came = come_by_calls.caught set p q token c in
          let more = advances_grow p.trace q.trace came.sees in
          let most = came.advances in
          stays_in_need p q came.sees.same came.sees.begins (inl (omega (arith, most, more))) need);
      gave = λ p q shared need g. stays_in_need p q g.quiet.same g.quiet.seen (inl g.advances) need;
      reserved = λ p q steps need takes.
          stays_in_need p q takes.quiet.same takes.quiet.seen (inl takes.advances) need;
    }
