-- A call of a walk with budget enough brings its cursor on, or another pass is answered meanwhile.
use Rattle.std.proofs.Common.{◌≡◌, ℕ, zero, suc, ◌+◌, ◌-◌, ◌*◌, ◌<◌, ◌≤◌, Option, Some, Ok, Err}
use Rattle.std.proofs.Common.{Result, ap, subst, arith, inl, inr}
use Rattle.std.specs.Prelude.{◌⊎◌, IfErr, IfOk}
use Rattle.std.proofs.lemmas.Bool.{cases_eq}
use Rattle.std.proofs.lemmas.Nat.{mul-le}
use Rattle.vbr_machine.specs.Start.{Start}
use Rattle.vbr_slots.specs.steps.Calls.{Quiet}
use Rattle.vbr_slots.specs.views.Views.{PassView, Trace}
use Rattle.vbr_list.specs.calls.Budgets.{nodes_listed_in, steps_to_value_of}
use Rattle.vbr_list.specs.look_ups.Cursors.{IteratesEntries, IteratesKeys, StopsShort, costs_over_among}
use Rattle.vbr_list.specs.look_ups.Cursors.{GivesNext, GivesNextEntry, enough_to_come_among}
use Rattle.vbr_list.specs.traversals.Disturbed.{disturbed_in, most_disturbed}
use Rattle.vbr_list.specs.declared.cursor.Cursor.{Cursor}
use Rattle.vbr_list.proofs.Lemmas.{disturbed_most_in, enough_among_more, enough_to_come_more, few_to_value}
use Rattle.vbr_at_table.specs.declared.refusal.Refusal.{Refusal}
use Rattle.vbr_set.specs.calls.Iterating.{StandsShort}
use Rattle.vbr_set.specs.calls.Members.{MemberView, caller}
use Rattle.vbr_set.specs.progress.Progressing.{AnotherIsAnswered, Proceeds, SeesRun, most_unanswered, updates_in}
use Rattle.vbr_set.specs.progress.Stretches.{most_disturbed_by}
use Rattle.vbr_set.specs.progress.WalkProgress.{BringsOn, MembersWalk, WalksMakeProgress, WalksShowAnswers}
use Rattle.vbr_set.specs.progress.WalkProgress.{enough_unanswered, enough_unanswered_over, key_told}
use Rattle.vbr_set.proofs.progress.AnsweredCalls.{few_in, refuted, shown}
use Rattle.vbr_set.proofs.progress.StretchedRuns.{disturbed_in_by}

-- ---- calls for entries

-- what an answer is refused by, and what it cost, is told of its key
key_refused : (P : Refusal → Type 0) (answer : Result (Option (ℕ × ℕ)) Refusal) → IfErr answer P →
    IfErr (key_told answer) P
key_refused P (Ok (Some entry)) x = x
key_refused P _ x = x

key_cost : (Costs : Type 0) (answer : Result (Option (ℕ × ℕ)) Refusal) → IfOk answer (λ given. Costs) →
    IfOk (key_told answer) (λ given. Costs)
key_cost Costs (Ok (Some entry)) x = x
key_cost Costs _ x = x

-- so a call for the next entry is one for the next key
keys_of_entries : (p q : PassView) (c d : Cursor) (budget : ℕ) (answer : Result (Option (ℕ × ℕ)) Refusal) →
    IteratesEntries p q c d budget answer → IteratesKeys p q c d budget (key_told answer)
keys_of_entries p q c d budget answer x = record {
  gives = key_given answer x.gives;
  refused = key_refused _ answer x.refused;
  quiet = x.quiet;
  only_loads = x.only_loads;
  adds_none = x.adds_none;
  takes_no_slot = x.takes_no_slot;
  hand = x.hand;
  steps = x.steps;
  costs = key_cost _ answer x.costs;
  disturbed_costs = key_cost _ answer x.disturbed_costs;
  going = key_cost _ answer x.going;
}
  where
    key_given : (answer : Result (Option (ℕ × ℕ)) Refusal) → IfOk answer (GivesNextEntry p.trace q.trace c d) →
        IfOk (key_told answer) (GivesNext p.trace q.trace c d)
    key_given (Ok (Some entry)) x = x.0
    key_given _ x = x

pub members_walk : MembersWalk
members_walk =
    record {
      next_key = λ m n c d budget answer called. called.iterates;
      next_entry = λ m n c d budget answer called. keys_of_entries m.pass n.pass c d budget answer called.iterates;
    }

-- ---- what disturbs

-- a refused call had a budget below what is enough for so many disturbances in each bucket, as it was disturbed no more
below : (p q : PassView) (c d : Cursor) (budget most : ℕ) (refusal : Refusal) →
    IteratesKeys p q c d budget (Err refusal) → ((bucket : ℕ) → disturbed_in p.trace q.trace bucket ≤ most) →
    budget < enough_to_come_among p.trace (λ bucket. most) c.bucket d.bucket
below p q c d budget most refusal x le =
    let short = x.refused.disturbed_short in
    let more = enough_to_come_more p.trace (disturbed_in p.trace q.trace) (λ bucket. most) le c.bucket d.bucket in
    omega (arith, short, more)

pub walks_progress : WalksMakeProgress
walks_progress =
    record {
      call = λ p q c d budget refusal law x.
          below p q c d budget (most_disturbed p.trace q.trace) refusal x
          (λ bucket. disturbed_most_in p.trace q.trace law.start law.is_run bucket x.quiet);
      stretch = λ p q inserts c d budget refusal law stretch x.
          below p q c d budget (most_disturbed_by inserts p.trace q.trace) refusal x
          (λ bucket. disturbed_in_by p q inserts bucket law stretch);
    }

-- ---- what is enough

module _ (p : Trace) where
  -- what it costs to seek in buckets is enough in each of them
  costs_low : (from count : ℕ) →
      costs_over_among p (λ bucket. most_unanswered p) from count ≤ enough_unanswered_over p from count
  costs_low from zero = omega arith
  costs_low from (suc count) =
      let n = nodes_listed_in p (from + count) in
      let t = most_unanswered p in
      let few = few_to_value p.start in
      let one = mul-le (t + 1) (5 * (n + t) + (3 + steps_to_value_of p.start)) (t + 1) (5 * (n + t) + 11) (omega arith)
      (omega (arith, few)) in
      let rest = costs_low from count in
      omega (arith, one, rest)

  -- in more buckets no less is
  over_more : (from less count : ℕ) → less ≤ count →
      enough_unanswered_over p from less ≤ enough_unanswered_over p from count
  over_more from less zero le =
      let none : less ≡ 0 = omega (arith, le) in
      let same = ap (enough_unanswered_over p from) none in
      omega (arith, same)
  over_more from less (suc count) le = elim (cases_eq less (suc count)) [
    | inl is ↦ let same = ap (enough_unanswered_over p from) is in omega (arith, same)
    | inr ne ↦ let rest = over_more from less count (omega (arith, le, ne)) in omega (arith, rest)
  ]

-- ---- what a refusal shows

module _ (p q : PassView) (law : SeesRun p.trace) (goes : Proceeds p.trace q.trace) where
  -- in the bucket of its cursor
  here : (c d : Cursor) (budget : ℕ) (refusal : Refusal) → IteratesKeys p q c d budget (Err refusal) →
      enough_unanswered p.trace c.bucket ≤ budget →
      (c.bucket < d.bucket) ⊎ AnotherIsAnswered p.trace q.trace
  here c d budget refusal x enough = elim x.refused.moved [
    | inl same ↦ inr (shown p q law x.quiet (still same))
    | inr on ↦ inl on.0
  ]
    where
      P : Cursor → Type 0
      P e = StopsShort p q c e budget refusal

      still : (d ≡ c) → updates_in p.trace q.trace ≡ 0 → ⊥
      still same none =
          let stops = subst P same x.refused in
          let nothing : c.bucket - c.bucket ≡ 0 = omega arith in
          let free : costs_over_among p.trace (disturbed_in p.trace q.trace) c.bucket (c.bucket - c.bucket) ≡ 0 =
          ap (costs_over_among p.trace (disturbed_in p.trace q.trace) c.bucket) nothing in
          let short = stops.disturbed_short in
          let more = enough_among_more (nodes_listed_in p.trace c.bucket) (disturbed_in p.trace q.trace c.bucket)
          (most_unanswered p.trace) (few_in p q c.bucket law goes none) in
          refuted budget (enough_unanswered p.trace c.bucket) (omega (arith, short, free, more)) enough

  on : (c d : Cursor) (budget : ℕ) (answer : Result (Option ℕ) Refusal) → IteratesKeys p q c d budget answer →
      enough_unanswered p.trace c.bucket ≤ budget → BringsOn c d answer ⊎ AnotherIsAnswered p.trace q.trace
  on c d budget (Ok given) x enough = inl tt
  on c d budget (Err refusal) x enough = here c d budget refusal x enough

  -- in the buckets that it goes over
  over : (c d : Cursor) (budget : ℕ) (refusal : Refusal) → IteratesKeys p q c d budget (Err refusal) →
      enough_to_come_among p.trace (λ bucket. most_unanswered p.trace) c.bucket d.bucket ≤ budget →
      AnotherIsAnswered p.trace q.trace
  over c d budget refusal x enough =
      shown p q law x.quiet
      (λ none. refuted budget
      (enough_to_come_among p.trace (λ bucket. most_unanswered p.trace) c.bucket d.bucket)
      (below p q c d budget (most_unanswered p.trace) refusal x (λ bucket. few_in p q bucket law goes none)) enough)

  -- in all buckets from its cursor's on
  to_end : (c d : Cursor) (budget : ℕ) (refusal : Refusal) → IteratesKeys p q c d budget (Err refusal) →
      enough_unanswered_over p.trace c.bucket (p.trace.start.shape.buckets - c.bucket) ≤ budget →
      AnotherIsAnswered p.trace q.trace
  to_end c d budget refusal x enough = over c d budget refusal x (omega (arith, low, last, more, enough))
    where
      onward : (d ≡ c) ⊎ ((c.bucket < d.bucket) × (d.from ≡ 0)) → c.bucket ≤ d.bucket
      onward moved = grind (arith, moved)

      low : costs_over_among p.trace (λ bucket. most_unanswered p.trace) c.bucket (d.bucket - c.bucket)
          ≤ enough_unanswered_over p.trace c.bucket (d.bucket - c.bucket)
      low = costs_low p.trace c.bucket (d.bucket - c.bucket)

      last : enough_unanswered_over p.trace c.bucket (suc (d.bucket - c.bucket))
          ≡ enough_unanswered_over p.trace c.bucket (d.bucket - c.bucket) + enough_unanswered p.trace d.bucket
      last = let e : c.bucket + (d.bucket - c.bucket) ≡ d.bucket =
          let le = onward x.refused.moved in omega (arith, le) in
          ap (λ (b : ℕ).
          enough_unanswered_over p.trace c.bucket (d.bucket - c.bucket) + enough_unanswered p.trace b) e

      more : enough_unanswered_over p.trace c.bucket (suc (d.bucket - c.bucket))
          ≤ enough_unanswered_over p.trace c.bucket (p.trace.start.shape.buckets - c.bucket)
      more = over_more p.trace c.bucket (suc (d.bucket - c.bucket)) (p.trace.start.shape.buckets - c.bucket)
          (let le = onward x.refused.moved in let inside = x.refused.bucket in omega (arith, le, inside))

-- going over all keys at once
gone_over : (m n : MemberView) (budget : ℕ) (refusal : Refusal) → SeesRun m.pass.trace →
    Proceeds m.pass.trace n.pass.trace → Quiet m.pass.trace n.pass.trace →
    StandsShort (caller m) (caller n) budget refusal →
    ((bucket : ℕ) → bucket < m.pass.trace.start.shape.buckets → enough_unanswered m.pass.trace bucket ≤ budget) →
    AnotherIsAnswered m.pass.trace n.pass.trace
gone_over m n budget refusal law goes quiet x enough =
    shown m.pass n.pass law quiet
    (λ none. refuted budget (enough_unanswered m.pass.trace x.cursor.bucket)
    (let short = x.disturbed_short in
    let more = enough_among_more (nodes_listed_in m.pass.trace x.cursor.bucket)
    (disturbed_in m.pass.trace n.pass.trace x.cursor.bucket) (most_unanswered m.pass.trace)
    (few_in m.pass n.pass x.cursor.bucket law goes none) in
    omega (arith, short, more))
    (enough x.cursor.bucket (subst (λ (start : Start). x.cursor.bucket < start.shape.buckets) x.goes.sees.same.start
    x.stops.bucket)))

pub walks_show : WalksShowAnswers
walks_show =
    record {
      on = λ p q c d budget answer law goes. on p q law goes c d budget answer;
      over = λ p q c d budget refusal law goes. over p q law goes c d budget refusal;
      to_end = λ p q c d budget refusal law goes. to_end p q law goes c d budget refusal;
      all = gone_over;
    }
