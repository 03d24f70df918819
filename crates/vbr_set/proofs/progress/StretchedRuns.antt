-- In a stretch of a run the epoch advances no more often than inserts are begun, by all passes.
use Rattle.std.proofs.Common.{◌≡◌, ℕ, ◌+◌, ◌≤◌, ◌==◌, ◌&&◌, Bool, true, cond, List, [], ◌∷◌, ◌++◌}
use Rattle.std.proofs.Common.{refl, ap, sym, subst, ◌∙◌, arith, eq-eqb, inl, inr, append_assoc}
use Rattle.std.specs.Prelude.{count_by}
use Rattle.std.proofs.lemmas.Bool.{ne_eqb}
use Rattle.std.proofs.lemmas.List.Sums.{sum_by-append}
use Rattle.vbr_words.specs.Buckets.{bucket_of}
use Rattle.vbr_machine.specs.Accounts.{incarnations_after}
use Rattle.vbr_machine.specs.Machine.{World, after}
use Rattle.vbr_machine.specs.Runs.{AreAccepted, Begins, IsRun, NoneOf, world_after}
use Rattle.vbr_machine.specs.Start.{Start}
use Rattle.vbr_machine.specs.Whereabouts.{sum_of}
use Rattle.vbr_machine.specs.declared.event.Event.{Event}
use Rattle.vbr_machine.specs.declared.event.Step.{Step}
use Rattle.vbr_machine.specs.declared.event.Step.TheVariants.{ReadEpoch}
use Rattle.vbr_machine.proofs.Lemmas.{IsAdvance, begins_refl, disturbances_paid, is_run_after, moved_by_steps}
use Rattle.vbr_slots.specs.steps.PassLaw.{PassLaw}
use Rattle.vbr_slots.specs.views.Views.{Did, PassView, Trace, event_of}
use Rattle.vbr_slots.proofs.Lemmas.{same_refl}
use Rattle.vbr_at_table.specs.costs.Advances.{AdvancesWhereNeeded}
use Rattle.vbr_at_table.specs.costs.StepKinds.{advances, is_advance}
use Rattle.vbr_at_table.proofs.Lemmas.{did_none}
use Rattle.vbr_list.specs.look_ups.Cursors.{SeesMore}
use Rattle.vbr_list.specs.traversals.Disturbed.{disturbed, disturbed_in}
use Rattle.vbr_list.proofs.Lemmas.{sees_on}
use Rattle.vbr_set.specs.progress.Stretches.{BeganIn, MapStretchesMakeProgress, PassesComeByCalls, Stretch}
use Rattle.vbr_set.specs.progress.Stretches.{StretchesDisturb, StretchesMakeProgress, most_disturbed_by}
use Rattle.vbr_set.proofs.histories.AnyCall.{call_leaves}
use Rattle.vbr_set.proofs.progress.Progress.{fewer_to_look_up, fewer_to_search, lacks_to_insert, lacks_to_store}
use Rattle.vbr_set.proofs.sums.PassSums.{one_in_sum, sum_both, sum_no_more, sum_same}

-- ---- steps that would advance the epoch

-- how many of these events are, of all passes, and of one
abbrev advance_steps : List Event → ℕ
advance_steps events = count_by (λ (e : Event). is_advance e.step) events

abbrev advance_steps_of : ℕ → List Event → ℕ
advance_steps_of who events = count_by (λ (e : Event). (e.pass == who) && is_advance e.step) events

of_both : (who : ℕ) (xs ys : List Event) →
    advance_steps_of who (xs ++ ys) ≡ advance_steps_of who xs + advance_steps_of who ys
of_both who xs ys = sum_by-append (λ (e : Event). cond ((e.pass == who) && is_advance e.step) 1 0) xs ys

-- one event is of its own pass
one_of_its_pass : (e : Event) → advance_steps (e ∷ []) ≤ advance_steps_of e.pass (e ∷ [])
one_of_its_pass e =
    let same = ap (λ (b : Bool). 0 + cond (b && is_advance e.step) 1 0) (eq-eqb e.pass e.pass refl) in
    omega (arith, same)

-- the events of a run are of its passes
of_passes : (start : Start) (passes : ℕ) (w : World) (events : List Event) → AreAccepted start passes w events →
    advance_steps events ≤ sum_of passes (λ who. advance_steps_of who events)
of_passes start passes w [] accepted = omega arith
of_passes start passes w (e ∷ events) accepted =
    let now = one_of_its_pass e in
    let its = one_in_sum passes e.pass (λ who. advance_steps_of who (e ∷ [])) accepted.0.0 in
    let rest = of_passes start passes (after start w e.pass e.step) events accepted.1 in
    let all = sum_by-append (λ (x : Event). cond (is_advance x.step) 1 0) (e ∷ []) events in
    let each = sum_same passes (λ who. advance_steps_of who (e ∷ events))
    (λ who. advance_steps_of who (e ∷ []) + advance_steps_of who events) (λ who. of_both who (e ∷ []) events) in
    let sum = sum_both passes (λ who. advance_steps_of who (e ∷ [])) (λ who. advance_steps_of who events) in
    omega (arith, now, its, rest, all, each, sum)

advance_counted : (step : Step) → IsAdvance step → is_advance step ≡ true
advance_counted step is = grind arith

pub run_at : {start other : Start} {passes count : ℕ} (run : List Event) → start ≡ other → passes ≡ count →
    IsRun start passes run → IsRun other count run
run_at run at_start at_passes is = subst (λ (x : Start × ℕ). IsRun x.0 x.1 run) (λ i. (at_start i, at_passes i)) is

-- what a pass did in a stretch it did between two views around it
in_stretch : (p q : Trace) (who inserts : ℕ) → (b : Begins p.seen q.seen) → BeganIn p q who inserts →
    advance_steps_of who b.0 ≤ inserts
in_stretch p q who inserts b began =
    let before = of_both who began.from.trace.seen began.earlier.0 in
    let to_here = ap (advance_steps_of who) began.earlier.1 in
    let whole = of_both who p.seen b.0 in
    let to_end = ap (advance_steps_of who) b.1 in
    let behind = of_both who q.seen began.later.0 in
    let to_last = ap (advance_steps_of who) began.later.1 in
    let first : advances began.from.trace ≡ advance_steps_of who began.from.trace.seen =
    ap (λ (k : ℕ). advance_steps_of k began.from.trace.seen) began.is in
    let last : advances began.to.trace ≡ advance_steps_of who began.to.trace.seen =
    ap (λ (k : ℕ). advance_steps_of k began.to.trace.seen) (began.came.sees.same.who ∙ began.is) in
    let most = began.came.advances in
    omega (arith, before, to_here, whole, to_end, behind, to_last, first, last, most)

-- the epoch moves in a stretch no further than inserts were begun
epoch_moves : (p q : Trace) (inserts : ℕ → ℕ) → Stretch p q inserts →
    (incarnations_after p.start q.seen).epoch ≤ (incarnations_after p.start p.seen).epoch + sum_of q.passes inserts
epoch_moves p q inserts stretch = omega (arith, moved, all, each)
  where
    b : Begins p.seen q.seen
    b = stretch.sees.begins

    run : IsRun q.start q.passes (p.seen ++ b.0)
    run = subst (λ (l : List Event). IsRun q.start q.passes l) b.1 stretch.sees.is_run

    moved : (incarnations_after p.start q.seen).epoch ≤ (incarnations_after p.start p.seen).epoch + advance_steps b.0
    moved = subst
        (λ (l : List Event).
        (incarnations_after p.start l).epoch ≤ (incarnations_after p.start p.seen).epoch + advance_steps b.0) (sym b.1)
        (moved_by_steps p.start is_advance advance_counted p.seen b.0)

    all : advance_steps b.0 ≤ sum_of q.passes (λ who. advance_steps_of who b.0)
    all = of_passes q.start q.passes (world_after q.start p.seen) b.0 (is_run_after q.start q.passes p.seen b.0 run)

    each : sum_of q.passes (λ who. advance_steps_of who b.0) ≤ sum_of q.passes inserts
    each = sum_no_more q.passes (λ who. advance_steps_of who b.0) inserts
        (λ who low. in_stretch p q who (inserts who) b (stretch.each who low))

-- ---- the laws

pub disturbed_in_by : (p q : PassView) (inserts : ℕ → ℕ) (bucket : ℕ) → PassLaw p → Stretch p.trace q.trace inserts →
    disturbed_in p.trace q.trace bucket ≤ most_disturbed_by inserts p.trace q.trace
disturbed_in_by p q inserts bucket law stretch =
    let most = disturbances_paid p.trace.start p.trace.passes p.trace.seen q.trace.seen law.start run
    stretch.sees.begins p.trace.who bucket in
    let by = epoch_moves p.trace q.trace inserts stretch in
    omega (arith, most, by)
  where
    run : IsRun p.trace.start p.trace.passes q.trace.seen
    run = run_at q.trace.seen (stretch.sees.same.start) (stretch.sees.same.passes) stretch.sees.is_run

disturbed_by : (p q : PassView) (inserts : ℕ → ℕ) (key : ℕ) → PassLaw p → Stretch p.trace q.trace inserts →
    disturbed p.trace q.trace key ≤ most_disturbed_by inserts p.trace q.trace
disturbed_by p q inserts key law stretch =
    disturbed_in_by p q inserts (bucket_of p.trace.start.shape key) law stretch

pub stretches_disturb : StretchesDisturb
stretches_disturb = disturbed_by

pub stretches_progress : StretchesMakeProgress
stretches_progress =
    record {
      look_up = λ p q inserts key budget refusal law stretch c.
          fewer_to_look_up _ _ _ budget (disturbed_by p q inserts key law stretch) c.bounds.disturbed_within;
      remove = λ p q inserts key budget refusal law stretch c.
          fewer_to_search _ _ _ budget (disturbed_by p q inserts key law stretch) c.bounds.disturbed_within;
      insert = λ p q inserts key budget refusal law stretch c.
          lacks_to_insert _ _ _ budget (disturbed_by p q inserts key law stretch) _ refusal c.bounds.disturbed_within;
    }

pub map_stretches_progress : MapStretchesMakeProgress
map_stretches_progress =
    record {
      get = λ p q inserts key budget refusal law stretch c.
          fewer_to_look_up _ _ _ budget (disturbed_by p q inserts key law stretch) c.calls.bounds.disturbed_within;
      remove_entry = λ p q inserts key budget refusal law stretch c.
          fewer_to_search _ _ _ budget (disturbed_by p q inserts key law stretch) c.calls.bounds.disturbed_within;
      remove_if = λ p q inserts key expected budget refusal law stretch c.
          fewer_to_search _ _ _ budget (disturbed_by p q inserts key law stretch) c.calls.bounds.disturbed_within;
      insert_entry = λ p q inserts key value budget refusal law stretch c.
          lacks_to_insert _ _ _ budget (disturbed_by p q inserts key law stretch) _ refusal
          c.calls.bounds.disturbed_within;
      store = λ p q inserts key value wanted budget refusal law stretch c.
          lacks_to_store _ _ _ budget (disturbed_by p q inserts key law stretch) _ refusal c.bounds.disturbed_within;
    }

-- ---- the calls

one_for_an_insert : (p q : PassView) → AdvancesWhereNeeded p q → advances q.trace ≤ advances p.trace + 1
one_for_an_insert p q (inl none) = omega (arith, none)
one_for_an_insert p q (inr once) = let one = once.count in omega (arith, one)

none_else : (p q : PassView) → advances q.trace ≡ advances p.trace → advances q.trace ≤ advances p.trace + 0
none_else p q same = omega (arith, same)

-- who met others read the epoch, and who caught up made no step
sees_met : (p q : Trace) (epoch : ℕ) → Did ReadEpoch p q epoch → SeesMore p q
sees_met p q epoch did =
    record {
      same = record { table = did.same.0; start = did.same.1; passes = did.same.2; who = did.same.3 };
      begins = (
        did.rest ++ event_of p.who ReadEpoch ∷ [],
        did.seen ∙ append_assoc p.seen did.rest (event_of p.who ReadEpoch ∷ []),
      );
      is_run = run_at q.seen (sym did.same.1) (sym did.same.2) did.is_run;
    }

none_of : (who : ℕ) (events : List Event) → NoneOf who events → advance_steps_of who events ≡ 0
none_of who [] none = refl
none_of who (e ∷ events) none = of_both who (e ∷ []) events ∙ (λ i. other i + none_of who events none.1 i)
  where
    other : advance_steps_of who (e ∷ []) ≡ 0
    other = ap (λ (b : Bool). 0 + cond (b && is_advance e.step) 1 0) (ne_eqb e.pass who none.0)

pub come_by_calls : PassesComeByCalls
come_by_calls =
    record {
      stays = λ p law.
          record {
            sees = record { same = same_refl p.trace; begins = begins_refl p.trace.seen; is_run = law.is_run };
            advances = omega arith;
          };
      called = λ op m n law call.
          (let left = call_leaves op m n call in
          record {
            sees = left.sees;
            advances = elim left.slots [
              | inl none ↦ let same = none.count in omega (arith, same)
              | inr may ↦
                  let one = one_for_an_insert m.pass n.pass may.advances in
                  let inserts = may.inserts in
                  omega (arith, one, inserts)
            ];
          });
      went_over = λ p q sees none. record { sees = sees; advances = none_else p q none.count };
      met = λ p q epoch did pool.
          record {
            sees = sees_met p.trace q.trace epoch did;
            advances = none_else p q (did_none did refl tt pool).count;
          };
      caught = λ set p q token c.
          record {
            sees = record {
              same = c.quiet.same;
              begins = c.quiet.seen;
              is_run = run_at q.trace.seen (sym c.since.same.1) (sym c.since.same.2) c.since.is_run;
            };
            advances =
                (let who = ap (λ (k : ℕ). advance_steps_of k q.trace.seen) c.since.same.3 in
                let all = ap (advance_steps_of p.trace.who) c.since.seen in
                let both = of_both p.trace.who p.trace.seen c.since.rest in
                let none = none_of p.trace.who c.since.rest c.since.none in
                omega (arith, who, all, both, none));
          };
      gave = λ p q shared law g.
          record {
            sees = record { same = g.quiet.same; begins = g.quiet.seen; is_run = g.quiet.is_run law.is_run };
            advances = none_else p q g.advances;
          };
      reserved = λ p q steps law takes.
          record {
            sees =
                record { same = takes.quiet.same; begins = takes.quiet.seen; is_run = takes.quiet.is_run law.is_run };
            advances = none_else p q takes.advances;
          };
      after = λ first then p q r a b.
          record {
            sees = sees_on a.sees b.sees;
            advances = (let x = a.advances in let y = b.advances in omega (arith, x, y));
          };
    }
