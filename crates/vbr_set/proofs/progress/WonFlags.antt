-- The flags that passes win beyond their need, by their calls, and what a call with a known budget shows.
use Rattle.std.proofs.Common.{◌≡◌, ℕ, zero, suc, ◌+◌, ◌-◌, ◌<◌, ◌≤◌, ◌==◌, ◌&&◌, not, Bool, true, false, List, []}
use Rattle.std.proofs.Common.{◌∷◌, ◌++◌, refl, sym, ap, ◌∙◌, subst, eq-eqb, inl, inr, ⊎_elim, arith}
use Rattle.std.specs.Prelude.{if◌then◌else◌}
use Rattle.std.proofs.lemmas.Bool.{cases_eq, ne_eqb}
use Rattle.std.proofs.lemmas.List.{append_cancel_left}
use Rattle.vbr_machine.specs.Disturbances.{one_if}
use Rattle.vbr_machine.specs.Gains.{gains}
use Rattle.vbr_machine.specs.Machine.{World, after, opening}
use Rattle.vbr_machine.specs.Runs.{AreAccepted, Begins, BeginsFor, IsRun, NoneOf, world_after}
use Rattle.vbr_machine.specs.Start.{Start}
use Rattle.vbr_machine.specs.Whereabouts.{sum_of}
use Rattle.vbr_machine.specs.declared.event.Event.{Event}
use Rattle.vbr_machine.specs.declared.event.Step.{Step}
use Rattle.vbr_machine.proofs.Lemmas.{is_run_after}
use Rattle.vbr_slots.specs.views.Views.{PassView, Trace}
use Rattle.vbr_at_table.specs.costs.FlagsInNeed.{WinsNoFlag, count_along, goes_beyond, own_along, times_beyond}
use Rattle.vbr_at_table.proofs.Lemmas.{along-append, did_none, none_along}
use Rattle.vbr_list.proofs.Lemmas.{sees_on}
use Rattle.vbr_set.proofs.histories.AnyCall.{call_leaves}
use Rattle.vbr_set.proofs.progress.PaidGains.{by_other, gains_paid}
use Rattle.vbr_set.proofs.sums.PassSums.{one_in_sum, sum_both, sum_no_more, sum_same}
use Rattle.vbr_set.proofs.progress.StretchedRuns.{come_by_calls, run_at}
use Rattle.vbr_set.specs.histories.Histories.{calls_of}
use Rattle.vbr_set.specs.progress.Winning.{InsertsPayForGains, NobodyGoesBeyond, PassesWinInNeed, WentBeyond}
use Rattle.vbr_set.specs.progress.Winning.{inserts_of_others}

-- ---- the steps of other passes, pass by pass

module _ (test : World → ℕ → Step → Bool) (start : Start) (passes who : ℕ) where
  -- those of one of them
  abbrev its : World → List Event → ℕ → ℕ
  its w events o = if o == who then 0 else own_along test start w events o

  -- one event is of its own pass
  its_one : (w : World) (e : Event) → one_if (by_other test who w e) ≤ its w (e ∷ []) e.pass
  its_one w e = elim (cases_eq e.pass who) [
    | inl own ↦ let none : one_if (not (e.pass == who) && test w e.pass e.step) ≡ 0 =
        ap (λ (b : Bool). one_if (not b && test w e.pass e.step)) (eq-eqb e.pass who own) in
        omega (arith, none)
    | inr away ↦ let here : one_if (not (e.pass == who) && test w e.pass e.step) ≡ one_if (test w e.pass e.step) =
        ap (λ (b : Bool). one_if (not b && test w e.pass e.step)) (ne_eqb e.pass who away) in
        let there : its w (e ∷ []) e.pass ≡ own_along test start w (e ∷ []) e.pass =
        ap (λ (b : Bool). if b then 0 else own_along test start w (e ∷ []) e.pass) (ne_eqb e.pass who away) in
        let own : one_if ((e.pass == e.pass) && test w e.pass e.step) ≡ one_if (test w e.pass e.step) =
        ap (λ (b : Bool). one_if (b && test w e.pass e.step)) (eq-eqb e.pass e.pass refl) in
        omega (arith, here, there, own)
  ]

  its_both : (w : World) (e : Event) (events : List Event) (o : ℕ) →
      its w (e ∷ events) o ≡ its w (e ∷ []) o + its (after start w e.pass e.step) events o
  its_both w e events o = either (o == who)
    where
      either : (b : Bool) →
          (if b then 0 else own_along test start w (e ∷ events) o)
          ≡ (if b then 0 else own_along test start w (e ∷ []) o)
          + (if b then 0 else own_along test start (after start w e.pass e.step) events o)
      either true = omega arith
      either false = omega arith

  -- the steps of a run are of its passes
  of_passes : (w : World) (events : List Event) → AreAccepted start passes w events →
      count_along (by_other test who) start w events ≤ sum_of passes (its w events)
  of_passes w [] ok = omega arith
  of_passes w (e ∷ events) ok =
      let v = after start w e.pass e.step in
      let now = its_one w e in
      let one = one_in_sum passes e.pass (its w (e ∷ [])) ok.0.0 in
      let rest = of_passes v events ok.1 in
      let each = sum_same passes (its w (e ∷ events)) (λ o. its w (e ∷ []) o + its v events o) (its_both w e events) in
      let sum = sum_both passes (its w (e ∷ [])) (its v events) in
      omega (arith, now, one, rest, each, sum)

-- ---- what a pass did in a stretch

beyond_of : (p : Trace) → times_beyond p ≡ own_along (goes_beyond p.start) p.start (opening p.start) p.seen p.who
unfolding times_beyond
beyond_of p = refl

module _ (p q : Trace) (who : ℕ) (b : Begins p.seen q.seen) where
  abbrev done : ℕ
  done = own_along (goes_beyond p.start) p.start (world_after p.start p.seen) b.0 who

  still_none : BeginsFor who p.seen q.seen → done ≡ 0
  still_none still =
      none_along (goes_beyond p.start) p.start (world_after p.start p.seen) b.0 who
      (subst (NoneOf who) (append_cancel_left p.seen still.0 b.0 (sym still.1 ∙ b.1)) still.2)

  abbrev from_opening : List Event → ℕ
  from_opening events = own_along (goes_beyond p.start) p.start (opening p.start) events who

  opened_both : (xs ys : List Event) → from_opening (xs ++ ys)
      ≡ from_opening xs + own_along (goes_beyond p.start) p.start (world_after p.start xs) ys who
  opened_both xs ys =
      along-append (λ (w : World) (e : Event). (e.pass == who) && goes_beyond p.start w e.pass e.step) p.start
      (opening p.start) xs ys

  of_view : (t : Trace) → t.start ≡ p.start → t.who ≡ who → times_beyond t ≡ from_opening t.seen
  of_view t start is =
      beyond_of t ∙ (λ i. own_along (goes_beyond (start i)) (start i) (opening (start i)) t.seen (is i))

  in_stretch : (beyond : ℕ) → WentBeyond p q who beyond → done ≤ beyond
  in_stretch beyond went =
      let first = of_view went.from.trace went.start went.is in
      let last = of_view went.to.trace (went.came.sees.same.start ∙ went.start) (went.came.sees.same.who ∙ went.is) in
      let few = went.came.few in
      let to_here = ap from_opening went.earlier.1 in
      let before = opened_both went.from.trace.seen went.earlier.0 in
      let to_last = ap from_opening (went.later.1 ∙ ap (λ (l : List Event). l ++ went.later.0) b.1) in
      let behind = opened_both (p.seen ++ b.0) went.later.0 in
      let whole = opened_both p.seen b.0 in
      omega (arith, first, last, few, to_here, before, to_last, behind, whole)

-- ---- the law

pub inserts_pay : InsertsPayForGains
inserts_pay p q beyond law sees others = omega (arith, paid, end, summed, no_more, few, calls)
  where
    b : Begins p.trace.seen q.trace.seen
    b = sees.begins

    run : IsRun p.trace.start p.trace.passes (p.trace.seen ++ b.0)
    run = subst (λ (l : List Event). IsRun p.trace.start p.trace.passes l) b.1
        (run_at q.trace.seen sees.same.start sees.same.passes sees.is_run)

    w : World
    w = world_after p.trace.start p.trace.seen

    -- how often each pass but this one went beyond its need in the stretch
    beyond_by : ℕ → ℕ
    beyond_by = its (goes_beyond p.trace.start) p.trace.start p.trace.passes p.trace.who w b.0

    paid : gains p.trace.start (p.trace.seen ++ b.0) p.trace.who
        + inserts_of_others p.trace.who (world_after p.trace.start p.trace.seen).calls
        ≤ gains p.trace.start p.trace.seen p.trace.who + (p.trace.passes - 1)
        + count_along (by_other (goes_beyond p.trace.start) p.trace.who) p.trace.start w b.0
        + inserts_of_others p.trace.who (world_after p.trace.start (p.trace.seen ++ b.0)).calls
    paid = gains_paid p.trace.start p.trace.passes p.trace.who p.trace.seen b.0 law.start run law.low

    end : gains p.trace.start q.trace.seen p.trace.who ≡ gains p.trace.start (p.trace.seen ++ b.0) p.trace.who
    end = ap (λ (l : List Event). gains p.trace.start l p.trace.who) b.1

    calls : inserts_of_others p.trace.who (calls_of p.trace.start q.trace.seen)
        ≡ inserts_of_others p.trace.who (world_after p.trace.start (p.trace.seen ++ b.0)).calls
    calls = ap (λ (l : List Event). inserts_of_others p.trace.who (world_after p.trace.start l).calls) b.1

    summed : count_along (by_other (goes_beyond p.trace.start) p.trace.who) p.trace.start w b.0
        ≤ sum_of p.trace.passes (beyond_by)
    summed = of_passes (goes_beyond p.trace.start) p.trace.start p.trace.passes p.trace.who w b.0
        (is_run_after p.trace.start p.trace.passes p.trace.seen b.0 run)

    one : (o : ℕ) → o < p.trace.passes →
        beyond_by o ≤ others.each o
    one o low = elim (cases_eq o p.trace.who) [
      | inl own ↦ let none = its_is true (eq-eqb o p.trace.who own) in omega (arith, none)
      | inr away ↦ let all = its_is false (ne_eqb o p.trace.who away) in
          let most : done_by ≤ others.each o = elim (others.others o low away) [
            | inl still ↦ let none = still_none p.trace q.trace o b still in omega (arith, none)
            | inr went ↦ in_stretch p.trace q.trace o b (others.each o) went
          ] in
          omega (arith, all, most)
    ]
      where
        done_by : ℕ
        done_by = own_along (goes_beyond p.trace.start) p.trace.start w b.0 o

        its_is : (t : Bool) → (o == p.trace.who) ≡ t →
            beyond_by o ≡ (if t then 0 else done_by)
        its_is t e = ap (λ (u : Bool). if u then 0 else done_by) e

    no_more : sum_of p.trace.passes (beyond_by)
        ≤ sum_of p.trace.passes others.each
    no_more = sum_no_more p.trace.passes (beyond_by) others.each one

    few : sum_of p.trace.passes others.each ≤ beyond
    few = others.all

-- ---- the calls

never : (p q : PassView) → WinsNoFlag p.trace q.trace → times_beyond q.trace ≤ times_beyond p.trace + 0
never p q none = let same = none.beyond in omega (arith, same)

-- who caught up made no step
caught_none : (p q : Trace) (rest : List Event) → NoneOf p.who rest → q.seen ≡ p.seen ++ rest → q.start ≡ p.start →
    q.who ≡ p.who → times_beyond q ≡ times_beyond p
caught_none p q rest none seen start is =
    let first = beyond_of p in
    let last = beyond_of q
    ∙ (λ i. own_along (goes_beyond (start i)) (start i) (opening (start i)) (seen i) (is i)) in
    let both =
    along-append (λ (w : World) (e : Event). (e.pass == p.who) && goes_beyond p.start w e.pass e.step) p.start
    (opening p.start) p.seen rest in
    let nothing = none_along (goes_beyond p.start) p.start (world_after p.start p.seen) rest p.who none in
    omega (arith, first, last, both, nothing)

pub win_in_need : PassesWinInNeed
win_in_need =
    record {
      stays = λ p law. record { sees = (come_by_calls.stays p law).sees; few = omega arith };
      called = λ op m n law all call.
          record {
            sees = (come_by_calls.called op m n law call).sees;
            few =
                (let same : times_beyond n.pass.trace ≡ times_beyond m.pass.trace =
                ⊎_elim (λ none. none.wins.beyond) (λ may. may.wins.needed all.free) (call_leaves op m n call).slots in
                omega (arith, same));
          };
      called_lacking = λ op m n law call.
          record {
            sees = (come_by_calls.called op m n law call).sees;
            few = elim (call_leaves op m n call).slots [
              | inl none ↦ let same = none.wins.beyond in omega (arith, same)
              | inr may ↦
                  let one = may.wins.one in
                  let raised = may.wins.raised in
                  let inserts = may.inserts in
                  omega (arith, one, raised, inserts)
            ];
          };
      went_over = λ p q sees none. record { sees = sees; few = never p q none.wins };
      met = λ p q epoch did pool.
          record {
            sees = (come_by_calls.met p q epoch did pool).sees;
            few = never p q (did_none did refl tt pool).wins;
          };
      caught = λ set p q token c.
          record {
            sees = (come_by_calls.caught set p q token c).sees;
            few =
                (let same = caught_none p.trace q.trace c.since.rest c.since.none c.since.seen c.since.same.1
                c.since.same.3 in omega (arith, same));
          };
      gave = λ p q shared law g. record { sees = (come_by_calls.gave p q shared law g).sees; few = g.beyond };
      reserved = λ p q steps law takes.
          record {
            sees = (come_by_calls.reserved p q steps law takes).sees;
            few = (let won = takes.won in let beyond = takes.beyond in omega (arith, won, beyond));
          };
      after = λ first later p q r a b.
          record {
            sees = sees_on a.sees b.sees;
            few = (let x = a.few in let y = b.few in omega (arith, x, y));
          };
    }

nothing_summed : (n : ℕ) → sum_of n (λ who. 0) ≡ 0
nothing_summed zero = refl
nothing_summed (suc n) = let before = nothing_summed n in omega (arith, before)

pub nobody_beyond : NobodyGoesBeyond
nobody_beyond p q each =
    record { each = λ who. 0; others = each; all = (let none = nothing_summed p.passes in omega (arith, none)) }
