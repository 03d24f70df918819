-- An iteration goes from bucket to bucket.
use Rattle.vbr_list.proofs.Names.{◌≡◌, ℕ, zero, suc, ◌+◌, ◌-◌, ◌*◌, ◌<◌, ◌≤◌, Bool, true, false, Option, Some, None}
use Rattle.vbr_list.proofs.Names.{Result, Ok, Err, IfErr, IfOk, refl, sym, ap, ◌∙◌, subst, arith, inl, inr, mul-le}
use Rattle.vbr_list.proofs.Names.{advances, bucket_of, costs_over, costs_over_among, Cursor, disturbed_in}
use Rattle.vbr_list.proofs.Names.{enough_among, enough_to_come_among, enough_to_seek, entered_by, GivesNextNode, Goes}
use Rattle.vbr_list.proofs.Names.{going_costs, HasNoNext, HasStayedOrMoved, IsAlone, IsBehindKey, IsPastKey, IsRun}
use Rattle.vbr_list.proofs.Names.{IteratesNodes, next_bucket, NextNode, nodes_listed_in, Observes, OutOfSteps}
use Rattle.vbr_list.proofs.Names.{PassesBy, PassLaw, PassView, PIECE, Quiet, quiet_on, Refusal, SearchesIn}
use Rattle.vbr_list.proofs.Names.{seek_costs_among, SeesMore, Sought, Start, steps_besides, steps_to_value_of}
use Rattle.vbr_list.proofs.Names.{StopsShort, took_all, TookWithin, Trace}
use Rattle.vbr_list.proofs.iterations.Cursors.{entry_since, passes_bucket, passes_key, passes_last, passes_on}
use Rattle.vbr_list.proofs.iterations.Cursors.{passes_still}
use Rattle.vbr_list.proofs.traversals.Disturbing.{enough_among_more, grows_disturbed, run_of, seek_costs_more}
use Rattle.vbr_list.proofs.traversals.Disturbing.{undisturbed_in}
use Rattle.vbr_list.proofs.named_entries.EntryAnswers.{there_since}
use Rattle.vbr_list.proofs.named_entries.SeenEntries.{full_since}
use Rattle.vbr_list.proofs.iterations.GoingOver.{going_more, going_no_less}
use Rattle.vbr_list.proofs.pieces.Going.{goes_on, goes_refl, within_of}
use Rattle.vbr_list.proofs.pieces.Observing.{observes_on, observes_refl}
use Rattle.vbr_list.proofs.look_ups.ValueReads.{few_to_value}
use Rattle.vbr_list.proofs.traversals.Searching.{searched_since}

-- ---- what buckets cost

-- one bucket more
costs_on : (p : Trace) (times : ℕ → ℕ) (from to : ℕ) → from ≤ to →
    costs_over_among p times from (to + 1 - from) ≡ costs_over_among p times from (to - from)
    + seek_costs_among (nodes_listed_in p to) (times to) (steps_to_value_of p.start)
costs_on p times from to le =
    let next : to + 1 - from ≡ suc (to - from) = omega (arith, le) in
    let last : from + (to - from) ≡ to = omega (arith, le) in
    ap (costs_over_among p times from) next
    ∙ ap (λ b.
    costs_over_among p times from (to - from)
    + seek_costs_among (nodes_listed_in p b) (times b) (steps_to_value_of p.start)) last

-- they cost no less where the pass was disturbed more often
costs_more : (p : Trace) (times most : ℕ → ℕ) → ((bucket : ℕ) → times bucket ≤ most bucket) → (from count : ℕ) →
    costs_over_among p times from count ≤ costs_over_among p most from count
costs_more p times most le from zero = omega arith
costs_more p times most le from (suc n) =
    let rest = costs_more p times most le from n in
    let one = seek_costs_more (nodes_listed_in p (from + n)) (times (from + n)) (most (from + n))
    (steps_to_value_of p.start) (le (from + n)) in
    omega (arith, rest, one)

-- and no less is enough then
pub enough_to_come_more : (p : Trace) (times most : ℕ → ℕ) → ((bucket : ℕ) → times bucket ≤ most bucket) →
    (from to : ℕ) → enough_to_come_among p times from to ≤ enough_to_come_among p most from to
enough_to_come_more p times most le from to =
    let costs = costs_more p times most le from (to - from) in
    let last = enough_among_more (nodes_listed_in p to) (times to) (most to) (le to) in
    omega (arith, costs, last)

-- alone, what is known before
costs_alone : (p q : Trace) → IsAlone p q → (from count : ℕ) →
    costs_over_among p (disturbed_in p q) from count ≡ costs_over p from count
costs_alone p q alone from zero = refl
costs_alone p q alone from (suc n) =
    let rest = costs_alone p q alone from n in
    let one = ap (λ t. seek_costs_among (nodes_listed_in p (from + n)) t (steps_to_value_of p.start))
    (undisturbed_in p q (from + n) alone) in
    omega (arith, rest, one)

-- ---- what the loop keeps

-- it has come from one cursor to another, found no key, and paid for the buckets between, as often as it was disturbed
pub record HasComeBy (p q : PassView) (c d : Cursor) (used budget : ℕ) : Type 0 where
  pub goes : Goes p q 0 used
  pub observes : Observes p.trace q.trace
  pub within : used ≤ budget
  pub passes : PassesBy p.trace q.trace c d None
  pub moved : HasStayedOrMoved c d
  pub paid : used
      ≤ costs_over_among p.trace (disturbed_in p.trace q.trace) c.bucket (d.bucket - c.bucket)
  pub going : used ≤ going_costs p.trace q.trace c.bucket (d.bucket - c.bucket)

pub come_none : (p : PassView) (c : Cursor) (budget : ℕ) → HasComeBy p p c c 0 budget
come_none p c budget = record {
  goes = goes_refl p 0;
  observes = observes_refl p.trace;
  within = omega arith;
  passes = passes_still p.trace p.trace c;
  moved = inl refl;
  paid = omega arith;
  going = omega arith;
}

forth : (c d : Cursor) → HasStayedOrMoved c d → c.bucket ≤ d.bucket
forth c d moved = grind arith

-- a quiet pass has seen more
sees : {p q : Trace} → IsRun p.start p.passes p.seen → Quiet p q → SeesMore p q
sees run quiet = record { same = quiet.same; begins = quiet.seen; is_run = quiet.is_run run }

-- alone, what it gave cost what is known before
known_alone : {A : Type 0} (p q : Trace) (answer : Result A Refusal) (from count : ℕ) →
    IfOk answer (λ given. TookWithin p q (costs_over_among p (disturbed_in p q) from count)) →
    IfOk answer (λ given. IsAlone p q → TookWithin p q (costs_over p from count))
known_alone p q (Ok given) from count took =
    λ alone. subst (TookWithin p q) (costs_alone p q alone from count) took
known_alone p q (Err refusal) from count took = tt

-- it has come to the end
pub come_to_end : {p q : PassView} (c d : Cursor) (used budget : ℕ) → HasComeBy p q c d used budget →
    p.trace.start.shape.buckets ≤ d.bucket → IteratesNodes p q c d budget (Ok None)
come_to_end {p} {q} c d used budget x end = record {
  gives = (x.passes, end);
  refused = tt;
  quiet = x.goes.quiet;
  only_loads = x.observes.only_loads;
  adds_none = x.observes.adds_none;
  takes_no_slot = x.goes.hand.takes_no_slot;
  hand = x.goes.hand.hand;
  steps = within_of used budget x.within x.goes.counts;
  costs = known_alone p.trace q.trace gone c.bucket (entered_by d.bucket d.from - c.bucket) costs;
  disturbed_costs = costs;
  going = within_of used _ (few_all d.from) x.goes.counts;
}
  where
    gone : Result (Option NextNode) Refusal
    gone = Ok None

    few : (from : ℕ) → used
        ≤ costs_over_among p.trace (disturbed_in p.trace q.trace) c.bucket (entered_by d.bucket from - c.bucket)
    few zero = x.paid
    few (suc from) =
        let one = costs_on p.trace (disturbed_in p.trace q.trace) c.bucket d.bucket (forth c d x.moved) in
        let paid = x.paid in
        omega (arith, one, paid)

    few_all : (from : ℕ) → used ≤ going_costs p.trace q.trace c.bucket (entered_by d.bucket from - c.bucket)
    few_all zero = x.going
    few_all (suc from) =
        let one = going_no_less p.trace q.trace c.bucket d.bucket (forth c d x.moved) in
        let paid = x.going in
        omega (arith, one, paid)

    costs : TookWithin p.trace q.trace
        (costs_over_among p.trace (disturbed_in p.trace q.trace) c.bucket (entered_by d.bucket d.from - c.bucket))
    costs = within_of used _ (few d.from) x.goes.counts

module _ {p q : PassView} (r : PassView) (law : PassLaw p) (c d : Cursor) (used since budget : ℕ)
    (x : HasComeBy p q c d used budget) where
  to_here : SeesMore p.trace q.trace
  to_here = sees law.is_run x.goes.quiet

  from_here : Quiet q.trace r.trace → SeesMore q.trace r.trace
  from_here quiet = sees (x.goes.quiet.is_run law.is_run) quiet

  on : c.bucket ≤ d.bucket
  on = forth c d x.moved

  -- what the buckets up to one cost a pass that is disturbed so often
  abbrev costs_to : ℕ → ℕ
  costs_to to = costs_over_among p.trace (disturbed_in p.trace r.trace) c.bucket (to - c.bucket)

  -- what was paid before is no more than that
  paid_then : Quiet q.trace r.trace → used ≤ costs_to d.bucket
  paid_then quiet =
      let before = x.paid in
      let more = costs_more p.trace (disturbed_in p.trace q.trace) (disturbed_in p.trace r.trace) grows c.bucket
      (d.bucket - c.bucket) in
      omega (arith, before, more)
    where
      ok : IsRun p.trace.start p.trace.passes r.trace.seen
      ok = run_of law (quiet_on x.goes.quiet quiet)

      grows : (bucket : ℕ) → disturbed_in p.trace q.trace bucket ≤ disturbed_in p.trace r.trace bucket
      grows bucket =
          let later = grows_disturbed p.trace r.trace law.start ok bucket q.trace.seen quiet.seen in
          omega (arith, later)

  values : steps_to_value_of q.trace.start ≡ steps_to_value_of p.trace.start
  values = ap steps_to_value_of x.goes.quiet.same.start

  -- and with what it cost to seek in one bucket more
  paid_on : Quiet q.trace r.trace →
      SearchesIn 5 (steps_besides q.trace) q.trace r.trace d.bucket used since (steps_besides q.trace) →
      since ≤ costs_to (d.bucket + 1)
  paid_on quiet paid =
      let n = nodes_listed_in p.trace d.bucket in
      let t = disturbed_in p.trace r.trace d.bucket in
      let before = paid_then quiet in
      let P : ℕ → Type 0 =
      λ reading. since ≤ used + (5 * (n + t) + t * (5 * (n + t) + (3 + reading)) + (3 + reading)) in
      let now = subst P values (searched_since law x.goes.quiet quiet paid) in
      let sum = costs_on p.trace (disturbed_in p.trace r.trace) c.bucket d.bucket on in
      omega (arith, before, now, sum)

  -- and so it is where an advance counts once
  advanced_none : Goes q r used since → advances r.trace ≡ advances p.trace
  advanced_none goes = goes.hand.takes_no_slot.count ∙ x.goes.hand.takes_no_slot.count

  going_to : Goes q r used since →
      SearchesIn 5 (steps_besides q.trace) q.trace r.trace d.bucket used since (steps_besides q.trace) →
      since ≤ going_costs p.trace r.trace c.bucket (d.bucket + 1 - c.bucket)
  going_to goes paid =
      let more = going_more law x.goes.quiet goes.quiet (advanced_none goes) on x.going paid in
      let reading = values in
      omega (arith, more, reading)

  -- over the rest of a bucket
  pub come_on : Sought q r d.bucket d.from used since budget (Some None) → HasComeBy p r c (next_bucket d) since budget
  come_on y = record {
    goes = goes_on x.goes y.peeks.tries.goes;
    observes = observes_on x.observes y.peeks.observes;
    within = y.peeks.tries.within.1;
    passes = passes_on to_here (from_here y.peeks.tries.goes.quiet) x.passes (passes_bucket d y.next.tells);
    moved = inr (omega (arith, on), refl);
    paid = paid_on y.peeks.tries.goes.quiet y.next.searches;
    going = going_to y.peeks.tries.goes y.next.searches;
  }

  -- what it gave, or how it was refused, is all that its ends have apart
  comes : {e : Cursor} {found : Option (Option NextNode)} {answer : Result (Option NextNode) Refusal}
      (y : Sought q r d.bucket d.from used since budget found) → IfOk answer (GivesNextNode p.trace r.trace c e) →
      IfErr answer (StopsShort p r c e budget) →
      IfOk answer (λ given.
      TookWithin p.trace r.trace (costs_to (entered_by e.bucket e.from))) →
      IfOk answer (λ given.
      TookWithin p.trace r.trace (going_costs p.trace r.trace c.bucket (entered_by e.bucket e.from - c.bucket))) →
      IteratesNodes p r c e budget answer
  comes {e} {answer = answer} y gives refused costs going =
      let all = goes_on x.goes y.peeks.tries.goes in
      let seen = observes_on x.observes y.peeks.observes in
      record {
        gives = gives;
        refused = refused;
        quiet = all.quiet;
        only_loads = seen.only_loads;
        adds_none = seen.adds_none;
        takes_no_slot = all.hand.takes_no_slot;
        hand = all.hand.hand;
        steps = within_of since budget y.peeks.tries.within.1 all.counts;
        costs = known_alone p.trace r.trace answer c.bucket (entered_by e.bucket e.from - c.bucket) costs;
        disturbed_costs = costs;
        going = going;
      }

  -- to a node
  pub come_to : (e : Cursor) (next : NextNode) → Sought q r d.bucket d.from used since budget (Some (Some next)) →
      (next.is_last ≡ true → e ≡ next_bucket d) → (next.is_last ≡ false → IsBehindKey d.bucket next.key e) →
      IteratesNodes p r c e budget (Ok (Some next))
  come_to e next y last more =
      let tells = y.next.tells.0 in
      let of_bucket : bucket_of p.trace.start.shape next.key ≡ d.bucket =
      ap (λ (s : Start). bucket_of s.shape next.key) (sym x.goes.quiet.same.start) ∙ tells.0.of_bucket in
      let P : ℕ → Type 0 = λ b. IsPastKey b next.key e in
      let past = is_past next.is_last last more in
      let valued : p.trace.start.shape.values ≡ true → q.trace.start.shape.values ≡ true =
      λ values. ap (λ (s : Start). s.shape.values) x.goes.quiet.same.start ∙ values in
      comes y (
        (
          (
            passes_on to_here (from_here y.peeks.tries.goes.quiet) x.passes
                (passes next.is_last last more y.next.tells.1),
            subst P (sym of_bucket) past,
          ),
          λ values. entry_since to_here (tells.1 (valued values)),
        ),
        (
          there_since false r.trace next.key x.goes.quiet (Some next.entry) y.next.tells.2.0,
          λ values. full_since x.goes.quiet (y.next.tells.2.1 (valued values)),
        ),
      ) tt
      (within_of since (costs_to (entered_by e.bucket e.from))
      (let P : ℕ → Type 0 = λ n. since ≤ costs_to n in
      subst P (sym (entered past)) (paid_on y.peeks.tries.goes.quiet y.next.searches))
      (goes_on x.goes y.peeks.tries.goes).counts)
      (within_of since (going_costs p.trace r.trace c.bucket (entered_by e.bucket e.from - c.bucket))
      (let P : ℕ → Type 0 = λ n. since ≤ going_costs p.trace r.trace c.bucket (n - c.bucket) in
      subst P (sym (entered past)) (going_to y.peeks.tries.goes y.next.searches))
      (goes_on x.goes y.peeks.tries.goes).counts)
    where
      is_past : (is_last : Bool) → (is_last ≡ true → e ≡ next_bucket d) →
          (is_last ≡ false → IsBehindKey d.bucket next.key e) → IsPastKey d.bucket next.key e
      is_past is_last last more = grind (arith, last, more)

      passes : (is_last : Bool) → (is_last ≡ true → e ≡ next_bucket d) →
          (is_last ≡ false → IsBehindKey d.bucket next.key e) →
          (is_last ≡ true → HasNoNext q.trace r.trace d.bucket (next.key + 1)) →
          PassesBy q.trace r.trace d e (Some next.key)
      passes true last more none =
          let P : Cursor → Type 0 = λ u. PassesBy q.trace r.trace d u (Some next.key) in
          subst P (sym (last refl)) (passes_last d next.key y.next.tells.0.0 (none refl))
      passes false last more none = passes_key d e next.key y.next.tells.0.0 (more refl)

      entered : IsPastKey d.bucket next.key e → entered_by e.bucket e.from ≡ d.bucket + 1
      entered (inl b) =
          let f : e.from ≡ suc next.key = let g = b.1 in omega (arith, g) in
          ap (entered_by e.bucket) f ∙ ap (λ (n : ℕ). n + 1) b.0
      entered (inr b) = ap (entered_by e.bucket) b.1 ∙ b.0

  -- no further, for want of steps
  pub come_short : d.bucket < p.trace.start.shape.buckets → Sought q r d.bucket d.from used since budget None →
      IteratesNodes p r c d budget (Err (OutOfSteps since))
  come_short here y =
      comes y tt (record {
        tired = record {
          took = took_all (goes_on x.goes y.peeks.tries.goes).counts;
          within = y.peeks.tries.within.1;
          short = y.tired.tired;
        };
        passed = passes_on to_here (from_here y.peeks.tries.goes.quiet) x.passes (passes_still q.trace r.trace d);
        moved = x.moved;
        bucket = here;
        short = λ alone. alone_short alone;
        disturbed_short = lacks;
        going_short = lacks_room;
      }) tt tt
    where
      lacks_room : budget < going_costs p.trace r.trace c.bucket (d.bucket + 1 - c.bucket) + PIECE
      lacks_room =
          let more = going_more law x.goes.quiet y.peeks.tries.goes.quiet (advanced_none y.peeks.tries.goes) on
          x.going y.tired.searches in
          omega (arith, more)

      lacks : budget < enough_to_come_among p.trace (disturbed_in p.trace r.trace) c.bucket d.bucket
      lacks =
          let n = nodes_listed_in p.trace d.bucket in
          let t = disturbed_in p.trace r.trace d.bucket in
          let before = paid_then y.peeks.tries.goes.quiet in
          let now = searched_since law x.goes.quiet y.peeks.tries.goes.quiet y.tired.searches in
          let few = few_to_value q.trace.start in
          let each = mul-le t (5 * (n + t) + steps_besides q.trace) t (5 * (n + t) + 11) (omega arith)
          (omega (arith, few)) in
          omega (arith, before, now, each)

      alone_short : IsAlone p.trace r.trace →
          budget < costs_over p.trace c.bucket (d.bucket - c.bucket) + enough_to_seek p.trace d.bucket
      alone_short alone =
          let costs = costs_alone p.trace r.trace alone c.bucket (d.bucket - c.bucket) in
          let enough = ap (enough_among (nodes_listed_in p.trace d.bucket))
          (undisturbed_in p.trace r.trace d.bucket alone) in
          let short = lacks in
          omega (arith, short, costs, enough)
