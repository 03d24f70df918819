-- What it costs to go over buckets, where each advance of the epoch counts once.
use Rattle.vbr_list.proofs.Names.{le-max_left, le-max_right, max-le, max, ◌≡◌, ℕ, zero, suc, ◌+◌, ◌-◌, ◌*◌, ◌≤◌, ap}
use Rattle.vbr_list.proofs.Names.{◌∙◌, subst, arith, mul-le, advances, advances_since, begins_refl, changes_since}
use Rattle.vbr_list.proofs.Names.{disturbed_at, disturbed_in, going_costs, greatest_walk_costs, IsRun, met_in}
use Rattle.vbr_list.proofs.Names.{nodes_after, nodes_listed_in, PassLaw, PassView, Quiet, quiet_on, SearchesIn}
use Rattle.vbr_list.proofs.Names.{steps_besides, steps_to_value_of, Trace, walk_costs, walks_cost}
use Rattle.vbr_list.proofs.traversals.Disturbing.{advances_disturb, disturbed_there, epochs_grow, grows_disturbed}
use Rattle.vbr_list.proofs.traversals.Disturbing.{grown_disturbed, met_after, met_unanswered, run_of}

-- ---- one bucket more

going_on : (p q : Trace) (from to : ℕ) → from ≤ to →
    going_costs p q from (to + 1 - from) ≡ walks_cost p q from (to - from)
    + (changes_since p q to + 1) * walk_costs p q to
    + advances_since p q * max (greatest_walk_costs p q from (to - from)) (walk_costs p q to)
going_on p q from to le =
    let next : to + 1 - from ≡ suc (to - from) = omega (arith, le) in
    let last : from + (to - from) ≡ to = omega (arith, le) in
    ap (going_costs p q from) next
    ∙ ap (λ b.
    walks_cost p q from (to - from) + (changes_since p q b + 1) * walk_costs p q b
    + advances_since p q * max (greatest_walk_costs p q from (to - from)) (walk_costs p q b)) last

-- it costs no less
pub going_no_less : (p q : Trace) (from to : ℕ) → from ≤ to →
    going_costs p q from (to - from) ≤ going_costs p q from (to + 1 - from)
going_no_less p q from to le =
    let one = going_on p q from to le in
    let left = le-max_left (greatest_walk_costs p q from (to - from)) (walk_costs p q to) in
    let high = mul-le (advances_since p q) (greatest_walk_costs p q from (to - from)) (advances_since p q)
    (max (greatest_walk_costs p q from (to - from)) (walk_costs p q to)) (omega arith) left in
    omega (arith, one, high)

-- what was paid before, and one bucket more, in numbers: each walk that was lost there is paid by a change of its list,
-- or by an advance since
paid_more : (used cost cost_then changes w advances_then advances_more advances greatest greatest_then lost since more :
    ℕ) → used ≤ cost_then + advances_then * greatest_then → cost_then ≤ cost → greatest_then ≤ greatest →
    w ≤ greatest → lost ≤ changes + advances_more → advances_then + advances_more ≤ advances →
    since ≤ used + w + lost * w + more → since ≤ cost + (changes + 1) * w + advances * greatest + more
paid_more used cost cost_then changes w advances_then advances_more advances greatest greatest_then lost since more
    paid costs greater high few sum took =
    let before = mul-le advances_then greatest_then advances_then greatest (omega arith) greater in
    let again = mul-le lost w (changes + advances_more) w few (omega arith) in
    let each = mul-le advances_more w advances_more greatest (omega arith) high in
    let all = mul-le (advances_then + advances_more) greatest advances greatest sum (omega arith) in
    omega (arith, paid, costs, before, again, each, all, took)

more_walks : (each met nodes lost now before more : ℕ) → now ≤ before + 5 * met + lost * (5 * met + each) + more →
    met ≤ nodes → now ≤ before + 5 * nodes + lost * (5 * nodes + each) + more
more_walks each met nodes lost now before more took le =
    let low = mul-le lost (5 * met + each) lost (5 * nodes + each) (omega arith) (omega (arith, le)) in
    omega (arith, took, le, low)

-- ---- from one moment to a later one

module _ {p : PassView} {q r : Trace} (law : PassLaw p) (first : Quiet p.trace q) (last : Quiet q r)
    (none : advances r ≡ advances p.trace) where
  whole : Quiet p.trace r
  whole = quiet_on first last

  ok : IsRun p.trace.start p.trace.passes r.seen
  ok = run_of law whole

  abbrev epoch_of : Trace → ℕ
  epoch_of t = (nodes_after p.trace t.seen).epoch

  abbrev disturbed_by_then : ℕ → Trace → ℕ
  disturbed_by_then bucket t = disturbed_at p.trace bucket t.seen

  module _ (bucket : ℕ) where
    -- each advance disturbed the pass
    before : epoch_of q + disturbed_by_then bucket p.trace ≤ epoch_of p.trace + disturbed_by_then bucket q
    before = advances_disturb p.trace r law.start ok bucket whole.same none p.trace.seen q.seen
        (begins_refl p.trace.seen) first.seen last.seen

    after : epoch_of r + disturbed_by_then bucket q ≤ epoch_of q + disturbed_by_then bucket r
    after = advances_disturb p.trace r law.start ok bucket whole.same none q.seen r.seen first.seen last.seen
        (begins_refl r.seen)

    epochs : (epoch_of p.trace ≤ epoch_of q) × (epoch_of q ≤ epoch_of r)
    epochs = (
      epochs_grow p.trace r law.start ok bucket whole.same none p.trace.seen q.seen first.seen last.seen,
      epochs_grow p.trace r law.start ok bucket whole.same none q.seen r.seen last.seen (begins_refl r.seen),
    )

    times : (disturbed_by_then bucket p.trace ≤ disturbed_by_then bucket q)
        × (disturbed_by_then bucket q ≤ disturbed_by_then bucket r)
    times = (
      grown_disturbed law first bucket,
      grows_disturbed p.trace r law.start ok bucket q.seen last.seen,
    )

    changes_grow : changes_since p.trace q bucket ≤ changes_since p.trace r bucket
    changes_grow =
        let a = before in let b = after in let e = epochs in let f = e.0 in let g = e.1 in let t = times in
        let u = t.0 in let v = t.1 in
        omega (arith, a, b, f, g, u, v)

    traversal_grows : walk_costs p.trace q bucket ≤ walk_costs p.trace r bucket
    traversal_grows = let t = times in let v = t.1 in omega (arith, v)

  costs_grow : (from count : ℕ) → walks_cost p.trace q from count ≤ walks_cost p.trace r from count
  costs_grow from zero = omega arith
  costs_grow from (suc count) =
      let rest = costs_grow from count in
      let changes = changes_grow (from + count) in
      let one = mul-le (changes_since p.trace q (from + count) + 1) (walk_costs p.trace q (from + count))
      (changes_since p.trace r (from + count) + 1) (walk_costs p.trace r (from + count)) (omega (arith, changes))
      (traversal_grows (from + count)) in
      omega (arith, rest, one)

  greatest_grows : (from count : ℕ) →
      greatest_walk_costs p.trace q from count ≤ greatest_walk_costs p.trace r from count
  greatest_grows from zero = omega arith
  greatest_grows from (suc count) =
      let rest = greatest_grows from count in
      let one = traversal_grows (from + count) in
      let left = le-max_left (greatest_walk_costs p.trace r from count) (walk_costs p.trace r (from + count)) in
      let right = le-max_right (greatest_walk_costs p.trace r from count) (walk_costs p.trace r (from + count)) in
      max-le (omega (arith, rest, left)) (omega (arith, one, right))

  -- with a seek in one bucket more
  pub going_more : {from to used since more : ℕ} → from ≤ to → used ≤ going_costs p.trace q from (to - from) →
      SearchesIn 5 (steps_besides q) q r to used since more →
      since + steps_besides p.trace ≤ going_costs p.trace r from (to + 1 - from) + more
  going_more {from} {to} {used} {since} {more} le paid x =
      let n = nodes_listed_in p.trace to + disturbed_in p.trace r to in
      let w = walk_costs p.trace r to in
      let greatest = greatest_walk_costs p.trace r from (to - from) in
      let sum = going_on p.trace r from to le in
      let grows = greatest_grows from (to - from) in
      let left = le-max_left greatest w in
      let all = paid_more used (walks_cost p.trace r from (to - from)) (walks_cost p.trace q from (to - from))
      (changes_since p.trace r to) w (advances_since p.trace q) (epoch_of r - epoch_of q) (advances_since p.trace r)
      (max greatest w) (greatest_walk_costs p.trace q from (to - from)) x.lost (since + steps_besides p.trace) more paid
      (costs_grow from (to - from)) (omega (arith, grows, left)) (le-max_right greatest w) few advanced took in
      omega (arith, all, sum)
    where
      met : met_in q r to ≤ nodes_listed_in p.trace to + disturbed_in p.trace r to
      met =
          let later = met_after p.trace r law.start ok to q first.same first.seen last.seen in
          let all = met_unanswered p.trace r law.start ok to whole in
          omega (arith, later, all)

      same : steps_besides q ≡ steps_besides p.trace
      same = ap (λ start. 3 + steps_to_value_of start) first.same.start

      took : since + steps_besides p.trace ≤ used + walk_costs p.trace r to + x.lost * walk_costs p.trace r to + more
      took =
          let P : ℕ → Type 0 =
          λ each. since ≤ used + 5 * (nodes_listed_in p.trace to + disturbed_in p.trace r to)
          + x.lost * (5 * (nodes_listed_in p.trace to + disturbed_in p.trace r to) + each) + more in
          let walks = subst P same (more_walks (steps_besides q) (met_in q r to)
          (nodes_listed_in p.trace to + disturbed_in p.trace r to) x.lost since used more x.paid met) in
          omega (arith, walks)

      few : x.lost ≤ changes_since p.trace r to + (epoch_of r - epoch_of q)
      few =
          let lost = x.few in
          let here = disturbed_there p.trace q to q.seen first.same in
          let there = disturbed_there p.trace q to r.seen first.same in
          let a = before to in let e = epochs to in let f = e.0 in let g = e.1 in let t = times to in
          let u = t.0 in let v = t.1 in
          omega (arith, lost, here, there, a, f, g, u, v)

      advanced : advances_since p.trace q + (epoch_of r - epoch_of q) ≤ advances_since p.trace r
      advanced = let e = epochs to in let f = e.0 in let g = e.1 in omega (arith, f, g)
