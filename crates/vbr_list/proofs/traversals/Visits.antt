-- A traversal along a bucket goes on from place to place, whatever others do meanwhile.
use Rattle.vbr_list.proofs.Names.{◌≡◌, ℕ, suc, ◌+◌, ◌*◌, ◌<◌, ◌≤◌, true, false, List, Option, Some, None, refl, sym}
use Rattle.vbr_list.proofs.Names.{ap, ◌∙◌, subst, arith, is_some, mul-le, ahead_few, At, Begins, begins_refl}
use Rattle.vbr_list.proofs.Names.{begins_run, begins_trans, changed_at, disturbances_grow, disturbed_at, Event}
use Rattle.vbr_list.proofs.Names.{HasVisited, head_visited, Held, held_of, HeldIn, incarnations_after, IsAhead}
use Rattle.vbr_list.proofs.Names.{IsDisturbed, IsFresh, IsOpenIn, IsRun, IsSame, IsStart, knows, KnowsEpoch, link_at}
use Rattle.vbr_list.proofs.Names.{link_of, link_shown_at, Marked, MeetsBehind, met_in, met_place, MovesEpoch}
use Rattle.vbr_list.proofs.Names.{MovesSince, next_visited, nodes_after, Observes, OpensPlace, own_changes, PassLaw}
use Rattle.vbr_list.proofs.Names.{PassView, Quiet, quiet_on, ReadsNext, same_refl, shown_there, since, Slot}
use Rattle.vbr_list.proofs.Names.{StandsStill, Start, StartsAt, Stood, StoodOpen, Trace, TraversesOnce, unmarked_open}
use Rattle.vbr_list.proofs.Names.{Visited, visited_few, visited_on, world_after}
use Rattle.vbr_list.proofs.traversals.Disturbing.{fresh_at, kept_between, met_until, moves_disturb, run_of}
use Rattle.vbr_list.proofs.traversals.Disturbing.{unchanged_at}

-- a traversal along a bucket stands at a place, behind a place that stood open; for each node that it has visited it made no
-- more than so many steps, and three before
pub record GoesAlong (per : ℕ) (p q : Trace) (bucket before since : ℕ) (pred here : Held) : Type 0 where
  pub knew : KnowsEpoch p q
  pub stands : StandsStill p q bucket pred
  pub visited : ℕ
  pub steps : since ≤ before + 3 + per * visited
  pub ahead : HasVisited p.start (nodes_after p p.seen) (nodes_after p q.seen) (knows q).epoch bucket visited
      (link_of here.word).slot

-- ---- until a later moment

abbrev pub stood_on : {p q r : Trace} {bucket : ℕ} {held : Held} → Begins q.seen r.seen → StoodOpen p q bucket held →
    StoodOpen p r bucket held
stood_on {p} {q} {r} b x =
    record {
      moment = x.moment;
      from = x.from;
      to = begins_trans x.moment q.seen r.seen x.to b;
      shown = x.shown;
      is_open = x.is_open;
    }

pub stands_still_on : {p q r : Trace} {bucket : ℕ} {held : Held} → Begins q.seen r.seen →
    changed_at p bucket r.seen ≡ changed_at p bucket q.seen → StandsStill p q bucket held → StandsStill p r bucket held
stands_still_on {p} {q} {r} b none x = record { stood = stood_on b x.stood; own = none ∙ x.own }

-- between two moments in one epoch it was that one
same_epoch : (p : Trace) (q x r : List Event) (epoch : ℕ) → IsStart p.start → IsRun p.start p.passes r → Begins q x →
    Begins x r → (nodes_after p q).epoch ≡ epoch → (nodes_after p r).epoch ≡ epoch → (nodes_after p x).epoch ≡ epoch
same_epoch p q x r epoch is ok a b first last =
    let low = (since p.start p.passes q x is (begins_run p.start p.passes x r b ok) a).grown.epoch in
    let high = (since p.start p.passes x r is ok b).grown.epoch in
    omega (arith, low, high, first, last)

-- an epoch that stands now stood at a moment
pub knows_now : (p q : Trace) → IsSame p q → Begins p.seen q.seen → IsFresh q → KnowsEpoch p q
knows_now p q same b fresh =
    record { moment = q.seen; from = b; to = begins_refl q.seen; was = fresh_at p q same fresh }

-- an epoch that the pass knows is no later than the one that stands
known_low : (p q : Trace) → IsStart p.start → IsRun p.start p.passes q.seen → KnowsEpoch p q →
    (knows q).epoch ≤ (nodes_after p q.seen).epoch
known_low p q is ok k =
    let e = k.was in
    let grows = (since p.start p.passes k.moment q.seen is ok k.to).grown.epoch in
    omega (arith, e, grows)

-- ---- what was read

module _ {p q r : Trace} (is : IsStart p.start) (ok : IsRun p.start p.passes r.seen) (same : IsSame p q)
    (a : Begins p.seen q.seen) {held : Held} (x : Stood q r held) where
  -- it stood at its moment
  loaded_at : link_at (world_after p.start x.moment) held.at ≡ link_of held.word
  loaded_at = sym (ap (λ (start : Start). link_at (world_after start x.moment) held.at) same.start) ∙ x.shown

  -- and open, if the place was, since the pass changed nothing itself
  stood_open : (bucket : ℕ) (before : List Event) → Begins before q.seen →
      changed_at p bucket r.seen ≡ changed_at p bucket before →
      IsOpenIn p.start (nodes_after p x.moment) bucket held.at → StandsStill p r bucket held
  stood_open bucket before b own is_open =
      let ok_x = begins_run p.start p.passes x.moment r.seen x.within.to ok in
      record {
        stood = record {
          moment = x.moment;
          from = begins_trans p.seen q.seen x.moment a x.within.from;
          to = x.within.to;
          shown = sym (shown_there p.start p.passes x.moment is ok_x held.at) ∙ loaded_at;
          is_open = is_open;
        };
        own = kept_between p before x.moment r.seen is ok bucket (begins_trans before q.seen x.moment b x.within.from)
            x.within.to own;
      }

-- ---- a start

module _ {p : PassView} {r : Trace} (law : PassLaw p) (bucket : ℕ) (quiet : Quiet p.trace r)
    (observes : Observes p.trace r) where
  ok : IsRun p.trace.start p.trace.passes r.seen
  ok = run_of law quiet

  unmoved : changed_at p.trace bucket r.seen ≡ changed_at p.trace bucket p.trace.seen
  unmoved = unchanged_at p.trace p.trace r bucket law.start ok (same_refl p.trace) quiet.same quiet.seen
      observes.adds_none

  -- a traversal that didn't start was disturbed
  pub starts_none : MovesSince p.trace r → IsDisturbed p.trace r bucket
  starts_none m =
      let q = m.checks.between in
      let less = moves_disturb p.trace r law.start ok bucket q m.checks.same quiet.same m.checks.to
      (kept_between p.trace p.trace.seen q.seen r.seen law.start ok bucket m.checks.from m.checks.to unmoved)
      m.checks.was m.moves in
      let more = disturbances_grow
      (since p.trace.start p.trace.passes p.trace.seen q.seen law.start
      (begins_run p.trace.start p.trace.passes q.seen r.seen m.checks.to ok) m.checks.from) p.trace.who bucket in
      omega (arith, less, more)

  -- and all that it made was its start
  pub start_stops : (per : ℕ) {used now : ℕ} → now ≡ used + 3 → MovesSince p.trace r →
      (used < now) × TraversesOnce per 3 p.trace r bucket used now × IsDisturbed p.trace r bucket
  start_stops per {used} {now} sum moves =
      let within : (more : ℕ) → now ≤ used + 3 + more = λ more. omega (arith, sum) in
      (omega (arith, sum), within (per * met_in p.trace r bucket), starts_none moves)

  -- a traversal stands at the head
  pub starts_traversal : (per before since_then : ℕ) (head : Held) → since_then ≡ before + 3 →
      StartsAt p.trace r bucket head → GoesAlong per p.trace r bucket before since_then head head
  starts_traversal per before since_then head sum found =
      let c = found.reads.checks in
      let q = c.between in
      let x = found.reads.stood in
      let now = same_epoch p.trace q.seen x.moment r.seen (knows r).epoch law.start ok x.within.from x.within.to
      (fresh_at p.trace q c.same c.was ∙ sym found.reads.epoch) (fresh_at p.trace r quiet.same found.reads.fresh) in
      let P : At → Type 0 = IsOpenIn p.trace.start (nodes_after p.trace x.moment) bucket in
      record {
        knew = knows_now p.trace r quiet.same quiet.seen found.reads.fresh;
        stands = stood_open law.start ok c.same c.from x bucket p.trace.seen c.from unmoved
            (subst P (sym found.place) refl);
        visited = 0;
        steps = omega (arith, sum);
        ahead = head_visited p.trace.start p.trace.passes p.trace.seen q.seen x.moment r.seen law.start ok c.from
            x.within.from x.within.to (knows r).epoch bucket (link_of head.word) now
            (sym (ap (link_at (world_after p.trace.start x.moment)) found.place)
            ∙ loaded_at law.start ok c.same c.from x);
      }

-- ---- a traversal so far

-- its steps are paid by the nodes that it can have met
pub paid_so_far : {p : PassView} {q : Trace} {per bucket before since_then : ℕ} {pred here : Held} → PassLaw p →
    Quiet p.trace q → GoesAlong per p.trace q bucket before since_then pred here →
    TraversesOnce per 3 p.trace q bucket before since_then
paid_so_far {p} {q} {per} {bucket} {here = here} law quiet w =
    let few = visited_few p.trace.start p.trace.passes q.seen law.start (run_of law quiet)
    (nodes_after p.trace p.trace.seen) (knows q).epoch bucket w.visited (link_of here.word).slot w.ahead in
    let steps = w.steps in
    let more = mul-le per w.visited per (met_in p.trace q bucket) (omega arith) few in
    omega (arith, more, steps)

-- ---- a visit

module _ {p : PassView} {q r : Trace} (law : PassLaw p) (bucket : ℕ) (first : Quiet p.trace q) (visit : Quiet q r) where
  whole : Quiet p.trace r
  whole = quiet_on first visit

  pub visited_run : IsRun p.trace.start p.trace.passes r.seen
  visited_run = run_of law whole

  run_before : IsRun p.trace.start p.trace.passes q.seen
  run_before = begins_run p.trace.start p.trace.passes q.seen r.seen visit.seen visited_run

  -- the steps for a node that a link names are paid
  pub visit_paid : {per before since_then now_used : ℕ} {pred here : Held}
      (w : GoesAlong per p.trace q bucket before since_then pred here) → now_used ≤ since_then + per →
      is_some (link_of here.word).slot ≡ true → TraversesOnce per 3 p.trace r bucket before now_used
  visit_paid {per} {before} {now_used = now_used} {here = here} w more some = go (link_of here.word).slot w.ahead some
    where
      go : (named : Option ℕ) →
          HasVisited p.trace.start (nodes_after p.trace p.trace.seen) (nodes_after p.trace q.seen) (knows q).epoch
          bucket w.visited named → is_some named ≡ true → TraversesOnce per 3 p.trace r bucket before now_used
      go None h t = absurd (cc)
      go (Some s) h t =
          let few = ahead_few p.trace.start p.trace.passes q.seen law.start run_before
          (nodes_after p.trace p.trace.seen) (knows q).epoch bucket w.visited s h in
          let on = met_until p.trace r law.start visited_run bucket q first.seen visit.seen in
          let steps = w.steps in
          let paid = mul-le per (suc w.visited) per (met_in p.trace r bucket) (omega arith) (omega (arith, few, on)) in
          omega (arith, paid, steps, more)

  -- past a node that is unlinked the traversal stands at the place with its new link
  pub traversal_helped : {per before used : ℕ} {pred : Held} {gone : Marked} {place : Held} →
      GoesAlong per p.trace q bucket before used pred (held_of gone) → HeldIn (knows q) pred.at bucket →
      (knows r).epoch ≡ (knows q).epoch → OpensPlace q r pred gone place →
      GoesAlong per p.trace r bucket before used place place
  traversal_helped {per} {gone = gone} {place} w inside keeps x =
      let on = visited_on p.trace.start p.trace.passes (nodes_after p.trace p.trace.seen) q.seen r.seen law.start
      visited_run visit.seen (knows q).epoch bucket w.visited (link_of gone.word).slot
      (known_low p.trace q law.start run_before w.knew) w.ahead in
      let S : ℕ → Type 0 =
      λ e. HasVisited p.trace.start (nodes_after p.trace p.trace.seen) (nodes_after p.trace r.seen) e bucket w.visited
      (link_of gone.word).slot in
      let T : Option ℕ → Type 0 =
      HasVisited p.trace.start (nodes_after p.trace p.trace.seen) (nodes_after p.trace r.seen) (knows r).epoch bucket
      w.visited in
      let O : Start → Type 0 = λ start. IsOpenIn start (incarnations_after start x.moment) bucket place.at in
      record {
        knew = record {
          moment = w.knew.moment;
          from = w.knew.from;
          to = begins_trans w.knew.moment q.seen r.seen w.knew.to visit.seen;
          was = w.knew.was ∙ sym keeps;
        };
        stands = record {
          stood = record {
            moment = x.moment;
            from = begins_trans p.trace.seen q.seen x.moment first.seen x.from;
            to = x.to;
            shown = ap (λ (start : Start). link_shown_at (incarnations_after start x.moment) place.at)
                (sym first.same.start) ∙ x.shown;
            is_open = subst O first.same.start (x.is_open bucket inside);
          };
          own = sym (λ i. own_changes (first.same.start i) r.seen (first.same.who i) bucket) ∙ x.own bucket
              ∙ (λ i. own_changes (first.same.start i) x.moment (first.same.who i) bucket);
        };
        visited = w.visited;
        steps = w.steps;
        ahead = subst T (sym x.next) (subst S (sym keeps) on);
      }

  module _ (observes : Observes q r) where
    pub visit_changes_none : changed_at p.trace bucket r.seen ≡ changed_at p.trace bucket q.seen
    visit_changes_none =
        unchanged_at p.trace q r bucket law.start visited_run first.same whole.same visit.seen observes.adds_none

    -- it rolled back
    pub visit_moved : IsFresh q → MovesEpoch q r →
        disturbed_at p.trace bucket q.seen < disturbed_at p.trace bucket r.seen
    visit_moved fresh moves =
        moves_disturb p.trace r law.start visited_run bucket q first.same whole.same visit.seen visit_changes_none fresh
        moves

    module _ {per before since_then : ℕ} {pred here : Held} (w : GoesAlong per p.trace q bucket before since_then pred
        here)
        {c number : ℕ} {met : Visited} (m : MeetsBehind q r since_then c here number met) where
      abbrev node : Held
      node = met_place met

      abbrev reads : ReadsNext q r here node
      reads = m.reads

      pub met_knows : KnowsEpoch p.trace r
      met_knows = knows_now p.trace r whole.same whole.seen m.fresh

      pub met_paid : {now_used : ℕ} → now_used ≤ since_then + per → TraversesOnce per 3 p.trace r bucket before now_used
      met_paid le = visit_paid w le (ap is_some reads.named)

      node_ahead : IsAhead p.trace.start (nodes_after p.trace p.trace.seen) (nodes_after p.trace q.seen) (knows q).epoch
          bucket w.visited reads.slot
      node_ahead =
          let P : Option ℕ → Type 0 =
          HasVisited p.trace.start (nodes_after p.trace p.trace.seen) (nodes_after p.trace q.seen) (knows q).epoch
          bucket w.visited in subst P reads.named w.ahead

      now : (nodes_after p.trace reads.stood.moment).epoch ≡ (knows q).epoch
      now = same_epoch p.trace w.knew.moment reads.stood.moment r.seen (knows q).epoch law.start visited_run
          (begins_trans w.knew.moment q.seen reads.stood.moment w.knew.to reads.stood.within.from) reads.stood.within.to
          w.knew.was (fresh_at p.trace r whole.same m.fresh ∙ m.keeps.epoch)

      loaded : link_at (world_after p.trace.start reads.stood.moment) (Slot reads.slot) ≡ link_of node.word
      loaded = sym (ap (link_at (world_after p.trace.start reads.stood.moment)) reads.place)
          ∙ loaded_at law.start visited_run first.same first.seen reads.stood

      -- an unmarked one stood open
      pub met_open : (link_of node.word).mark ≡ false → StandsStill p.trace r bucket node
      met_open u =
          let P : At → Type 0 = IsOpenIn p.trace.start (nodes_after p.trace reads.stood.moment) bucket in
          stood_open law.start visited_run first.same first.seen reads.stood bucket q.seen (begins_refl q.seen)
          visit_changes_none
          (subst P (sym reads.place)
          (unmarked_open p.trace.start p.trace.passes p.trace.seen q.seen reads.stood.moment r.seen law.start
          visited_run first.seen reads.stood.within.from reads.stood.within.to (knows q).epoch bucket w.visited
          reads.slot (link_of node.word) node_ahead (known_low p.trace q law.start run_before w.knew) now loaded u))

      -- the node was visited, and what it names is ahead
      goes_to : {place : Held} → StandsStill p.trace r bucket place → {now_used : ℕ} → now_used ≤ since_then + per →
          GoesAlong per p.trace r bucket before now_used place node
      goes_to stands more =
          let P : ℕ → Type 0 =
          λ e. HasVisited p.trace.start (nodes_after p.trace p.trace.seen) (nodes_after p.trace r.seen) e bucket
          (suc w.visited) (link_of node.word).slot in
          record {
            knew = met_knows;
            stands = stands;
            visited = suc w.visited;
            steps = (let steps = w.steps in omega (arith, steps, more));
            ahead = subst P (sym m.keeps.epoch)
                (next_visited p.trace.start p.trace.passes p.trace.seen q.seen reads.stood.moment r.seen law.start
                visited_run first.seen reads.stood.within.from reads.stood.within.to (knows q).epoch bucket w.visited
                reads.slot (link_of node.word) node_ahead (known_low p.trace q law.start run_before w.knew) now loaded);
          }

      -- the traversal stands at it, behind the same place
      pub met_past : {now_used : ℕ} → now_used ≤ since_then + per → GoesAlong per p.trace r bucket before now_used pred
          node
      met_past more = goes_to (stands_still_on visit.seen visit_changes_none w.stands) more

      -- or behind itself
      pub met_to : {now_used : ℕ} → now_used ≤ since_then + per → (link_of node.word).mark ≡ false →
          GoesAlong per p.trace r bucket before now_used node node
      met_to more u = goes_to (met_open u) more
