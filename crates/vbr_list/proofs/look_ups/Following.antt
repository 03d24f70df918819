-- A traversal of loads alone goes on from place to place, past the keys that a seek tells of.
use Rattle.vbr_list.proofs.Names.{◌≡◌, ℕ, ◌+◌, ◌<◌, ◌≤◌, Bool, true, false, Option, Some, None, sym, ap, ◌∙◌, subst}
use Rattle.vbr_list.proofs.Names.{arith, is_none, is_some, refl, At, behind_kept, Beyond, bucket_of, Entry, entry_of}
use Rattle.vbr_list.proofs.Names.{HasNoNext, Held, held_in_kept, held_in_next, held_kept, held_of, IsDisturbed}
use Rattle.vbr_list.proofs.Names.{IsRead, IsRun, IsSame, IsStart, IsVisit, itself, Keeps, keeps_on, KeyAt, Knows}
use Rattle.vbr_list.proofs.Names.{knows, link_of, LooksOn, Marked, MeetsBehind, moment_after, MovesEpoch, NextNode}
use Rattle.vbr_list.proofs.Names.{onward, PassLaw, PassView, Peeks, PIECE, Quiet, quiet_on, quiet_refl, ReadsIn}
use Rattle.vbr_list.proofs.Names.{ReadsValue, Slot, Smaller, StandsBefore, StandsBehind, Start, StartsAt}
use Rattle.vbr_list.proofs.Names.{steps_besides, steps_to_value_of, stood_before, TellsNode, Trace, TraversesOnce}
use Rattle.vbr_list.proofs.Names.{ValueAt, ValueOf, Visited, was_absent, was_absent_on, was_entry, was_present, WasSo}
use Rattle.vbr_list.proofs.named_entries.SeenEntries.{entry_at_slot, named_same, was_full, was_there}
use Rattle.vbr_list.specs.declared.visiting.Visited.TheVariants.{Marked as MarkedNode}
use Rattle.vbr_list.proofs.traversals.Disturbing.{grown_disturbed, met_until, run_of}
use Rattle.vbr_list.proofs.pieces.Going.{goes_counted, keeps_still}
use Rattle.vbr_list.proofs.pieces.Observing.{reads_observe}
use Rattle.vbr_list.proofs.look_ups.Passing.{leads_kept, peeks_on, peeks_refl}
use Rattle.vbr_list.proofs.traversals.Reaching.{behind_node, head_before, key_kept, node_before, stood_since}
use Rattle.vbr_list.proofs.traversals.Traversals.{Follows, IsPlaceBefore}
use Rattle.vbr_list.proofs.look_ups.ValueReads.{few_to_value}
use Rattle.vbr_list.proofs.traversals.Visits.{met_paid, met_past, met_to, starts_traversal, visit_moved, visit_paid}

-- ---- places

-- what is known stays
pub place_on : {p q : Trace} (bucket from : ℕ) (place : Held) → IsSame p q → Keeps (knows p) (knows q) →
    IsPlaceBefore p.start (knows p) bucket from place → IsPlaceBefore q.start (knows q) bucket from place
place_on {p} {q} bucket from place s keeps x =
    let P : Start → Type 0 =
    λ start. (key : ℕ) → bucket_of start.shape key ≡ bucket → from ≤ key → StandsBehind start (knows q) place.at key in
    record {
      held = held_kept place keeps x.held;
      inside = held_in_kept place.at bucket keeps x.inside;
      unmarked = x.unmarked;
      behind = subst P (sym s.start) (λ key b h. behind_kept p.start place.at key keeps (x.behind key b h));
    }

-- ---- from place to place

-- at the head
pub follows_head : {p q : PassView} → PassLaw p → (bucket from before since budget : ℕ) (head : Held) →
    LooksOn p q before since → since ≡ before + 3 → before + PIECE ≤ budget → StartsAt p.trace q.trace bucket head →
    Follows p q bucket from before since budget head head
follows_head {p} law bucket from before since budget head looks sum fits x =
    let come = head_before bucket from head x in
    record {
      peeks = peeks_on (peeks_refl p before budget (omega (arith, fits))) looks.goes looks.observes (omega (arith, sum))
          (omega (arith, sum, fits));
      some = omega (arith, sum);
      come = come;
      inside = record { held = x.known; inside = come.is.inside };
      leads = itself;
      fresh = x.reads.fresh;
      traverses = starts_traversal law bucket looks.goes.quiet looks.observes 5 before since head sum x;
    }

-- and on by a visit
module _ {p q r : PassView} (law : PassLaw p) {bucket from a b c budget : ℕ} {pred here : Held}
    (x : Follows p q bucket from a b budget pred here) (looks : LooksOn q r b c) (few : IsVisit b c)
    (fits : b + PIECE ≤ budget) where
  pub peeks_visit : Peeks p r a c budget
  peeks_visit = peeks_on x.peeks looks.goes looks.observes (omega (arith, few)) (omega (arith, few, fits))

  abbrev first : Quiet p.trace q.trace
  first = x.peeks.tries.goes.quiet

  -- it rolled back, which was a disturbance
  pub visit_lost : is_some (link_of here.word).slot ≡ true → MovesEpoch q.trace r.trace →
      (a < c) × TraversesOnce 5 3 p.trace r.trace bucket a c × IsDisturbed p.trace r.trace bucket
  visit_lost some moves =
      let before = grown_disturbed law first bucket in
      let less = visit_moved law bucket first looks.goes.quiet looks.observes x.fresh moves in
      let low = x.some in (
        omega (arith, low, few),
        visit_paid law bucket first looks.goes.quiet x.traverses (omega (arith, few)) some,
        omega (arith, before, less),
      )

  -- a value is read of the node that it met, in so many steps
  module _ {met : Visited} (m : MeetsBehind q.trace r.trace b c here from met) {s : PassView} {n : ℕ}
      (reads : ReadsIn r s (steps_to_value_of r.trace.start)) (steps : n ≡ steps_to_value_of r.trace.start) where
    whole : Quiet p.trace r.trace
    whole = quiet_on first looks.goes.quiet

    ok : IsRun p.trace.start p.trace.passes s.trace.seen
    ok = run_of law (quiet_on whole reads.quiet)

    pub value_paid : TraversesOnce 5 (steps_besides p.trace) p.trace s.trace bucket a (c + n)
    value_paid =
        let paid = met_paid law bucket first looks.goes.quiet looks.observes x.traverses m {now_used = c}
        (omega (arith, few)) in
        let more = met_until p.trace s.trace law.start ok bucket r.trace whole.seen reads.quiet.seen in
        let same : steps_to_value_of r.trace.start ≡ steps_to_value_of p.trace.start =
        ap steps_to_value_of whole.same.start in
        omega (arith, paid, more, steps, same)

    -- or it isn't, which was a disturbance
    pub value_lost : MovesEpoch r.trace s.trace →
        (a < c + n) × TraversesOnce 5 (steps_besides p.trace) p.trace s.trace bucket a (c + n) ×
        IsDisturbed p.trace s.trace bucket
    value_lost moves =
        let before = grown_disturbed law whole bucket in
        let less = visit_moved law bucket whole reads.quiet (reads_observe reads) m.fresh moves in
        let low = x.some in
        (omega (arith, low, few), value_paid, omega (arith, before, less))

  -- a node with a key below the number
  pub follows_node : (node : Held) → MeetsBehind q.trace r.trace b c here from (Smaller node) →
      Follows p r bucket from a c budget node node
  follows_node node m =
      let come = node_before bucket from m.visits.key here node x.inside m.keeps m.reads m.visits.has m.visits.low in
      record {
        peeks = peeks_visit;
        some = let u = x.some in omega (arith, u, few);
        come = record { is = come.is; stood = stood_since first come.stood };
        inside = record { held = come.is.held; inside = come.is.inside };
        leads = itself;
        fresh = m.fresh;
        traverses = met_to law bucket first looks.goes.quiet looks.observes x.traverses m (omega (arith, few))
            come.is.unmarked;
      }

  -- a marked node
  pub follows_marked : (gone : Marked) → MeetsBehind q.trace r.trace b c here from (MarkedNode gone) →
      Follows p r bucket from a c budget pred (held_of gone)
  follows_marked gone m =
      let held = m.visits.0 in
      let names = m.visits.1 in
      record {
        peeks = peeks_visit;
        some = let u = x.some in omega (arith, u, few);
        come = record {
          is = place_on bucket from pred looks.goes.quiet.same m.keeps x.come.is;
          stood = stood_before x.come.stood looks.goes.quiet;
        };
        inside = record {
          held = held.held;
          inside = held_in_next here gone.slot bucket (held_kept here m.keeps x.inside.held) names
              (held_in_kept here.at bucket m.keeps x.inside.inside);
        };
        leads = onward (link_of here.word) gone.slot (link_of gone.word)
            (leads_kept (link_of pred.word) (link_of here.word) m.keeps x.leads) names held.held.link held.mark;
        fresh = m.fresh;
        traverses = met_past law bucket first looks.goes.quiet looks.observes x.traverses m (omega (arith, few));
      }

-- and a value is read
peeks_value : {p q r : PassView} {a : ℕ} (b n budget : ℕ) → Peeks p q a b budget →
    ReadsIn q r (steps_to_value_of q.trace.start) → n ≡ steps_to_value_of q.trace.start → b + 2 ≤ budget →
    Peeks p r a (b + n) budget
peeks_value {p} {q} b n budget x y e fits =
    let few = few_to_value q.trace.start in
    peeks_on x (goes_counted b n (steps_to_value_of q.trace.start) e y) (reads_observe y) (omega arith)
    (omega (arith, e, few, fits))

-- of the node that was visited
pub peeks_behind : {p q r t : PassView} → PassLaw p → {bucket from a b c budget : ℕ} {pred here : Held} →
    Follows p q bucket from a b budget pred here → LooksOn q r b c → IsVisit b c → b + PIECE ≤ budget → (n : ℕ) →
    ReadsIn r t (steps_to_value_of r.trace.start) → n ≡ steps_to_value_of r.trace.start → Peeks p t a (c + n) budget
peeks_behind law {c = c} {budget = budget} x looks few fits n reads e =
    peeks_value c n budget (peeks_visit law x looks few fits) reads e (omega (arith, few, fits))

-- ---- what it tells

-- each key of the bucket from the number on that stands before what the place names was absent at a moment
pub passed_by : {p q : PassView} (r : PassView) {bucket from a b budget : ℕ} {pred here : Held} →
    IsStart p.trace.start → Follows p q bucket from a b budget pred here → Quiet q.trace r.trace →
    Keeps (knows q.trace) (knows r.trace) → (other : ℕ) → bucket_of p.trace.start.shape other ≡ bucket → from ≤ other →
    StandsBefore (knows r.trace) other (link_of here.word).slot → WasSo p.trace r.trace other false
passed_by {p} {q} r {bucket} {from} {pred = pred} {here = here} start x quiet keeps other is high before =
    let whole = quiet_on x.peeks.tries.goes.quiet quiet in
    let place = place_on bucket from pred quiet.same keeps x.come.is in
    let now : bucket_of r.trace.start.shape other ≡ bucket =
    ap (λ (t : Start). bucket_of t.shape other) whole.same.start ∙ is in
    was_absent_on pred start whole.same (record { known = place.held; stood = stood_before x.come.stood quiet })
    place.unmarked other (link_of here.word) (leads_kept (link_of pred.word) (link_of here.word) keeps x.leads)
    (place.behind other now high) before

-- what isn't some is none
pub no_slot : (o : Option ℕ) → is_some o ≡ false → o ≡ None
no_slot o e = grind arith

is_last_slot : (o : Option ℕ) → is_none o ≡ true → o ≡ None
is_last_slot o e = grind arith

-- there is no next key
pub tells_none : {p q : PassView} {bucket from a b budget : ℕ} {pred here : Held} → IsStart p.trace.start →
    Follows p q bucket from a b budget pred here → (link_of here.word).slot ≡ None →
    HasNoNext p.trace q.trace bucket from
tells_none {q = q} start x none =
    record {
      behind = λ other is high.
          passed_by q start x (quiet_refl q.trace) (keeps_still (knows q.trace)) other is high (rw none tt);
    }

-- the next node, and the value that was read after it
pub tells_next : {p q r : PassView} (s : PassView) {bucket from a b c budget : ℕ} {pred here : Held} (key value : ℕ)
    (entry : Entry) (is_last : Bool) (node : Held) → IsStart p.trace.start →
    Follows p q bucket from a b budget pred here → Quiet q.trace r.trace →
    MeetsBehind q.trace r.trace b c here from (Beyond node key) → Quiet r.trace s.trace →
    ReadsValue r s node.at value → is_last ≡ is_none (link_of node.word).slot →
    entry_of node (Some value) ≡ Some entry →
    TellsNode p.trace s.trace bucket from (Some (record { key = key; entry = entry; is_last = is_last }))
tells_next {p} {q} {r} s {bucket} {from} {a} {b} {c} {budget} {pred} {here} key value entry is_last node start x visit m
    then v last_is entry_is =
    let quiet = quiet_on visit then in
    let keeps = keeps_on m.keeps v.keeps in
    let first = x.peeks.tries.goes.quiet in
    let whole = quiet_on first quiet in
    let n = m.reads in
    let k = m.visits.0 in
    let P : At → Type 0 = λ place. KeyAt (knows s.trace) place key in
    let Q : At → Type 0 = λ place. ValueAt (knows s.trace) place value in
    let there = key_kept node.at key v.keeps k.keyed in
    let keyed : KeyAt (knows s.trace) (Slot n.slot) key = subst P n.place there in
    let of_bucket : bucket_of p.trace.start.shape key ≡ bucket =
    ap (λ (t : Start). bucket_of t.shape key) (sym (quiet_on first visit).same.start)
    ∙ k.of_bucket bucket x.inside.inside in
    let read : IsRead p.trace s.trace node =
    record { known = held_kept node v.keeps k.held; stood = stood_before (stood_since first n.stood) then } in
    let valued : p.trace.start.shape.values ≡ true → Knows (knows s.trace) (ValueOf n.slot value) =
    λ values. subst Q n.place (v.value (ap (λ (t : Start). t.shape.values) (quiet_on first visit).same.start ∙ values))
    in
    let mine : Entry = record { slot = n.slot; birth = node.birth; value = value } in
    let same : mine ≡ entry =
    (let z : Some mine ≡ Some entry = sym (entry_at_slot node n.slot value n.place) ∙ entry_is in cc) in
    let T : Entry → Type 0 =
    λ e. TellsNode p.trace s.trace bucket from (Some (record { key = key; entry = e; is_last = is_last })) in
    subst T same (
      (
        record {
          high = m.visits.1;
          of_bucket = of_bucket;
          was = was_present node start whole.same read k.unmarked key there;
          between = λ other is high low.
              passed_by s start x quiet keeps other is high (rw n.named (key, keyed, low));
        },
        λ values. was_entry node start whole.same read k.unmarked n.slot key value n.place keyed
            (valued values) values,
      ),
      λ last. record {
        behind = λ other is high.
            let same_bucket : bucket_of p.trace.start.shape other ≡ bucket_of p.trace.start.shape key =
            is ∙ sym of_bucket in
            let S : Start → Type 0 = λ t. bucket_of t.shape other ≡ bucket_of t.shape key in
            let now = subst S (sym whole.same.start) same_bucket in
            let none = is_last_slot (link_of node.word).slot (sym last_is ∙ last) in
            was_absent node start whole.same read k.unmarked other
            (behind_node s.trace.start (knows s.trace) node.at n.slot key other n.place there now
            (omega (arith, high))) (rw none tt);
      },
      (
        was_there node start whole.same read k.unmarked n.slot key n.place keyed value,
        λ values. was_full node start whole.same read k.unmarked n.slot key n.place keyed value (valued values) values,
      ),
    )

-- ---- again

-- what holds of a later part of what the pass did holds of the whole
pub tells_since : {p q : Trace} (r : Trace) (bucket from : ℕ) (told : Option NextNode) → Quiet p q →
    TellsNode q r bucket from told → TellsNode p r bucket from told
tells_since {p} {q} r bucket from told a x =
    let P : Start → Type 0 = λ s. TellsNode (record q { start = s }) r bucket from told in
    go told (subst P a.same.start x)
  where
    so : {key : ℕ} {present : Bool} → WasSo (record q { start = p.start }) r key present → WasSo p r key present
    so w = record { moment = w.moment; within = moment_after a.seen w.within; was = w.was }

    none : (from : ℕ) → HasNoNext (record q { start = p.start }) r bucket from → HasNoNext p r bucket from
    none from y = record { behind = λ other is high. so (y.behind other is high) }

    go : (told : Option NextNode) → TellsNode (record q { start = p.start }) r bucket from told →
        TellsNode p r bucket from told
    go None y = none from y
    go (Some next) y = (
      (
        record {
          high = y.0.0.high;
          of_bucket = y.0.0.of_bucket;
          was = so y.0.0.was;
          between = λ other is high low. so (y.0.0.between other is high low);
        },
        λ values. let e = y.0.1 values in
            record { moment = e.moment; within = moment_after a.seen e.within; was = e.was; stored = e.stored },
      ),
      λ last. none (next.key + 1) (y.1 last),
      (
        let e = y.2.0 in
            record { moment = e.moment; within = moment_after a.seen e.within; named = named_same refl e.named },
        λ values. let e = y.2.1 values in
            record {
              moment = e.moment;
              within = moment_after a.seen e.within;
              was = e.was;
              stored = e.stored;
              named = named_same refl e.named;
            },
      ),
    )
