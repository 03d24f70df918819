-- After the mark of a remove, its place stands as it stood, or the pass was disturbed.
-- What the answer costs is said too.
use Rattle.vbr_list.proofs.Names.{◌≡◌, ◌≢◌, ℕ, ◌+◌, ◌*◌, ◌<◌, ◌≤◌, true, false, Option, Result, is_err, IfErr, refl}
use Rattle.vbr_list.proofs.Names.{sym, ap, ◌∙◌, subst, inl, inr, arith, ◌⊎◌, IfNone, IfSome, cases_lt, mul-le}
use Rattle.vbr_list.proofs.Names.{AddsNone, advances, ahead, At, Begins, begins_refl, begins_run, begins_trans}
use Rattle.vbr_list.proofs.Names.{bucket_of, Call, changed_after, disturbances_grow, disturbed, disturbed_after}
use Rattle.vbr_list.proofs.Names.{Found, Ghosts, GoesIn, Head, Held, HeldIn, incarnations_after, inserts_in}
use Rattle.vbr_list.proofs.Names.{inserts_in-remove, IsAlone, IsHeld, IsOpenIn, IsRun, IsSame, IsStart, KeyAt}
use Rattle.vbr_list.proofs.Names.{known_open, knows, KnowsEpoch, LastTraversal, Leaves, LeavesOthers, link_of}
use Rattle.vbr_list.proofs.Names.{link_shown_at, listed_for, LosesPlace, Made, marked_fewer, MarksAndSearches}
use Rattle.vbr_list.proofs.Names.{MarksBehind, met_bound_uninserted, met_since, nodes_after, one_key, own_calls}
use Rattle.vbr_list.proofs.Names.{own_changes, PassView, PendingCall, Quiet, quiet_on, Remove, remove_costs_among}
use Rattle.vbr_list.proofs.Names.{same_on, same_refl, SearchesOn, SearchFinds, SearchTires, since, Slot, StandsBehind}
use Rattle.vbr_list.proofs.Names.{StandsStill, Start, steps_to_value_of, Trace, trace_in, TraversesAgain}
use Rattle.vbr_list.proofs.Names.{undisturbed_shown, wide_found}
use Rattle.vbr_list.proofs.traversals.Disturbing.{alone_undisturbed, changed_same, disturbed_same, grows_disturbed}
use Rattle.vbr_list.proofs.traversals.Disturbing.{loses_place_disturb, met_before, met_less, met_quiet, run_at}
use Rattle.vbr_list.proofs.traversals.Disturbing.{run_to, same_between, unchanged_at, undisturbed}
use Rattle.vbr_list.proofs.pieces.Going.{by_either}
use Rattle.vbr_list.proofs.inserts.Preparing.{if_failed}
use Rattle.vbr_list.proofs.traversals.Searching.{HasRepeated, call_paid}

-- ---- a search

-- an unlinking was lost, and the call searched on
pub lost_unlinking : {T E : Type 0} {p q : PassView} {r : Trace} {steps key since : ℕ} {pred : Held} (before : ℕ)
    (tried : Result T E) → is_err tried ≡ true → IfErr tried (λ _. LosesPlace p.trace q.trace pred) → GoesIn p q steps →
    steps ≤ 6 → Quiet q.trace r → TraversesAgain 9 q.trace r key (before + steps) since →
    SearchesOn p.trace r key before since pred
lost_unlinking {p = p} {q = q} {steps = steps} {pred = pred} before tried failed lost goes few then traverses = record {
  ended = q.trace;
  quiet = (goes 0).quiet;
  count = (goes 0).hand.takes_no_slot.count;
  loses = if_failed {P = LosesPlace p.trace q.trace pred} tried failed lost;
  used = before + steps;
  few = omega (arith, few);
  then = then;
  traverses = traverses;
}

-- whatever it came to
pub traversed : {N : Type 0} {kind : Ghosts N} (c d : PendingCall N kind) (found : Option Found) →
    IfSome found (λ told. SearchFinds c d (wide_found c told)) → IfNone found (SearchTires c d) →
    TraversesAgain 9 (trace_in c) (trace_in d) c.key c.used d.used
traversed c d found x tired = grind arith

-- ---- a mark

-- the node of a key isn't the place before the key
pub apart : (p : Trace) → IsStart p.start → IsRun p.start p.passes p.seen → (place node : At) (key : ℕ) →
    StandsBehind p.start (knows p) place key → KeyAt (knows p) node key → place ≢ node
apart p is ok (Head b) node key behind there e =
    let P : At → Type 0 = λ t. KeyAt (knows p) t key in subst P (sym e) there
apart p is ok (Slot s) node key behind there e =
    let P : At → Type 0 = λ t. KeyAt (knows p) t key in
    let same = one_key p.start p.passes p.seen is ok p.who s behind.0 key behind.1 (subst P (sym e) there) in
    let less = behind.3 in
    absurd (omega (arith, same, less))

-- what a mark leaves of a place before its node
pub marks_behind : (p q r : Trace) (key : ℕ) (pred node : Held) → IsStart p.start → IsRun p.start p.passes r.seen →
    Quiet p q → AddsNone p q → IsSame q r → (x : LeavesOthers q r node) → pred.at ≢ node.at →
    (knows r).epoch ≡ (knows p).epoch → advances r ≡ advances p → IsHeld (knows r) pred →
    (link_of pred.word).mark ≡ false → HeldIn (knows r) pred.at (bucket_of r.start.shape key) → MarksBehind p r key pred
marks_behind p q r key pred node is ok quiet none same x other epoch count held unmarked inside =
    let whole : IsSame p r = same_on quiet.same same in
    let bucket = bucket_of p.start.shape key in
    let all = begins_trans q.seen x.moment r.seen x.from x.to in
    let P : Start → Type 0 =
    λ start. IsOpenIn start (incarnations_after start r.seen) (bucket_of start.shape key) pred.at in
    let ok_r = run_to whole r.seen ok in
    let later : own_changes p.start x.moment p.who bucket ≡ own_changes p.start q.seen p.who bucket =
    sym (λ i. own_changes (quiet.same.start i) x.moment (quiet.same.who i) bucket) ∙ x.own bucket
    ∙ (λ i. own_changes (quiet.same.start i) q.seen (quiet.same.who i) bucket) in
    record {
      same = whole;
      count = count;
      epoch = epoch;
      moment = x.moment;
      before = begins_trans p.seen q.seen x.moment quiet.seen x.from;
      after = x.to;
      own = later ∙ unchanged_at p p q bucket is (begins_run p.start p.passes q.seen r.seen all ok)
          (record { table = refl; start = refl; passes = refl; who = refl }) quiet.same quiet.seen none;
      link = sym (λ i. link_shown_at (incarnations_after (quiet.same.start i) r.seen) pred.at) ∙ x.links pred.at other
          ∙ (λ i. link_shown_at (incarnations_after (quiet.same.start i) x.moment) pred.at);
      opens = λ shown.
          subst P whole.start
          (known_open r.start r.passes r.seen (subst IsStart (sym whole.start) is) ok_r r.who
          (bucket_of r.start.shape key) pred.at (link_of pred.word) held.link unmarked
          ((λ i. link_shown_at (incarnations_after (whole.start i) r.seen) pred.at) ∙ shown) inside);
    }

-- so it is of a mark after what only read
pub marks_later : (p q r : Trace) (key : ℕ) (pred : Held) → IsStart p.start → IsRun p.start p.passes q.seen →
    Quiet p q → AddsNone p q → (knows q).epoch ≡ (knows p).epoch → advances q ≡ advances p → MarksBehind q r key pred →
    MarksBehind p r key pred
marks_later p q r key pred is ok quiet none epoch count x =
    let P : Start → Type 0 =
    λ start. IsOpenIn start (incarnations_after start r.seen) (bucket_of start.shape key) pred.at in
    record {
      same = same_on quiet.same x.same;
      count = x.count ∙ count;
      epoch = x.epoch ∙ epoch;
      moment = x.moment;
      before = begins_trans p.seen q.seen x.moment quiet.seen x.before;
      after = x.after;
      own = sym (changed_same p q key x.moment quiet.same) ∙ x.own ∙ changed_same p q key q.seen quiet.same
          ∙ unchanged_at p p q (bucket_of p.start.shape key) is ok (same_refl p) quiet.same quiet.seen none;
      link = sym (λ i. link_shown_at (incarnations_after (quiet.same.start i) r.seen) pred.at) ∙ x.link
          ∙ (λ i. link_shown_at (incarnations_after (quiet.same.start i) x.moment) pred.at);
      opens = λ shown.
          subst P quiet.same.start
          (x.opens ((λ i. link_shown_at (incarnations_after (quiet.same.start i) r.seen) pred.at) ∙ shown));
    }

-- ---- a place that is lost since

module _ (b p r s : Trace) (is : IsStart b.start) (ok : IsRun b.start b.passes s.seen) (key : ℕ) (sp : IsSame b p)
    (sr : IsSame p r) (ss : IsSame b s) (first : Begins b.seen p.seen) (last : Begins r.seen s.seen) (pred : Held)
    (still : StandsStill b p (bucket_of b.start.shape key) pred) (mark : MarksBehind p r key pred) where
  to_moment : Begins still.stood.moment mark.moment
  to_moment = begins_trans still.stood.moment p.seen mark.moment still.stood.to mark.before

  to_end : Begins mark.moment s.seen
  to_end = begins_trans mark.moment r.seen s.seen mark.after last

  ok_moment : IsRun b.start b.passes mark.moment
  ok_moment = begins_run b.start b.passes mark.moment s.seen to_end ok

  ok_r : IsRun b.start b.passes r.seen
  ok_r = begins_run b.start b.passes r.seen s.seen last ok

  ok_stood : IsRun b.start b.passes still.stood.moment
  ok_stood = begins_run b.start b.passes still.stood.moment mark.moment to_moment ok_moment

  -- until the mark the pass changed nothing itself
  unchanged : changed_after b key mark.moment ≡ changed_after b key still.stood.moment
  unchanged = sym (changed_same b p key mark.moment sp) ∙ mark.own ∙ changed_same b p key p.seen sp ∙ still.own

  -- so the place stands as it stood, or the pass was disturbed
  stands_past : (disturbed_after b key b.seen < disturbed_after b key s.seen) ⊎
      StandsStill b r (bucket_of b.start.shape key) pred
  stands_past = go (cases_lt (disturbed_after b key still.stood.moment) (disturbed_after b key mark.moment))
    where
      go : (disturbed_after b key still.stood.moment < disturbed_after b key mark.moment) ⊎
          (disturbed_after b key mark.moment ≤ disturbed_after b key still.stood.moment) →
          (disturbed_after b key b.seen < disturbed_after b key s.seen) ⊎
          StandsStill b r (bucket_of b.start.shape key) pred
      go (inl less) =
          let low = disturbances_grow (since b.start b.passes b.seen still.stood.moment is ok_stood still.stood.from)
          b.who (bucket_of b.start.shape key) in
          let high = disturbances_grow (since b.start b.passes mark.moment s.seen is ok to_end) b.who
          (bucket_of b.start.shape key) in
          inl (omega (arith, less, low, high))
      go (inr even) =
          let x = since b.start b.passes still.stood.moment mark.moment is ok_moment to_moment in
          let low = disturbances_grow x b.who (bucket_of b.start.shape key) in
          let there : link_shown_at (nodes_after b mark.moment) pred.at ≡ link_of pred.word =
          undisturbed_shown x b.who (bucket_of b.start.shape key) unchanged (omega (arith, even, low)) pred.at
          still.stood.is_open ∙ still.stood.shown in
          let of_p : link_shown_at (nodes_after p r.seen) pred.at ≡ link_of pred.word =
          mark.link ∙ ap (λ (start : Start). link_shown_at (incarnations_after start mark.moment) pred.at) sp.start
          ∙ there in
          let P : Start → Type 0 =
          λ start. IsOpenIn start (incarnations_after start r.seen) (bucket_of start.shape key) pred.at in
          inr (record {
            stood = record {
              moment = r.seen;
              from = begins_trans b.seen p.seen r.seen first
                  (begins_trans p.seen mark.moment r.seen mark.before mark.after);
              to = begins_refl r.seen;
              shown = ap (λ (start : Start). link_shown_at (incarnations_after start r.seen) pred.at) (sym sp.start)
                  ∙ of_p;
              is_open = subst P sp.start (mark.opens of_p);
            };
            own = refl;
          })

  -- a place that is lost past the mark shows a disturbance
  pub lost_past : advances s ≡ advances b → KnowsEpoch b p → LosesPlace r s pred →
      disturbed_after b key b.seen < disturbed_after b key s.seen
  lost_past count knew loses =
      let to_r = begins_trans p.seen mark.moment r.seen mark.before mark.after in
      let knows_r : KnowsEpoch b r =
      record {
        moment = knew.moment;
        from = knew.from;
        to = begins_trans knew.moment p.seen r.seen knew.to to_r;
        was = knew.was ∙ sym mark.epoch;
      } in
      by_either stands_past (λ less. less)
      (λ stands. loses_place_disturb b s is ok (bucket_of b.start.shape key) ss count r pred (same_on sp sr) last
      knows_r stands loses)

-- ---- what an answer costs

-- the nodes that a pass which was answered a remove can have met
pub met_removed : (p r : Trace) → IsStart p.start → IsRun p.start p.passes r.seen → (key : ℕ) {call : Call} →
    Made call p r → call.op ≡ Remove → met_since p r key ≤ listed_for p key + disturbed p r key
met_removed p r is ok key {call} made op =
    let bucket = bucket_of p.start.shape key in
    let calls : inserts_in (own_calls p.start r.seen p.who) ≡ inserts_in (own_calls p.start p.seen p.who) =
    sym (λ i. inserts_in (own_calls (made.same.start i) r.seen (made.same.who i))) ∙ ap inserts_in made.calls
    ∙ inserts_in-remove (own_calls p.start p.seen p.who) call op in
    let x = met_bound_uninserted p.start p.passes p.seen r.seen is ok made.seen p.who bucket bucket calls in
    let y = disturbances_grow (since p.start p.passes p.seen r.seen is ok made.seen) p.who bucket in
    omega (arith, x, y)

-- a change that another search followed: for that the pass was disturbed once, and once for each search that was lost
module _ (p q m r : Trace) (is : IsStart p.start) (ok : IsRun p.start p.passes r.seen) (key : ℕ) (sq : IsSame p q)
    (sm : IsSame q m) {each all used mid now most : ℕ} (x : HasRepeated 9 p q key each all used) (told : Found)
    (last : LastTraversal q m key used mid told) (late : MarksAndSearches most m r key mid now told.pred) where
  abbrev pub searched_from : Trace
  searched_from = late.searches.ended

  pub same_searched : IsSame p searched_from
  same_searched = same_on (same_on (same_on sq sm) late.marks.same) late.searches.quiet.same

  pub to_searched : Begins m.seen searched_from.seen
  to_searched =
      begins_trans m.seen late.marked.seen searched_from.seen
      (begins_trans m.seen late.marks.moment late.marked.seen late.marks.before late.marks.after)
      late.searches.quiet.seen

  pub late_rounds : disturbed_after p key p.seen + (x.lost + last.lost + late.searches.traverses.lost + 1)
      ≤ disturbed_after p key r.seen
  late_rounds =
      let t = last.begun in
      let e = searched_from in
      let st : IsSame p t = same_on sq last.same in
      let pe = same_searched in
      let is_t : IsStart t.start = subst IsStart (sym st.start) is in
      let ok_t = run_to st e.seen (begins_run p.start p.passes e.seen r.seen late.searches.then.seen ok) in
      let less = lost_past t m late.marked e is_t ok_t key (same_between st (same_on sq sm)) late.marks.same
      (same_between st pe) last.to late.searches.quiet.seen told.pred last.pred late.marks
      (late.searches.count ∙ late.marks.count ∙ last.count) last.knew late.searches.loses in
      let here = disturbed_same p q key q.seen sq in
      let mid_there = disturbed_same p q key t.seen sq in
      let there = disturbed_same p t key t.seen st in
      let end = disturbed_same p t key e.seen st in
      let then_e = disturbed_same p e key e.seen pe in
      let then_r = disturbed_same p e key r.seen pe in
      let before = x.repeats.few in
      let since_q = last.repeats.few in
      let since_e = late.searches.traverses.repeats.few in
      omega (arith, before, since_q, since_e, less, here, mid_there, there, end, then_e, then_r)

late_few : (lost t t2 m1 m2 m3 n d used mid marked ended now more : ℕ) → used ≤ 0 + lost * (9 * m1 + 6) →
    mid ≤ used + (t + 1) * (9 * m2 + 3) → marked ≤ mid + more + 1 → ended ≤ marked + 6 →
    now ≤ ended + (t2 + 1) * (9 * m3 + 3) → m1 ≤ n + d → m2 ≤ n + d → m3 ≤ n + d → lost + t + t2 + 1 ≤ d →
    now ≤ remove_costs_among n d more
late_few lost t t2 m1 m2 m3 n d used mid marked ended now more x y z e g l k j f =
    let u = mul-le lost (9 * m1 + 6) lost (9 * (n + d) + 6) (omega arith) (omega (arith, l)) in
    let v = mul-le (t + 1) (9 * m2 + 3) (t + 1) (9 * (n + d) + 3) (omega arith) (omega (arith, k)) in
    let v2 = mul-le (t2 + 1) (9 * m3 + 3) (t2 + 1) (9 * (n + d) + 3) (omega arith) (omega (arith, j)) in
    let w = mul-le (lost + t + t2 + 1) (9 * (n + d) + 6) d (9 * (n + d) + 6) f (omega arith) in
    omega (arith, x, y, z, e, g, u, v, v2, w)

module _ (p q m r : Trace) (is : IsStart p.start) (key : ℕ) (first : Quiet p q) (then : Quiet q m) {call : Call}
    (made : Made call p r) (on : Begins m.seen r.seen) where
  ok : IsRun p.start p.passes r.seen
  ok = run_at p r made.same made.is_run

  ok_m : IsRun p.start p.passes m.seen
  ok_m = begins_run p.start p.passes m.seen r.seen on ok

  met_some : met_since p m key ≤ listed_for p key + disturbed p r key
  met_some =
      let x = met_quiet p m is ok_m key (quiet_on first then) in
      let grows = grows_disturbed p r is ok (bucket_of p.start.shape key) m.seen on in
      omega (arith, x, grows)

  met_first : met_since p q key ≤ listed_for p key + disturbed p r key
  met_first =
      let low = met_before p m is ok_m key q first.seen then.seen in let some = met_some in omega (arith, low, some)

  met_mid : met_since q m key ≤ listed_for p key + disturbed p r key
  met_mid =
      let less = met_less p m is ok_m key q first.same first.seen then.seen in
      let some = met_some in
      omega (arith, less, some)

  -- a node that was marked and has left is in the list no more
  pub left_fewer : call.op ≡ Remove → Leaves p r key → IsAlone p r → listed_for r key < listed_for p key
  left_fewer op left alone =
      let b = bucket_of p.start.shape key in
      let less = marked_fewer p.start p.passes p.seen r.seen is ok made.seen p.who key b left in
      let all = met_removed p r is ok key made op in
      let none = alone_undisturbed p r key alone in
      let P : Start → Type 0 =
      λ s. ahead (record r { start = s }) (bucket_of s.shape key) (Head (bucket_of s.shape key)) < listed_for p key in
      subst P (sym made.same.start) (omega (arith, less, all, none))

  module _ {used mid : ℕ} (x : HasRepeated 9 p q key 6 0 used) where
    -- one that was soon
    soon_paid : TraversesAgain 9 q m key used mid → (now : ℕ) → now ≤ mid + (steps_to_value_of p.start + 7) →
        now ≤ remove_costs_among (listed_for p key) (disturbed p r key) (steps_to_value_of p.start)
    soon_paid w now few =
        let most = call_paid p q m r is ok key 6 first then on (omega arith, omega arith) x w now
        (steps_to_value_of p.start + 7) few in omega (arith, most)

    module _ (op : call.op ≡ Remove) (told : Found) (last : LastTraversal q m key used mid told) {now : ℕ}
        (late : MarksAndSearches (steps_to_value_of m.start + 1) m r key mid now told.pred) where
      rounds : x.lost + last.lost + late.searches.traverses.lost + 1 ≤ disturbed p r key
      rounds = let few = late_rounds p q m r is ok key first.same then.same x told last late in omega (arith, few)

      -- and one that was late
      late_paid : now ≤ remove_costs_among (listed_for p key) (disturbed p r key) (steps_to_value_of p.start)
      late_paid =
          let e = late.searches.ended in
          let to_e = to_searched p q m r is ok key first.same then.same x told last late in
          let start = ap steps_to_value_of (same_on first.same then.same).start in
          let marked_few = late.few in
          let met_last =
          met_less p r is ok key e (same_searched p q m r is ok key first.same then.same x told last late)
          (begins_trans p.seen m.seen e.seen (begins_trans p.seen q.seen m.seen first.seen then.seen) to_e)
          late.searches.then.seen in
          let all = met_removed p r is ok key made op in
          late_few x.lost last.lost late.searches.traverses.lost (met_since p q key) (met_since q m key)
          (met_since e r key)
          (listed_for p key) (disturbed p r key) used mid late.used late.searches.used now (steps_to_value_of p.start)
          x.repeats.paid last.repeats.paid (omega (arith, marked_few, start)) late.searches.few
          late.searches.traverses.repeats.paid met_first met_mid (omega (arith, met_last, all)) rounds

    module _ {P : Type 0} (told : Found) (last : LastTraversal q m key used mid told) {now : ℕ}
        (w : TraversesAgain 9 q m key used mid)
        (paid : P ⊎ ((call.op ≡ Remove) ×
        MarksAndSearches (steps_to_value_of m.start + 1) m r key mid now told.pred)) where
      -- the one or the other
      pub remove_paid : (P → now ≤ mid + (steps_to_value_of p.start + 7)) →
          now ≤ remove_costs_among (listed_for p key) (disturbed p r key) (steps_to_value_of p.start)
      remove_paid soon = by_either paid (λ few. soon_paid w now (soon few)) (λ late. late_paid late.0 told last late.1)

      -- one that nothing disturbed was soon, and its last search had ended soon
      pub remove_alone : IsAlone p r → P × (mid ≤ 9 * listed_for p key + 3)
      remove_alone alone =
          let none = alone_undisturbed p r key alone in
          let steps = steps_to_value_of p.start in
          let most = undisturbed (λ t. mid + (steps + 7) ≤ remove_costs_among (listed_for p key) t steps) key
          (soon_paid w (mid + (steps + 7)) (omega arith)) alone in (
            by_either paid (λ soon. soon)
                (λ late. absurd (let some = rounds late.0 told last late.1 in omega (arith, some, none))),
            omega (arith, most),
          )
