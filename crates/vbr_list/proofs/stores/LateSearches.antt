-- What a store costs that replaced a node and lost the place before the old one.
use Rattle.vbr_list.proofs.Names.{◌≡◌, ℕ, ◌+◌, ◌*◌, ◌<◌, ◌≤◌, sym, ap, ◌∙◌, subst, arith, mul-le, AnswersLate, Begins}
use Rattle.vbr_list.proofs.Names.{begins_run, bucket_of, Call, disturbances_grow, disturbed, Found, Insert}
use Rattle.vbr_list.proofs.Names.{inserts_in, inserts_in-two, IsRun, IsSame, IsStart, LastTraversal, listed_for}
use Rattle.vbr_list.proofs.Names.{MadeTwo, MarksAndSearches, met_bound_made, met_since, own_calls, PIECE, Quiet}
use Rattle.vbr_list.proofs.Names.{quiet_on, Remove, same_on, SearchedFor, since, store_costs_among, Trace}
use Rattle.vbr_list.proofs.traversals.Disturbing.{disturbed_same, met_before, met_less, met_quiet, run_to}
use Rattle.vbr_list.proofs.traversals.Disturbing.{same_between}
use Rattle.vbr_list.proofs.removes.Marks.{late_rounds, same_searched, to_searched}
use Rattle.vbr_list.proofs.traversals.Searching.{HasRepeated, disturbed_on, searched_first}

-- ---- the place before the old node was lost

late_few : (lost t t2 m1 m2 m m3 m4 before used mid marked ended now : ℕ) → used ≤ before + lost * (9 * m1 + 11) →
    mid ≤ used + (t + 1) * (9 * m2 + 3) → marked ≤ mid + 8 → ended ≤ marked + 6 →
    now ≤ ended + (t2 + 1) * (9 * m3 + 3) → m1 ≤ m → m2 ≤ m → m3 ≤ m4 →
    now ≤ before + 9 * m + (lost + t) * (9 * m + 12) + (t2 + 1) * (9 * m4 + 3) + 17
late_few lost t t2 m1 m2 m m3 m4 before used mid marked ended now x y z e g l k j =
    let u = mul-le lost (9 * m1 + 11) lost (9 * m + 12) (omega arith) (omega (arith, l)) in
    let v = mul-le (t + 1) (9 * m2 + 3) (t + 1) (9 * m + 3) (omega arith) (omega (arith, k)) in
    let w = mul-le (t2 + 1) (9 * m3 + 3) (t2 + 1) (9 * m4 + 3) (omega arith) (omega (arith, j)) in
    omega (arith, x, y, z, e, g, u, v, w)

pub late_searched : (p q m r : Trace) → IsStart p.start → IsRun p.start p.passes r.seen → (key : ℕ) → IsSame p q →
    IsSame q m → Begins p.seen q.seen → Begins q.seen m.seen → Quiet p m → Begins m.seen r.seen →
    {before_all used mid : ℕ} → HasRepeated 9 p q key 11 before_all used → (told : Found) →
    LastTraversal q m key used mid told → (now : ℕ) → MarksAndSearches PIECE m r key mid now told.pred →
    AnswersLate p r key before_all now
late_searched p q m r is ok key sq sm a b quiet on {before_all} {used} {mid} x told last now late =
    let pm : IsSame p m = same_on sq sm in
    let e = late.searches.ended in
    let ok_m = begins_run p.start p.passes m.seen r.seen on ok in
    let rounds = late_rounds p q m r is ok key sq sm x told last late in
    let met_last =
    met_less m r (subst IsStart (sym pm.start) is) (run_to pm r.seen ok) key e
    (same_between pm (same_searched p q m r is ok key sq sm x told last late))
    (to_searched p q m r is ok key sq sm x told last late) late.searches.then.seen in
    let low = met_before p m is ok_m key q a b in
    let high = met_less p m is ok_m key q sq a b in
    record {
      ended = m;
      quiet = quiet;
      to = on;
      lost = x.lost + last.lost;
      later = late.searches.traverses.lost;
      few = omega (arith, rounds);
      paid = late_few x.lost last.lost late.searches.traverses.lost (met_since p q key) (met_since q m key)
          (met_since p m key) (met_since e r key) (met_since m r key) before_all used mid late.used late.searches.used
          now x.repeats.paid last.repeats.paid late.few late.searches.few late.searches.traverses.repeats.paid low high
          met_last;
    }

-- ---- what an answer costs

-- the nodes that a pass which has replaced one can have met
pub met_replaced : (p r : Trace) → IsStart p.start → IsRun p.start p.passes r.seen → (key : ℕ) {first second : Call} →
    MadeTwo first second p r → first.op ≡ Remove → second.op ≡ Insert →
    met_since p r key ≤ listed_for p key + disturbed p r key + 1
met_replaced p r is ok key {first} {second} made one two =
    let bucket = bucket_of p.start.shape key in
    let calls : inserts_in (own_calls p.start r.seen p.who) ≡ inserts_in (own_calls p.start p.seen p.who) + 1 =
    sym (λ i. inserts_in (own_calls (made.same.start i) r.seen (made.same.who i))) ∙ ap inserts_in made.calls
    ∙ inserts_in-two (own_calls p.start p.seen p.who) first second one two in
    let x = met_bound_made p.start p.passes p.seen r.seen is ok made.seen p.who bucket bucket in
    let y = disturbances_grow (since p.start p.passes p.seen r.seen is ok made.seen) p.who bucket in
    omega (arith, x, y, calls)

late_costs : (lost lost2 later m1 m2 m3 n t used now taking : ℕ) →
    used ≤ 0 + 9 * m1 + lost * (9 * m1 + 7) + (taking + 3) →
    now ≤ used + 9 * m2 + lost2 * (9 * m2 + 12) + (later + 1) * (9 * m3 + 3) + 17 → m1 ≤ n + t → m2 ≤ n + t →
    m3 ≤ n + t + 1 → lost + lost2 + later + 1 ≤ t → now ≤ store_costs_among n t taking
late_costs lost lost2 later m1 m2 m3 n t used now taking x y l k j f =
    let u = mul-le lost (9 * m1 + 7) lost (9 * (n + t) + 12) (omega arith) (omega (arith, l)) in
    let v = mul-le lost2 (9 * m2 + 12) lost2 (9 * (n + t) + 12) (omega arith) (omega (arith, k)) in
    let z = mul-le (later + 1) (9 * m3 + 3) (later + 1) (9 * (n + t) + 12) (omega arith) (omega (arith, j)) in
    let w = mul-le (lost + lost2 + later + 1) (9 * (n + t) + 12) t (9 * (n + t) + 12) f (omega arith) in
    omega (arith, x, y, u, v, z, w, l, k)

-- and of one that was late
pub late_paid : (p q r : Trace) → IsStart p.start → IsRun p.start p.passes r.seen → (key taking : ℕ) → Quiet p q →
    {first second : Call} → MadeTwo first second p r → first.op ≡ Remove → second.op ≡ Insert → {used now : ℕ} →
    SearchedFor p q key 0 used (taking + 3) → AnswersLate q r key used now →
    now ≤ store_costs_among (listed_for p key) (disturbed p r key) taking
late_paid p q r is ok key taking quiet made one two {used} {now} x y =
    let m = y.ended in
    let ok_m = begins_run p.start p.passes m.seen r.seen y.to ok in
    let ok_q = begins_run p.start p.passes q.seen m.seen y.quiet.seen ok_m in
    let first = searched_first p q is ok_q key x in
    let pm = quiet_on quiet y.quiet in
    let here = disturbed_same p q key q.seen quiet.same in
    let there = disturbed_same p q key r.seen quiet.same in
    let before = first.few in
    let since_q = y.few in
    let met_m = met_quiet p m is ok_m key pm in
    let grows = disturbed_on p m r is ok key y.to in
    let low = met_before p m is ok_m key q quiet.seen y.quiet.seen in
    let high = met_less p m is ok_m key q quiet.same quiet.seen y.quiet.seen in
    let last = met_less p r is ok key m pm.same pm.seen y.to in
    let all = met_replaced p r is ok key made one two in
    late_costs first.lost y.lost y.later (met_since p q key) (met_since q m key) (met_since m r key) (listed_for p key)
    (disturbed p r key) used now taking first.paid y.paid (omega (arith, met_m, grows, low))
    (omega (arith, met_m, grows, high)) (omega (arith, last, all)) (omega (arith, before, since_q, here, there))

-- a pass that nothing disturbed wasn't late
pub late_disturbs : (p q r : Trace) → IsStart p.start → IsRun p.start p.passes r.seen → (key : ℕ) → Quiet p q →
    Begins q.seen r.seen → {used now : ℕ} → AnswersLate q r key used now → 0 < disturbed p r key
late_disturbs p q r is ok key quiet on y =
    let here = disturbed_same p q key q.seen quiet.same in
    let there = disturbed_same p q key r.seen quiet.same in
    let few = y.few in
    let grows = disturbed_on p q r is ok key on in
    let low = disturbances_grow
    (since p.start p.passes p.seen q.seen is (begins_run p.start p.passes q.seen r.seen on ok) quiet.seen) p.who
    (bucket_of p.start.shape key) in
    omega (arith, here, there, few, grows, low)
