-- What a call with a slot in hand costs, and which budgets are enough for it.
use Rattle.vbr_list.proofs.Names.{◌≡◌, ℕ, ◌+◌, ◌*◌, ◌<◌, ◌≤◌, Bool, true, false, refl, inl, inr, arith, mul-le}
use Rattle.vbr_list.proofs.Names.{Begins, begins_refl, begins_run, bucket_of, Call, costs_in_hand_among, CostsInHand}
use Rattle.vbr_list.proofs.Names.{disturbed, enough_in_hand_among, enough_to_search, Insert, IsAlone, IsRun, IsStart}
use Rattle.vbr_list.proofs.Names.{LacksInHand, LeavesReplaced, listed_for, MadeTwo, met_since, PIECE, Quiet, Remove}
use Rattle.vbr_list.proofs.Names.{Searches, StoredIn, Trace}
use Rattle.vbr_list.proofs.traversals.Disturbing.{alone_undisturbed, met_less, met_quiet, undisturbed}
use Rattle.vbr_list.proofs.stores.LateSearches.{met_replaced}
use Rattle.vbr_list.proofs.traversals.Searching.{disturbed_on, searched_in}

-- a number for a pass that was disturbed so often is one for a pass that was alone
costs_told : (each after : ℕ) (p q : Trace) (key before since : ℕ) →
    since ≤ before + costs_in_hand_among each (listed_for p key) (disturbed p q key) after →
    CostsInHand each after p q key before since
costs_told each after p q key before since most = record {
  disturbed_costs = most;
  costs = λ alone.
      let few = undisturbed (λ t. since ≤ before + costs_in_hand_among each (listed_for p key) t after) {p = p} {q = q}
      key most alone in
      omega (arith, few);
}

-- searches that ended by a moment at which the pass had made no call yet, and so many steps more
pub costs_after : (each after : ℕ) (p m q : Trace) → IsStart p.start → IsRun p.start p.passes q.seen → (key : ℕ) →
    Quiet p m → Begins m.seen q.seen → (before used since more : ℕ) → Searches each p m key before used more →
    since + more ≤ used + after + 3 → CostsInHand each after p q key before since
costs_after each after p m q is ok key quiet to before used since more x few =
    let paid = searched_in p m q is ok (bucket_of p.start.shape key) quiet to x in
    costs_told each after p q key before since (omega (arith, paid, few))

pub lacks_after : (each : ℕ) (p q : Trace) → IsStart p.start → IsRun p.start p.passes q.seen → (key : ℕ) →
    Quiet p q → (before budget : ℕ) → Searches each p q key before (budget + 1) 11 →
    LacksInHand each p q key before budget
lacks_after each p q is ok key quiet before budget x =
    let paid = searched_in p q q is ok (bucket_of p.start.shape key) quiet (begins_refl q.seen) x in
    let short : budget < before + enough_in_hand_among each (listed_for p key) (disturbed p q key) =
    omega (arith, paid) in
    record {
      disturbed_lacks = short;
      lacks = λ alone.
          let few = undisturbed (λ t. budget < before + enough_in_hand_among each (listed_for p key) t) {p = p} {q = q}
          key short alone in
          omega (arith, few);
    }

-- ---- a node was replaced

late_costs : (lost later m1 m2 n t before now : ℕ) →
    now ≤ before + 9 * m1 + lost * (9 * m1 + 12) + (later + 1) * (9 * m2 + 3) + 17 → m1 ≤ n + t → m2 ≤ n + t + 1 →
    lost + later + 1 ≤ t → now ≤ before + costs_in_hand_among 12 n t 14
late_costs lost later m1 m2 n t before now x l k f =
    let u = mul-le lost (9 * m1 + 12) lost (9 * (n + t) + 12) (omega arith) (omega (arith, l)) in
    let v = mul-le (later + 1) (9 * m2 + 3) (later + 1) (9 * (n + t) + 12) (omega arith) (omega (arith, k)) in
    let w = mul-le (lost + later + 1) (9 * (n + t) + 12) t (9 * (n + t) + 12) f (omega arith) in
    omega (arith, x, u, v, w, l)

pub stored_costs : (stored : Bool) (p q : Trace) → IsStart p.start → IsRun p.start p.passes q.seen →
    (key before since budget : ℕ) → (stored ≡ true →
    (first : Call) × (second : Call) × MadeTwo first second p q × (first.op ≡ Remove) × (second.op ≡ Insert)) →
    StoredIn stored p q key before since budget → CostsInHand 12 14 p q key before since
stored_costs false p q is ok key before since budget two x =
    let few = x.few in
    costs_after 12 14 p x.ended q is ok key x.quiet x.to before x.used since 3 x.searches (omega (arith, few))
stored_costs true p q is ok key before since budget two (inl x) =
    let few = x.few in
    costs_after 12 14 p x.ended q is ok key x.quiet x.to before x.used since 3 x.searches (omega (arith, few))
stored_costs true p q is ok key before since budget two (inr x) =
    let made = two refl in
    let m = x.ended in
    let ok_m = begins_run p.start p.passes m.seen q.seen x.to ok in
    let here = met_quiet p m is ok_m key x.quiet in
    let grows = disturbed_on p m q is ok key x.to in
    let last = met_less p q is ok key m x.quiet.same x.quiet.seen x.to in
    let all = met_replaced p q is ok key made.2 made.3 made.4 in
    let few = x.few in
    costs_told 12 14 p q key before since
    (late_costs x.lost x.later (met_since p m key) (met_since m q key) (listed_for p key) (disturbed p q key) before
    since x.paid (omega (arith, here, grows)) (omega (arith, last, all)) (omega (arith, few)))

-- alone it has left its list
pub stored_leaves : (stored : Bool) (p q : Trace) → IsStart p.start → IsRun p.start p.passes q.seen →
    (key before since budget : ℕ) → StoredIn stored p q key before since budget → stored ≡ true → IsAlone p q →
    before + enough_to_search p key + PIECE ≤ budget → LeavesReplaced p q key
stored_leaves false p q is ok key before since budget x is_stored alone enough =
    absurd (let z : false ≡ true = is_stored in cc)
stored_leaves true p q is ok key before since budget (inl x) is_stored alone enough =
    let last = costs_after 12 0 p x.ended q is ok key x.quiet x.to before x.used x.used 3 x.searches (omega arith) in
    let paid = last.costs alone in
    x.leaves refl (omega (arith, paid, enough))
stored_leaves true p q is ok key before since budget (inr x) is_stored alone enough =
    let few = x.few in
    let none = alone_undisturbed p q key alone in
    absurd (omega (arith, few, none))
