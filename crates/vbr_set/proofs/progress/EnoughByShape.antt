-- Budgets that are enough while no update is answered yes: by marked nodes and passes, or by the shape.
use Rattle.std.proofs.Common.{◌≡◌, ◌≢◌, ℕ, zero, suc, ◌+◌, ◌*◌, ◌≤◌, Bool, true, false, List, [], ◌∷◌, refl, arith}
use Rattle.std.specs.Prelude.{if◌then◌else◌}
use Rattle.std.proofs.lemmas.Nat.{mul-le}
use Rattle.vbr_machine.specs.Accounts.{incarnations_after}
use Rattle.vbr_machine.specs.Nodes.{count_below, is_marked, state_in}
use Rattle.vbr_machine.specs.Unretired.{is_unretired}
use Rattle.vbr_machine.specs.Start.{Start}
use Rattle.vbr_machine.proofs.Lemmas.{unretired_few}
use Rattle.vbr_slots.specs.declared.pass.TheConstants.{POOL}
use Rattle.vbr_slots.specs.views.Views.{PassView}
use Rattle.vbr_at_table.specs.costs.Budgets.{most_to_take_among}
use Rattle.vbr_list.specs.calls.Budgets.{listed_for, nodes_listed_in}
use Rattle.vbr_list.specs.traversals.Disturbed.{enough_among, enough_to_insert_among, enough_to_search_among}
use Rattle.vbr_list.specs.traversals.Disturbed.{steps_for_slot}
use Rattle.vbr_set.specs.progress.Progressing.{FewUnanswered, ShapesTellEnough, most_unanswered}
use Rattle.vbr_set.specs.progress.WalkProgress.{ShapesTellEnoughToWalk}

pub few_unanswered : FewUnanswered
few_unanswered p law one =
    let few = unretired_few p.trace.start p.trace.passes p.trace.seen law.start law.is_run one in omega (arith, few)

-- ---- by the shape

-- no more than all are counted
pub counted_low : (test : ℕ → Bool) (n : ℕ) → count_below test n ≤ n
counted_low test zero = omega arith
counted_low test (suc n) = go (test n) (count_below test n) (counted_low test n)
  where
    go : (b : Bool) (m : ℕ) → m ≤ n → (if b then suc m else m) ≤ suc n
    go true m l = omega (arith, l)
    go false m l = omega (arith, l)

abbrev slots : PassView → ℕ
slots p = p.trace.start.shape.slots

pub nodes_low : (p : PassView) (key : ℕ) → listed_for p.trace key ≤ slots p
nodes_low p key = counted_low _ (slots p)

pub times_low : (p : PassView) → most_unanswered p.trace ≤ 2 * slots p + 1
times_low p =
    let a = counted_low (λ s. is_marked (state_in (incarnations_after p.trace.start p.trace.seen) s)) (slots p) in
    let b = counted_low (λ s. is_unretired (state_in (incarnations_after p.trace.start p.trace.seen) s)) (slots p) in
    omega (arith, a, b)

look_up_low : (nodes times most_nodes most : ℕ) → nodes ≤ most_nodes → times ≤ most →
    enough_among nodes times ≤ enough_among most_nodes most
look_up_low nodes times most_nodes most few low =
    mul-le (times + 1) (5 * (nodes + times) + 11) (most + 1) (5 * (most_nodes + most) + 11) (omega (arith, low))
    (omega (arith, few, low))

search_low : (nodes times most_nodes most : ℕ) → nodes ≤ most_nodes → times ≤ most →
    enough_to_search_among nodes times ≤ enough_to_search_among most_nodes most
search_low nodes times most_nodes most few low =
    mul-le (times + 1) (9 * (nodes + times) + 11) (most + 1) (9 * (most_nodes + most) + 11) (omega (arith, low))
    (omega (arith, few, low))

pub insert_low : (nodes times most_nodes most taking : ℕ) → nodes ≤ most_nodes → times ≤ most →
    enough_to_insert_among nodes times taking ≤ enough_to_insert_among most_nodes most taking
insert_low nodes times most_nodes most taking few low =
    let x = mul-le times (9 * (nodes + times) + 7) most (9 * (most_nodes + most) + 7) low (omega (arith, few, low)) in
    omega (arith, x, few, low)

-- with a slot in the own pool others cost no probe
taking_known : (start : Start) (pool : List ℕ) (gains : ℕ) → pool ≢ [] → most_to_take_among start pool gains ≡ POOL + 4
taking_known start [] gains some = absurd (some refl)
taking_known start (slot ∷ pool) gains some = refl

insert_by_shape : (p q : PassView) (key taking : ℕ) → steps_for_slot p q.trace ≡ taking →
    enough_to_insert_among (listed_for p.trace key) (most_unanswered p.trace) (steps_for_slot p q.trace)
    ≤ enough_to_insert_among (slots p) (2 * slots p + 1) taking
insert_by_shape p q key taking is =
    let low = insert_low (listed_for p.trace key) (most_unanswered p.trace) (slots p) (2 * slots p + 1)
    (steps_for_slot p q.trace) (nodes_low p key) (times_low p) in omega (arith, low, is)

pub shapes_tell : ShapesTellEnough
shapes_tell =
    record {
      look_up = λ p key.
          look_up_low (listed_for p.trace key) (most_unanswered p.trace) (slots p) (2 * slots p + 1) (nodes_low p key)
          (times_low p);
      search = λ p key.
          search_low (listed_for p.trace key) (most_unanswered p.trace) (slots p) (2 * slots p + 1) (nodes_low p key)
          (times_low p);
      insert = λ p q key some. insert_by_shape p q key (POOL + 4) (taking_known p.trace.start p.pool _ some);
    }

pub shapes_tell_to_walk : ShapesTellEnoughToWalk
shapes_tell_to_walk p bucket =
    look_up_low (nodes_listed_in p.trace bucket) (most_unanswered p.trace) (slots p) (2 * slots p + 1)
    (counted_low _ (slots p)) (times_low p)
