-- The balances of all members of a set add up to how many keys it has.
use Rattle.std.proofs.Common.{◌≡◌, ◌≢◌, ℕ, zero, suc, ◌+◌, ◌<◌, Bool, true, false, cond, List, [], ◌∷◌, ◌++◌, map}
use Rattle.std.proofs.Common.{append_assoc, append-nil, length, refl, sym, ap, ◌∙◌, subst, arith, inl, inr}
use Rattle.std.specs.Prelude.{◌==◌, ℤ, pos, ◌+ℤ◌, count_by, FitsSigned}
use Rattle.std.specs.Int.{w64, int_wrap}
use Rattle.std.proofs.lemmas.Bool.{cases_Bool, eq-eqb, eqb-true, false≢true}
use Rattle.std.proofs.lemmas.List.Sums.{sum_by-cons}
use Rattle.std.proofs.lemmas.Int.{ints, int_wrap_fits, int_wrap-add_left, int_wrap-add_right}
use Rattle.vbr_machine.specs.Start.{Start, IsStart}
use Rattle.vbr_machine.specs.Accounts.{incarnations_after}
use Rattle.vbr_machine.specs.Calls.{own_calls}
use Rattle.vbr_machine.specs.Incarnations.{Incarnations}
use Rattle.vbr_machine.specs.History.{set_after}
use Rattle.vbr_machine.specs.Nodes.{linked_after}
use Rattle.vbr_machine.specs.Opened.{opening_keys}
use Rattle.vbr_machine.specs.Runs.{IsRun, world_after}
use Rattle.vbr_machine.specs.declared.event.Event.{Event}
use Rattle.vbr_machine.specs.declared.history.Call.{Call}
use Rattle.vbr_machine.proofs.Lemmas.{calls-snoc, is_run_after, others_leave_calls, own_calls-snoc, run_agrees}
use Rattle.vbr_machine.proofs.Lemmas.{calls_added}
use Rattle.vbr_slots.specs.steps.Calls.{made_by}
use Rattle.vbr_slots.specs.views.Views.{TableView}
use Rattle.vbr_set.specs.members.AllMembers.{AreOfSet}
use Rattle.vbr_set.specs.members.Balances.{change_of, opened_for}
use Rattle.vbr_set.specs.members.BalanceSums.{AddUpBy, BalancesAddUp, sum_of_balances}
use Rattle.vbr_set.specs.reports.Closing.{EachMade}
use Rattle.vbr_set.specs.histories.Histories.{calls_of}
use Rattle.vbr_set.specs.reports.Kinds.{KindOf, as_map, as_set}
use Rattle.vbr_set.specs.calls.Members.{MemberView}
use Rattle.vbr_set.proofs.members.Balances.{change-append}
use Rattle.vbr_set.proofs.sums.CountedKeys.{ascending_distinct, length_linked}
use Rattle.vbr_set.proofs.sums.KeyCounts.{ListsOnce, counted_after}
use Rattle.vbr_set.proofs.reports.LinkedKeys.{distinct, linked_keys, set_is}

-- ---- sums over members, by the numbers of their passes

abbrev sum_of : (ℕ → ℤ) → List MemberView → ℤ
sum_of f [] = pos 0
sum_of f (m ∷ ms) = f m.pass.trace.who +ℤ sum_of f ms

sum_none : (ms : List MemberView) → sum_of (λ who. pos 0) ms ≡ pos 0
sum_none [] = refl
sum_none (m ∷ ms) = let rest = sum_none ms in omega (arith, ints, rest)

sum_both : (f g : ℕ → ℤ) (ms : List MemberView) → sum_of (λ who. f who +ℤ g who) ms ≡ sum_of f ms +ℤ sum_of g ms
sum_both f g [] = omega (arith, ints)
sum_both f g (m ∷ ms) = let rest = sum_both f g ms in omega (arith, ints, rest)

-- two functions of numbers that differ at one
module _ (f g : ℕ → ℤ) (p : ℕ) (change : ℤ) (here : f p ≡ g p +ℤ change)
    (elsewhere : (who : ℕ) → p ≢ who → f who ≡ g who) where
  abbrev times : List MemberView → ℕ
  times ms = count_by (λ m. m.pass.trace.who == p) ms

  times-cons : (m : MemberView) (ms : List MemberView) (b : Bool) → (m.pass.trace.who == p) ≡ b →
      times (m ∷ ms) ≡ cond b 1 0 + times ms
  times-cons m ms b is = sum_by-cons (λ (n : MemberView). cond (n.pass.trace.who == p) 1 0) m ms
      ∙ ap (λ (t : Bool). cond t 1 0 + times ms) is

  away : (who : ℕ) → (who == p) ≡ false → f who ≡ g who
  away who differs = elsewhere who (λ same. false≢true (sym differs ∙ eq-eqb who p (sym same)))

  -- where none of the members has that number
  sums_same : (ms : List MemberView) → times ms ≡ 0 → sum_of f ms ≡ sum_of g ms
  sums_same [] none = refl
  sums_same (m ∷ ms) none = elim (cases_Bool (m.pass.trace.who == p)) [
    | inl same ↦ absurd (let found : 1 + times ms ≡ 0 = sym (times-cons m ms true same) ∙ none in omega (arith, found))
    | inr differs ↦ let found : 0 + times ms ≡ 0 = sym (times-cons m ms false differs) ∙ none in
        let rest : times ms ≡ 0 = omega (arith, found) in
        λ i. away m.pass.trace.who differs i +ℤ (sums_same ms rest) i
  ]

  -- where one has it
  sums_differ : (ms : List MemberView) → times ms ≡ 1 → sum_of f ms ≡ sum_of g ms +ℤ change
  sums_differ [] one = absurd (omega (arith, one))
  sums_differ (m ∷ ms) one = elim (cases_Bool (m.pass.trace.who == p)) [
    | inl same ↦ let found : 1 + times ms ≡ 1 = sym (times-cons m ms true same) ∙ one in
        let none : times ms ≡ 0 = omega (arith, found) in
        let is : m.pass.trace.who ≡ p = eqb-true m.pass.trace.who p same in
        let own : f m.pass.trace.who ≡ g m.pass.trace.who +ℤ change =
        subst (λ (who : ℕ). f who ≡ g who +ℤ change) (sym is) here in
        let rest = sums_same ms none in
        omega (arith, ints, own, rest)
    | inr differs ↦ let found : 0 + times ms ≡ 1 = sym (times-cons m ms false differs) ∙ one in
        let later : times ms ≡ 1 = omega (arith, found) in
        let own = away m.pass.trace.who differs in
        let rest = sums_differ ms later in
        omega (arith, ints, own, rest)
  ]

-- ---- calls

-- each call of a run is that of one member
module _ (start : Start) (passes : ℕ) (ms : List MemberView)
    (once : (who : ℕ) → who < passes → count_by (λ m. m.pass.trace.who == who) ms ≡ 1) where
  abbrev AddUp : List Event → Type 0
  AddUp run = sum_of (λ who. change_of (own_calls start run who)) ms ≡ change_of (calls_of start run)

  one_event : (run : List Event) (event : Event) → event.pass < passes → AddUp run → AddUp (run ++ event ∷ [])
  one_event run event low so_far =
      let added : List Call = calls_added start (world_after start run) event.pass event.step in
      let own = ap change_of (own_calls-snoc start run event) ∙ change-append (own_calls start run event.pass) added in
      let all = ap change_of (calls-snoc start run event) ∙ change-append (calls_of start run) added in
      sums_differ (λ who. change_of (own_calls start (run ++ event ∷ []) who))
      (λ who. change_of (own_calls start run who)) event.pass (change_of added) own
      (λ who other. ap change_of (others_leave_calls start run (event ∷ []) who (other, tt))) ms (once event.pass low)
      ∙ ap (λ (z : ℤ). z +ℤ change_of added) so_far
      ∙ sym all

  more_events : (before rest : List Event) → IsRun start passes (before ++ rest) → AddUp before → AddUp (before ++ rest)
  more_events before [] is_run so_far = subst AddUp (sym (append-nil before)) so_far
  more_events before (event ∷ rest) is_run so_far =
      let whole : (before ++ event ∷ []) ++ rest ≡ before ++ event ∷ rest = append_assoc before (event ∷ []) rest in
      let accepted = is_run_after start passes before (event ∷ rest) is_run in
      subst AddUp whole
      (more_events (before ++ event ∷ []) rest (subst (IsRun start passes) (sym whole) is_run)
      (one_event before event accepted.0.0 so_far))

  calls_add_up : (run : List Event) → IsRun start passes run → AddUp run
  calls_add_up run is_run = more_events [] run is_run (sum_none ms)

  opened_add_up : 0 < passes → sum_of (opened_for start) ms ≡ pos (length start.keys)
  opened_add_up some =
      sums_differ (opened_for start) (λ who. pos 0) 0 (pos (length start.keys)) (omega (arith, ints)) others ms
      (once 0 some) ∙ ap (λ (z : ℤ). z +ℤ pos (length start.keys)) (sum_none ms) ∙ omega (arith, ints)
    where
      others : (who : ℕ) → 0 ≢ who → opened_for start who ≡ pos 0
      others zero other = absurd (other refl)
      others (suc who) other = refl

-- ---- balances

-- to add up in 64 bits is to wrap once
module _ (set : TableView) (run : List Event) where
  abbrev whole : ℕ → ℤ
  whole who = opened_for set.start who +ℤ change_of (own_calls set.start run who)

  wrapped_once : (ms : List MemberView) → AreOfSet set ms → EachMade set.start run (map (λ m. m.pass) ms) →
      int_wrap w64 (sum_of_balances ms) ≡ int_wrap w64 (sum_of whole ms)
  wrapped_once [] of_set made = refl
  wrapped_once (m ∷ ms) of_set made =
      let balance : ℤ = opened_for m.set.start m.pass.trace.who +ℤ change_of (made_by m.pass.trace) in
      let is : balance ≡ whole m.pass.trace.who =
      λ i. opened_for ((of_set.0 i).start) m.pass.trace.who +ℤ change_of (sym made.0 i) in
      int_wrap-add_left w64 balance (sum_of_balances ms)
      ∙ sym (int_wrap-add_right w64 balance (sum_of_balances ms))
      ∙ (λ i. int_wrap w64 (is i +ℤ wrapped_once ms of_set.1 made.1 i))
      ∙ int_wrap-add_right w64 (whole m.pass.trace.who) (sum_of whole ms)

-- ---- keys

-- how many keys there are after a run
keys_after_run : (start : Start) (passes : ℕ) (run : List Event) → IsStart start → IsRun start passes run →
    pos (linked_after start run) ≡ pos (length start.keys) +ℤ change_of (calls_of start run)
keys_after_run start passes run is is_run =
    let a : Incarnations = incarnations_after start run in
    let g = run_agrees start passes run is is_run in
    let opens : ListsOnce start.keys (opening_keys start) =
    record { distinct = ascending_distinct start.keys is.ascending; same = λ key. refl } in
    let there : ListsOnce (linked_keys a start.shape.slots) (set_after (opening_keys start) a.calls) =
    record { distinct = distinct g.sound start.shape.slots; same = set_is g.sound g.fits g.tells } in
    ap pos (sym (length_linked a start.shape.slots))
    ∙ counted_after start.keys (linked_keys a start.shape.slots) (opening_keys start) a.calls opens g.tells.legal there
    ∙ ap (λ (calls : List Call). pos (length start.keys) +ℤ change_of calls) (sym g.calls)

pub add_up_by : {Item R : Type 0} (kind : KindOf Item R) → AddUpBy kind
add_up_by kind members report told pass law own once =
    let set : TableView = told.set in
    let c = told.closes in
    let is : IsStart set.start = subst IsStart own.1 law.start in
    let low : pass.trace.who < set.passes = subst (λ (n : ℕ). pass.trace.who < n) own.2 law.low in
    let live = c.reports.live in
    let room = c.reports.free in
    let slots = is.shape.slots in
    let fits : FitsSigned w64 (pos (kind.contents report).live) = omega (arith, ints, room, slots) in
    wrapped_once set c.run members told.of_set c.made
    ∙ ap (int_wrap w64) (
    sum_both (opened_for set.start) (λ who. change_of (own_calls set.start c.run who)) members
    ∙ (λ i. opened_add_up set.start set.passes members once (omega (arith, low)) i +ℤ calls_add_up set.start set.passes
    members once c.run c.is_run i)
    ∙ sym (keys_after_run set.start set.passes c.run is c.is_run)
    ∙ ap pos (sym live)
    )
    ∙ int_wrap_fits w64 (pos (kind.contents report).live) fits

pub add_up : BalancesAddUp
add_up = record { of_sets = add_up_by as_set; of_maps = add_up_by as_map }
