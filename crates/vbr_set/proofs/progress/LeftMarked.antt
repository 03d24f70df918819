-- The marked nodes are those of calls under way, and of calls that ended without room to unlink theirs.
use Rattle.std.proofs.Common.{◌≡◌, ℕ, ◌+◌, ◌≤◌, Bool, true, false, List, [], ◌∷◌, ◌++◌, Option}
use Rattle.std.proofs.Common.{Some, None, Ok, Err, Result, refl, ap, ◌∙◌, inl, inr, arith}
use Rattle.std.specs.Prelude.{◌==◌, ◌&&◌, if◌then◌else◌}
use Rattle.std.proofs.lemmas.Bool.{cases_Bool}
use Rattle.vbr_machine.specs.History.{calls_by, set_call}
use Rattle.vbr_machine.specs.MarkedBy.{HasOneLeft, marked_by}
use Rattle.vbr_machine.specs.Runs.{Begins, IsRun}
use Rattle.vbr_machine.specs.Start.{Start}
use Rattle.vbr_machine.specs.Unretired.{is_remove, removes}
use Rattle.vbr_machine.specs.Calls.{own_calls}
use Rattle.vbr_machine.specs.Disturbances.{one_if}
use Rattle.vbr_machine.specs.declared.event.Event.{Event}
use Rattle.vbr_machine.specs.declared.history.Call.{Call}
use Rattle.vbr_machine.specs.declared.history.Op.{Op}
use Rattle.vbr_machine.specs.declared.history.Op.TheVariants.{Get, Has, Insert, Remove}
use Rattle.vbr_machine.proofs.Lemmas.{calls_by-append, calls_since, marks_added, marks_fall, marks_follow}
use Rattle.vbr_machine.proofs.Lemmas.{others_leave_calls, removes-append}
use Rattle.vbr_slots.specs.steps.Calls.{Quiet, made_by}
use Rattle.vbr_slots.specs.views.Views.{PassView, Trace}
use Rattle.vbr_list.specs.updates.Expecting.{removal_call}
use Rattle.vbr_list.specs.updates.Storing.{stored_calls, storing_calls}
use Rattle.vbr_list.specs.calls.Told.{given_call, stored_call}
use Rattle.vbr_list.specs.updates.Wanted.{wants}
use Rattle.vbr_list.specs.declared.wanted.Wanted.{Wanted}
use Rattle.vbr_at_table.specs.declared.refusal.Refusal.{Refusal}
use Rattle.vbr_set.specs.histories.Answers.{AnswersAll}
use Rattle.vbr_set.specs.histories.Histories.{calls_of}
use Rattle.vbr_set.specs.progress.LeftMarked.{CallsLeaveNone, FewLeft, IsViewOf, LeavesAtMost, LeavesNone, MarksAreLeft}
use Rattle.vbr_set.specs.progress.LeftMarked.{left_by, none_removed, removed, removed_entry, removed_if, rests, stored}
use Rattle.vbr_set.specs.progress.LeftMarked.{under_way}
use Rattle.vbr_set.specs.calls.MapCalls.{IsCall, IsMapCall, IsSetCall}
use Rattle.vbr_set.specs.calls.Members.{CallerView, CallsBy, MemberView}
use Rattle.vbr_set.specs.progress.Progressing.{SeesRun}
use Rattle.vbr_list.specs.look_ups.Cursors.{SeesMore}
use Rattle.vbr_set.proofs.histories.AnyCall.{call_leaves, map_all, set_all}
use Rattle.vbr_set.proofs.progress.EnoughByShape.{few_unanswered}
use Rattle.vbr_set.proofs.sums.PassSums.{sum_no_more}
use Rattle.vbr_set.proofs.progress.StretchedRuns.{run_at}

-- ---- one pass goes on

module _ (p : PassView) (q : Trace) (law : SeesRun p.trace) (on : SeesMore p.trace q) where
  run : IsRun p.trace.start p.trace.passes q.seen
  run = run_at q.seen on.same.start on.same.passes on.is_run

  left_at : left_by q ≡ marked_by p.trace.start q.seen p.trace.who
  left_at = λ i. marked_by (on.same.start i) q.seen (on.same.who i)

  made_at : removes (made_by q) ≡ removes (own_calls p.trace.start q.seen p.trace.who)
  made_at = λ i. removes (own_calls (on.same.start i) q.seen (on.same.who i))

  -- it leaves more nodes marked by removes and replacements alone
  follow : left_by q + removes (made_by p.trace) ≤ left_by p.trace + removes (made_by q)
  follow =
      let more = marks_follow p.trace.start p.trace.passes p.trace.seen q.seen law.start run on.begins law.is_run
      p.trace.who in
      omega (arith, more, left_at, made_at)

  fall : (key : ℕ) → HasOneLeft p.trace.start p.trace.seen q.seen p.trace.who key →
      left_by q + 1 + removes (made_by p.trace) ≤ left_by p.trace + removes (made_by q)
  fall key has =
      let more = marks_fall p.trace.start p.trace.passes p.trace.seen q.seen law.start run on.begins law.is_run
      p.trace.who key has in
      omega (arith, more, left_at, made_at)

  -- where it made these calls
  module _ (told : List Call) (calls : made_by q ≡ made_by p.trace ++ told) where
    counted : removes (made_by q) ≡ removes (made_by p.trace) + removes told
    counted = ap removes calls ∙ removes-append (made_by p.trace) told

    by_none : removes told ≡ 0 → left_by q ≤ left_by p.trace
    by_none none = let f = follow in let c = counted in omega (arith, f, c, none)

    by_one : removes told ≡ 1 → (key : ℕ) → HasOneLeft p.trace.start p.trace.seen q.seen p.trace.who key →
        left_by q ≤ left_by p.trace
    by_one one key has = let f = fall key has in let c = counted in omega (arith, f, c, one)

    by_few : removes told ≤ 1 → left_by q ≤ left_by p.trace + 1
    by_few few = let f = follow in let c = counted in omega (arith, f, c, few)

  by_no_call : removes (made_by q) ≡ removes (made_by p.trace) → left_by q ≤ left_by p.trace
  by_no_call none = let f = follow in omega (arith, f, none)

goes_by : {calls : List Call} {p q : Trace} → AnswersAll calls p q → SeesMore p q
goes_by a = record { same = a.same; begins = a.begins; is_run = a.is_run }

goes_quiet : (p : PassView) (q : Trace) → SeesRun p.trace → Quiet p.trace q → SeesMore p.trace q
goes_quiet p q law quiet =
    record { same = quiet.same; begins = quiet.seen; is_run = quiet.is_run law.is_run }

quiet_none : (p : PassView) (q : Trace) → SeesRun p.trace → Quiet p.trace q → left_by q ≤ left_by p.trace
quiet_none p q law quiet = by_no_call p q law (goes_quiet p q law quiet) (ap removes quiet.calls)

-- ---- calls

module _ (m n : MemberView) (law : SeesRun m.pass.trace) where
  answered_none : (told : List Call) → AnswersAll told m.pass.trace n.pass.trace → removes told ≡ 0 →
      left_by n.pass.trace ≤ left_by m.pass.trace
  answered_none told a none = by_none m.pass n.pass.trace law (goes_by a) told a.once none

  answered_one : (told : List Call) → AnswersAll told m.pass.trace n.pass.trace → removes told ≡ 1 → (key : ℕ) →
      HasOneLeft m.pass.trace.start m.pass.trace.seen n.pass.trace.seen m.pass.trace.who key →
      left_by n.pass.trace ≤ left_by m.pass.trace
  answered_one told a one key has = by_one m.pass n.pass.trace law (goes_by a) told a.once one key has

  removal_counts : (who key expected old : ℕ) (b : Bool) → (expected == old) ≡ b →
      removes (removal_call who key (Some expected) (Some old) ∷ []) ≡ one_if b
  removal_counts who key expected old true e = rw e refl
  removal_counts who key expected old false e = rw e refl

  stored_counts : (who key value old : ℕ) (wanted : Wanted) (b : Bool) → wants wanted (Some old) ≡ b →
      removes (stored_calls who key value wanted (Some old)) ≡ one_if b
  stored_counts who key value old wanted true e = rw e refl
  stored_counts who key value old wanted false e = rw e refl

  stored_new : (who key value : ℕ) (wanted : Wanted) (b : Bool) → wants wanted None ≡ b →
      removes (stored_calls who key value wanted None) ≡ 0
  stored_new who key value wanted true e = rw e refl
  stored_new who key value wanted false e = rw e refl

  leaves_none : LeavesNone m n → left_by n.pass.trace ≤ left_by m.pass.trace
  leaves_none (none_removed sees none) = by_no_call m.pass n.pass.trace law sees none
  leaves_none (removed key budget (Ok true) room c) =
      answered_one _ c.answers refl key (inl (c.bounds.unlists refl room))
  leaves_none (removed key budget (Ok false) room c) = answered_none _ c.answers refl
  leaves_none (removed key budget (Err refusal) room c) = quiet_none m.pass n.pass.trace law c.quiet
  leaves_none (removed_entry key budget (Ok (Some value)) room c) =
      answered_one _ c.answers.answers refl key (inl (c.bounds.unlists refl room))
  leaves_none (removed_entry key budget (Ok None) room c) = answered_none _ c.answers.answers refl
  leaves_none (removed_entry key budget (Err refusal) room c) = quiet_none m.pass n.pass.trace law c.quiet
  leaves_none (removed_if key expected budget (Ok None) room c) = answered_none _ c.answers.answers refl
  leaves_none (removed_if key expected budget (Ok (Some old)) room c) = elim (cases_Bool (expected == old)) [
    | inl same ↦ answered_one _ c.answers.answers (counts true same) key (inl (c.bounds.unlists same room))
    | inr other ↦ answered_none _ c.answers.answers (counts false other)
  ]
    where
      counts : (b : Bool) → (expected == old) ≡ b →
          removes (removal_call m.pass.trace.who key (Some expected) (Some old) ∷ []) ≡ one_if b
      counts = removal_counts m.pass.trace.who key expected old
  leaves_none (removed_if key expected budget (Err refusal) room c) = quiet_none m.pass n.pass.trace law c.quiet
  leaves_none (stored key value wanted budget (Ok None) room c) =
      answered_none _ c.answers.answers (stored_new m.pass.trace.who key value wanted (wants wanted None) refl)
  leaves_none (stored key value wanted budget (Ok (Some old)) room c) = elim (cases_Bool (wants wanted (Some old))) [
    | inl same ↦ answered_one _ c.answers.answers (counts true same) key (inr (c.bounds.1.leaves same room))
    | inr other ↦ answered_none _ c.answers.answers (counts false other)
  ]
    where
      counts : (b : Bool) → wants wanted (Some old) ≡ b →
          removes (stored_calls m.pass.trace.who key value wanted (Some old)) ≡ one_if b
      counts = stored_counts m.pass.trace.who key value old wanted
  leaves_none (stored key value wanted budget (Err refusal) room c) = quiet_none m.pass n.pass.trace law c.quiet

-- a call makes one remove at most that is answered yes
one_at_most : (x : Call) → removes (x ∷ []) ≤ 1
one_at_most x = go (is_remove x.op && x.reply)
  where
    go : (b : Bool) → one_if b + 0 ≤ 1
    go true = omega arith
    go false = omega arith

one_of_store : (who key value : ℕ) (wanted : Wanted) (there : Option ℕ) →
    removes (stored_calls who key value wanted there) ≤ 1
one_of_store who key value wanted there = go (wants wanted there) there
  where
    go : (b : Bool) (there : Option ℕ) →
        removes (if b then storing_calls who key value there else given_call who Get key there ∷ []) ≤ 1
    go false there = one_at_most (given_call who Get key there)
    go true None = omega arith
    go true (Some old) = omega arith

abbrev RemovesFew : MemberView → MemberView → Type 0
RemovesFew m n = removes (made_by n.pass.trace) ≤ removes (made_by m.pass.trace) + 1

module _ {A : Type 0} {Leave : List Call → Trace → Trace → Type 0}
    (all : (calls : List Call) (p q : Trace) → Leave calls p q → AnswersAll calls p q) {told : A → List Call}
    (few : (reply : A) → removes (told reply) ≤ 1) {BoundsSo : Result A Refusal → Type 0} {m n : CallerView} where
  one_removed : (budget : ℕ) (answer : Result A Refusal) → CallsBy Leave told BoundsSo m n budget answer →
      removes (made_by n.pass.trace) ≤ removes (made_by m.pass.trace) + 1
  one_removed budget (Ok reply) c =
      let a = all (told reply) m.pass.trace n.pass.trace c.answers in
      let count = ap removes a.once ∙ removes-append (made_by m.pass.trace) (told reply) in
      let one = few reply in
      omega (arith, count, one)
  one_removed budget (Err refusal) c = let same = ap removes c.quiet.calls in omega (arith, same)

few_of_set : (op : Op) (m n : MemberView) → IsSetCall op m n → RemovesFew m n
few_of_set op m n (key, budget, answer, c) =
    one_removed set_all (λ reply. one_at_most (set_call m.pass.trace.who op key reply)) budget answer c

few_of_map : (op : Op) (m n : MemberView) → IsMapCall op m n → RemovesFew m n
few_of_map Insert m n (inl (key, value, budget, answer, c)) =
    one_removed map_all (λ reply. one_at_most (stored_call m.pass.trace.who key value reply)) budget answer c
few_of_map Insert m n (inr (key, value, wanted, budget, answer, c)) =
    one_removed map_all (one_of_store m.pass.trace.who key value wanted) budget answer c
few_of_map Remove m n (inl (key, budget, answer, c)) =
    one_removed map_all (λ there. one_at_most (given_call m.pass.trace.who Remove key there)) budget answer c
few_of_map Remove m n (inr (key, expected, budget, answer, c)) =
    one_removed map_all (λ there. one_at_most (removal_call m.pass.trace.who key (Some expected) there)) budget answer c
few_of_map Has m n call = few_of_set Has m n call
few_of_map Get m n (key, budget, answer, c) =
    one_removed map_all (λ there. one_at_most (given_call m.pass.trace.who Get key there)) budget answer c

few_removed : (op : Op) (m n : MemberView) → IsCall op m n → RemovesFew m n
few_removed op m n (inl call) = few_of_set op m n call
few_removed op m n (inr call) = few_of_map op m n call

pub call_leaves_none : CallsLeaveNone
call_leaves_none =
    record {
      opened = λ set who. refl;
      called = λ m n law none. leaves_none m n law none;
      one = λ op m n law call. (let all = follow m.pass n.pass.trace law (call_leaves op m n call).sees in
          let few = few_removed op m n call in
          omega (arith, all, few));
    }

-- ---- at a moment

-- the calls of a pass go on from those that it had made
own_on : (start : Start) (who : ℕ) (seen run : List Event) → Begins seen run →
    removes (own_calls start seen who) ≤ removes (own_calls start run who)
own_on start who seen run begins =
    let more = calls_since start seen run begins in
    let split = ap (λ (l : List Call). removes (calls_by who l)) more.1
    ∙ ap removes (calls_by-append who (calls_of start seen) more.0)
    ∙ removes-append (calls_by who (calls_of start seen)) (calls_by who more.0) in
    omega (arith, split)

module _ (p : PassView) (law : SeesRun p.trace) (who : ℕ) where
  abbrev start : Start
  start = p.trace.start

  abbrev seen : List Event
  seen = p.trace.seen

  module _ (view : PassView) (is : IsViewOf p.trace who view) where
    run_of_view : IsRun start p.trace.passes view.trace.seen
    run_of_view = run_at view.trace.seen is.start is.passes is.sees.is_run

    left_there : left_by view.trace ≡ marked_by start view.trace.seen who
    left_there = λ i. marked_by (is.start i) view.trace.seen (is.is i)

    made_there : removes (made_by view.trace) ≡ removes (own_calls start view.trace.seen who)
    made_there = λ i. removes (own_calls (is.start i) view.trace.seen (is.is i))

    follows : Begins view.trace.seen seen → marked_by start seen who + removes (own_calls start view.trace.seen who)
        ≤ marked_by start view.trace.seen who + removes (own_calls start seen who)
    follows begins =
        marks_follow start p.trace.passes view.trace.seen seen law.start law.is_run begins run_of_view who

  at_most : (most : ℕ) → LeavesAtMost p.trace who most → marked_by start seen who ≤ most
  at_most most (rests view is still few) =
      let more = follows view is (still.0, still.1) in
      let same = ap (λ (l : List Event). removes (own_calls start l who)) still.1
      ∙ ap removes (others_leave_calls start view.trace.seen still.0 who still.2) in
      let there = left_there view is in
      omega (arith, more, same, there, few)
  at_most most (under_way op m n is call a b few) =
      let more = follows m.pass is a in
      let sees = (call_leaves op m n call).sees in
      let there = left_there m.pass is in
      let made = made_there m.pass is in
      let one = few_removed op m n call in
      let later = own_on start who seen n.pass.trace.seen b in
      let last : removes (made_by n.pass.trace) ≡ removes (own_calls start n.pass.trace.seen who) =
      (λ i. removes (own_calls ((sees.same.start ∙ is.start) i) n.pass.trace.seen ((sees.same.who ∙ is.is) i))) in
      omega (arith, more, there, made, one, later, last, few)

pub marks_are_left : MarksAreLeft
marks_are_left p most law each =
    let all = marks_added p.trace.start p.trace.passes p.trace.seen law.start law.is_run in
    let few = sum_no_more p.trace.passes (marked_by p.trace.start p.trace.seen) most
    (λ who low. at_most p law who (most who) (each who low)) in
    omega (arith, all, few)

pub few_left : FewLeft
few_left p most law each unstamped =
    let marks = marks_are_left p most law each in
    let few = few_unanswered p law unstamped in
    omega (arith, marks, few)
