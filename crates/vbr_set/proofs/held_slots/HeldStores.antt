-- Stores by a slot in hand, as calls of a map; and what they leave of a member.
use Rattle.std.proofs.Common.{◌≡◌, ℕ, Bool, List, Option, Some, None, Result, Ok, Err, refl, sym, ap, subst, ◌∙◌}
use Rattle.std.specs.Prelude.{IfErr, IfOk, ℤ, pos}
use Rattle.std.specs.Int.{w64, int_wrapping_add}
use Rattle.vbr_machine.specs.declared.history.Call.{Call}
use Rattle.vbr_slots.specs.steps.Calls.{IsSame, Quiet}
use Rattle.vbr_slots.specs.steps.PassLaw.{PassLaw}
use Rattle.vbr_slots.specs.views.Views.{PassView, TableView, Trace}
use Rattle.vbr_at_table.specs.hands.Aside.{EmptiesHand, KeepsAllButHand}
use Rattle.vbr_at_table.specs.hands.Hands.{HandView, IsHandOf}
use Rattle.vbr_at_table.specs.costs.WithinBudget.{TookWithin}
use Rattle.vbr_at_table.specs.declared.aside.Aside.{Aside}
use Rattle.vbr_at_table.specs.declared.refusal.Refusal.{Refusal}
use Rattle.vbr_list.specs.updates.Holding.{PutsHeld, ReplacesHeldEntry}
use Rattle.vbr_list.specs.updates.Storing.{storing_calls}
use Rattle.vbr_list.specs.updates.Wanted.{wants}
use Rattle.vbr_list.specs.declared.entries.Entry.{Entry}
use Rattle.vbr_list.specs.declared.holding.NotReplaced.{NotReplaced}
use Rattle.vbr_list.specs.declared.holding.NotReplaced.TheVariants.{Other, OutOfSteps}
use Rattle.vbr_list.specs.declared.wanted.Wanted.TheVariants.{Absent}
use Rattle.vbr_list.proofs.Lemmas.{alone_all}
use Rattle.vbr_set.specs.histories.Answers.{AnswersAll}
use Rattle.vbr_set.specs.members.Balances.{balance_of, change_of, one_where}
use Rattle.vbr_set.specs.calls.HeldStores.{AnswersStored, PutsAside, PutsByHeld, ReplacesAside, ReplacesByHeld}
use Rattle.vbr_set.specs.calls.HeldStores.{ReplacesHeldBy, TakesUp, answer_unreplaced, as_put, as_replaced, put_answer}
use Rattle.vbr_set.specs.calls.HeldStores.{put_told, replaced_answer, replaced_told}
use Rattle.vbr_set.specs.calls.RecordCalls.{aside_left}
use Rattle.vbr_set.specs.calls.MapCalls.{MapAnswersAll}
use Rattle.vbr_set.specs.calls.Members.{CallsBy, MemberView, as_caller, as_member}
use Rattle.vbr_set.specs.declared.record_refusals.HeldRefusal.{HeldRefusal}
use Rattle.vbr_set.proofs.held_slots.HeldMembers.{member_with_aside}
use Rattle.vbr_set.proofs.members.Balances.{added, changed, kept, kept_where, once_in_map}
use Rattle.vbr_set.proofs.histories.EntryCalls.{quiet_answers}
use Rattle.vbr_set.proofs.histories.Histories.{each_answer}
use Rattle.vbr_set.proofs.histories.MapHistories.{RunsAreMaps, all_answers, map_answers}

-- ---- of a pass

module _ (maps : RunsAreMaps) (p q : PassView) (before : PassLaw p) (after : PassLaw q) where
  stored : {A : Type 0} (told : ℕ → A → List Call) (answer : Result A Refusal) → IsSame p.trace q.trace →
      IfOk answer (λ reply. AnswersAll (told p.trace.who reply) p.trace q.trace) →
      IfErr answer (λ refusal. Quiet p.trace q.trace) → AnswersStored told p.trace q.trace answer
  stored told answer same left quiet = record {
    same = same;
    answers = each_answer answer (λ reply a. map_answers maps (told p.trace.who reply) p q before a) left;
    alone = each_answer answer
        (λ reply a. (λ lone.
        (alone_all (told p.trace.who reply) before.start before.low a.same a.is_run a.once lone).0)) left;
    quiet = quiet;
    safe = record { is_run = after.is_run; safe = after.safe };
  }

  module _ (key value budget : ℕ) (hand : HandView) where
    puts_so : (came : Result (Option ℕ) (HandView × ℕ)) → PutsHeld p q key value budget hand came →
        AnswersStored (put_told key value) p.trace q.trace (as_put came)
    puts_so (Ok there) x =
        let a = all_answers (put_told key value p.trace.who there) before.start x.put.made in
        stored (put_told key value) (Ok there) a.same a tt
    puts_so (Err left) x = stored (put_told key value) (as_put (Err left)) x.kept.quiet.same tt x.kept.quiet

    pub puts_by : (came : Result (Option ℕ) (HandView × ℕ)) → PutsHeld p q key value budget hand came →
        PutsByHeld p q key value budget hand came
    puts_by came x = record { puts = x; answers = puts_so came x }

    pub replaces_by : {T : Type 0} (entry : Entry) (came : Result T (HandView × NotReplaced)) →
        ReplacesHeldEntry p q key value budget hand entry came → ReplacesByHeld p q key value budget hand entry came
    replaces_by entry (Ok done) x =
        let a = all_answers (storing_calls p.trace.who key value (Some x.replaced.old)) before.start
        x.replaced.stores.made in
        record {
          replaces = x;
          old = x.replaced.old;
          answers = stored (replaced_told key value) (Ok (Some x.replaced.old)) a.same a tt;
        }
    replaces_by entry (Err (back, Other)) x =
        let a = quiet_answers before.start before.is_run x.kept.quiet in
        record { replaces = x; old = 0; answers = stored (replaced_told key value) (Ok None) a.same a tt }
    replaces_by {T} entry (Err (back, OutOfSteps used)) x = record {
      replaces = x;
      old = 0;
      answers = stored (replaced_told key value) (as_replaced {T = T} 0 (Err (back, OutOfSteps used)))
          x.kept.quiet.same tt x.kept.quiet;
    }

-- ---- of a member, whose pass took the slot up before, and put it aside after

pub called_stored : {A : Type 0} (told : ℕ → A → List Call) (set : TableView) (p first back q : PassView)
    (budget : ℕ) (answer : Result A Refusal) → KeepsAllButHand p first →
    AnswersStored told first.trace back.trace answer → TookWithin first.trace back.trace budget →
    EmptiesHand back q →
    CallsBy MapAnswersAll (told p.trace.who) (λ so. Unit {0}) (as_caller set p) (as_caller set q) budget answer
called_stored told set p first back q budget answer up by steps ends =
    let x = subst (λ (t : Trace × Trace). AnswersStored told t.0 t.1 answer)
    (λ i. (up.trace i, sym ends.keeps.trace i)) by in
    record {
      set = refl;
      same = x.same;
      answers = x.answers;
      alone = x.alone;
      quiet = x.quiet;
      safe = x.safe;
      hand = ends.hand;
      steps = subst (λ (t : Trace × Trace). TookWithin t.0 t.1 budget) (λ i. (up.trace i, sym ends.keeps.trace i))
          steps;
      bounds = tt;
    }

-- a hand that is empty stays so
pub spent : (q : PassView) → q.hand ≡ None → EmptiesHand q q
spent q is = record { keeps = record { trace = refl; pool = refl }; hand = is }

-- the slot was taken up that the member held, and is published then, or held still
abbrev takes_up : {T E : Type 0} (Does : PassView → PassView → HandView → Result T E → Type 0) {p first back : PassView}
    {hand : HandView} (came : Result T E) → KeepsAllButHand p first → Does first back hand came →
    IsHandOf first hand → (set : TableView) (q : PassView) (was : Option Aside) (aside : Aside) → EmptiesHand back q →
    was ≡ Some aside → hand.slot ≡ aside.slot → hand.birth ≡ aside.birth →
    TakesUp Does (member_with_aside set p was) (member_with_aside set q (aside_left came was))
takes_up Does {first = first} {back = back} {hand = hand} came up does is set q was aside ends some slot birth =
    record {
      hand = hand;
      was = some ∙ (λ i. Some (record { slot = sym slot i; birth = sym birth i }));
      first = first;
      up = up;
      is = is;
      back = back;
      came = came;
      does = does;
      ends = ends;
      left = refl;
    }

-- ---- a put

-- one key more is counted where none was there
put_counts : (key value who : ℕ) (came : Result (Option ℕ) (HandView × ℕ)) →
    one_where (wants Absent) (as_put came) ≡ changed (put_told key value who) (as_put came)
put_counts key value who (Ok (Some old)) = refl
put_counts key value who _ = refl

module _ {p first back : PassView} {key value budget : ℕ} {hand : HandView}
    {came : Result (Option ℕ) (HandView × ℕ)} (up : KeepsAllButHand p first)
    (by : PutsByHeld first back key value budget hand came) where
  put_called : (set : TableView) (q : PassView) → EmptiesHand back q →
      CallsBy MapAnswersAll (put_told key value p.trace.who) (λ so. Unit {0}) (as_caller set p) (as_caller set q) budget
      (as_put came)
  put_called set q ends =
      called_stored (put_told key value) set p first back q budget (as_put came) up by.answers by.puts.steps ends

  -- where the slot was published, the hand of the pass is empty
  pub put_spent : {there : Option ℕ} → came ≡ Ok there → EmptiesHand back back
  put_spent is = spent back (let put = rw is at by.puts.put in put.spent)

  -- and what the member counts is right
  pub put_added : {there : Option ℕ} (set : TableView) {balance more : ℤ} → came ≡ Ok there →
      balance ≡ balance_of (as_member set p) → more ≡ one_where {A = Option ℕ} (wants Absent) (Ok there) →
      int_wrapping_add w64 balance more ≡ balance_of (as_member set back)
  put_added set is counted one =
      added once_in_map refl (put_called set back (put_spent is)) counted (wants Absent)
      (one ∙ ap (λ (x : Result (Option ℕ) (HandView × ℕ)). one_where (wants Absent) (as_put x)) (sym is))
      (put_counts key value p.trace.who came)

  pub none_put : {left : HandView × ℕ} (set : TableView) {balance : ℤ} (q : PassView) → EmptiesHand back q →
      came ≡ Err left → balance ≡ balance_of (as_member set p) → balance ≡ balance_of (as_member set q)
  none_put set q ends is counted =
      kept_where once_in_map refl (put_called set q ends) counted
      (ap (λ (x : Result (Option ℕ) (HandView × ℕ)). changed (put_told key value p.trace.who) (as_put x)) is)

  -- the hand that came back is the one that was taken up
  pub put_same : {left : HandView × ℕ} → came ≡ Err left → left.0 ≡ hand
  put_same is = (let kept = rw is at by.puts.kept in kept.same)

  pub puts_aside : {result : Result (Option ℕ) (HandView × ℕ)} (set : TableView) (q : PassView) (was : Option Aside)
      (aside : Aside) {view : MemberView} → member_with_aside set p was ≡ view → EmptiesHand back q →
      IsHandOf first hand → was ≡ Some aside → hand.slot ≡ aside.slot → hand.birth ≡ aside.birth → came ≡ result →
      PutsAside view (member_with_aside set q (aside_left result was)) key value budget (put_answer result)
  puts_aside set q was aside is_view ends is some slot birth came_is =
      subst
      (λ (x : MemberView × Result (Option ℕ) (HandView × ℕ)).
      PutsAside x.0 (member_with_aside set q (aside_left x.1 was)) key value budget (put_answer x.1))
      (λ i. (is_view i, came_is i))
      (record {
        by = takes_up (λ p q hand came. PutsByHeld p q key value budget hand came) came up by is set q was aside ends
            some slot birth;
        called = put_called set q ends;
        replies = refl;
      })

-- ---- a replacement of one entry

-- none is counted where an entry was replaced
replacement_counts : (key value who : ℕ) (there : Option ℕ) → change_of (replaced_told key value who there) ≡ pos 0
replacement_counts key value who (Some old) = refl
replacement_counts key value who None = refl

module _ {p first back : PassView} {key value budget : ℕ} {hand : HandView} {entry : Entry}
    {came : Result (Unit {0}) (HandView × NotReplaced)} (up : KeepsAllButHand p first)
    (by : ReplacesByHeld first back key value budget hand entry came) where
  replaced_called : (set : TableView) (q : PassView) → EmptiesHand back q →
      CallsBy MapAnswersAll (replaced_told key value p.trace.who) (λ so. Unit {0}) (as_caller set p) (as_caller set q)
      budget (as_replaced by.old came)
  replaced_called set q ends =
      called_stored (replaced_told key value) set p first back q budget (as_replaced by.old came) up by.answers
      by.replaces.steps ends

  -- where the slot was published, the hand of the pass is empty
  pub replaced_spent : {done : Unit {0}} → came ≡ Ok done → EmptiesHand back back
  replaced_spent is = spent back (let replaced = rw is at by.replaces.replaced in replaced.stores.spent)

  -- and what the member counts stays
  pub replaced_kept : (set : TableView) {balance : ℤ} (q : PassView) → EmptiesHand back q →
      balance ≡ balance_of (as_member set p) → balance ≡ balance_of (as_member set q)
  replaced_kept set q ends counted =
      kept once_in_map refl (replaced_called set q ends) counted (replacement_counts key value p.trace.who)

  -- the hand that came back is the one that was taken up
  pub replaced_same : {told : HandView × NotReplaced} → came ≡ Err told → told.0 ≡ hand
  replaced_same is = (let kept = rw is at by.replaces.kept in kept.same)

  pub replaces_aside : {result : Result (Unit {0}) (HandView × NotReplaced)} (set : TableView) (q : PassView)
      (was : Option Aside) (aside : Aside) {view : MemberView} → member_with_aside set p was ≡ view →
      EmptiesHand back q → IsHandOf first hand → was ≡ Some aside → hand.slot ≡ aside.slot →
      hand.birth ≡ aside.birth → came ≡ result →
      ReplacesAside view (member_with_aside set q (aside_left result was)) key value budget entry
      (replaced_answer result)
  replaces_aside set q was aside is_view ends is some slot birth came_is =
      subst
      (λ (x : MemberView × Result (Unit {0}) (HandView × NotReplaced)).
      ReplacesAside x.0 (member_with_aside set q (aside_left x.1 was)) key value budget entry (replaced_answer x.1))
      (λ i. (is_view i, came_is i))
      (record {
        by = takes_up (λ p q hand came. ReplacesByHeld p q key value budget hand entry came) came up by is set q was
            aside ends some slot birth;
        called = replaced_called set q ends;
        replies = refl;
      })

  -- what the member tells where it didn't replace the entry
  pub tells_unreplaced : {told : HandView × NotReplaced} (set : TableView) (q : PassView) (was : Option Aside)
      (aside : Aside) (answer : Result Bool HeldRefusal) {view : MemberView} → member_with_aside set p was ≡ view →
      EmptiesHand back q → came ≡ Err told → IsHandOf first hand → was ≡ Some aside → hand.slot ≡ aside.slot →
      hand.birth ≡ aside.birth → answer ≡ answer_unreplaced told.1 →
      ReplacesHeldBy view (member_with_aside set q was) key value budget entry answer
  tells_unreplaced {told} set q was aside answer {view} is_view ends is in_hand some slot birth so =
      subst (ReplacesHeldBy view n key value budget entry) (sym so)
      (go told.1 (replaces_aside set q was aside is_view ends in_hand some slot birth is))
    where
      n : MemberView
      n = member_with_aside set q was

      go : (why : NotReplaced) → ReplacesAside view n key value budget entry (answer_unreplaced why) →
          ReplacesHeldBy view n key value budget entry (answer_unreplaced why)
      go Other x = x
      go (OutOfSteps used) x = x
