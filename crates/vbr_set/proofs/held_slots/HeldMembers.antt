-- What an insert by the slot that a member holds leaves of the member.
use Rattle.std.proofs.Common.{◌≡◌, ℕ, Bool, true, false, List, ◌++◌, Option, Some, Result, Ok, Err}
use Rattle.std.proofs.Common.{refl, sym, ap, ◌∙◌, subst}
use Rattle.std.specs.Prelude.{ℤ, pos}
use Rattle.std.specs.Int.{w64, int_wrapping_add}
use Rattle.vbr_machine.specs.declared.history.Call.{Call}
use Rattle.vbr_slots.specs.steps.Calls.{IsSame, made_by}
use Rattle.vbr_slots.specs.views.Views.{PassView, TableView, Trace}
use Rattle.vbr_at_table.specs.hands.Aside.{EmptiesHand, HasAside, IsPutAside, KeepsAllButHand}
use Rattle.vbr_at_table.specs.hands.Hands.{HandView, IsHandOf}
use Rattle.vbr_at_table.specs.declared.aside.Aside.{Aside}
use Rattle.vbr_list.specs.declared.holding.StillInHand.{StillInHand}
use Rattle.vbr_list.specs.declared.holding.StillInHand.TheVariants.{Present, OutOfSteps}
use Rattle.vbr_set.specs.members.Balances.{balance_of, change_of, one_where}
use Rattle.vbr_set.specs.calls.Members.{CallsBy, MemberView, as_caller, as_member}
use Rattle.vbr_set.specs.calls.RecordCalls.{InsertsAside, InsertsByHeld, InsertsHeldBy, answer_held, aside_left}
use Rattle.vbr_set.specs.calls.RecordCalls.{as_answer, held_answer}
use Rattle.vbr_set.specs.members.Sharing.{CanComeBack, IsPart}
use Rattle.vbr_set.specs.declared.member.share.Share.{Share}
use Rattle.vbr_set.specs.declared.record_refusals.HeldRefusal.{HeldRefusal}
use Rattle.vbr_set.proofs.members.Balances.{added, changed, kept_where}
use Rattle.vbr_set.proofs.held_slots.HeldCalls.{called_aside}

-- a member whose pass took up a slot and has put it aside again, or published it, is part of its set still
pub part_kept : {N : Type 0} {share : Share N} {p first back : PassView} → KeepsAllButHand p first →
    IsSame first.trace back.trace → (q : PassView) → EmptiesHand back q → IsPart share p → IsPart share q
part_kept {share = share} {p = p} up x q ends part =
    let e = ends.keeps.trace in
    let who : q.trace.who ≡ p.trace.who =
    ap (λ (t : Trace). t.who) e ∙ x.who ∙ ap (λ (t : Trace). t.who) up.trace in
    record {
      own = (
        ap (λ (t : Trace). t.table) e ∙ x.table ∙ ap (λ (t : Trace). t.table) up.trace ∙ part.own.0,
        ap (λ (t : Trace). t.start) e ∙ x.start ∙ ap (λ (t : Trace). t.start) up.trace ∙ part.own.1,
        ap (λ (t : Trace). t.passes) e ∙ x.passes ∙ ap (λ (t : Trace). t.passes) up.trace ∙ part.own.2,
      );
      empty_hand = ends.hand;
      comes_back = subst (CanComeBack share) (sym who) part.comes_back;
    }

abbrev pub member_with_aside : TableView → PassView → Option Aside → MemberView
member_with_aside set pass aside = record { set = set; pass = pass; aside = aside }

-- the slot of a hand that is put aside again is the one that was
pub put_again : (hand kept : HandView) (q : PassView) {was : Option Aside} {aside again : Aside} → was ≡ Some aside →
    kept ≡ hand → hand.slot ≡ aside.slot → hand.birth ≡ aside.birth → again.slot ≡ kept.slot →
    again.birth ≡ kept.birth → IsPutAside q again → HasAside q was
put_again hand kept q held is slot birth slot_again birth_again put =
    subst (HasAside q) (sym held)
    (subst (IsPutAside q)
    (λ i. record {
      slot = (slot_again ∙ ap (λ (h : HandView). h.slot) is ∙ slot) i;
      birth = (birth_again ∙ ap (λ (h : HandView). h.birth) is ∙ birth) i;
    }) put)

module _ {Leave : List Call → Trace → Trace → Type 0} {told : Trace → Bool → List Call} {p first back : PassView}
    {key value budget : ℕ} {hand : HandView} {came : Result (Unit {0}) (HandView × StillInHand)}
    (up : KeepsAllButHand p first) (inserts : InsertsByHeld Leave told first back key value budget hand came) where
  -- it is part of the set still
  pub part_held : {N : Type 0} {share : Share N} (q : PassView) → EmptiesHand back q → IsPart share p → IsPart share q
  part_held q ends part = part_kept up inserts.answers.same q ends part

  called : (set : TableView) (q : PassView) → EmptiesHand back q →
      CallsBy Leave (told p.trace) (λ so. Unit {0}) (as_caller set p) (as_caller set q) budget (as_answer came)
  called set q ends = called_aside Leave told set p first back q key value budget hand came up inserts ends

  -- where the slot was published, its hand is empty
  pub ends_spent : {done : Unit {0}} → came ≡ Ok done → EmptiesHand back back
  ends_spent is = record {
    keeps = record { trace = refl; pool = refl };
    hand = (let published = rw is at inserts.inserts.published in published.spent);
  }

  module _ (once : (calls : List Call) (p q : Trace) → Leave calls p q → made_by q ≡ made_by p ++ calls)
      (set : TableView) {balance : ℤ} (counted : balance ≡ balance_of (as_member set p)) where
    -- and one key more is counted
    pub one_added : {done : Unit {0}} → came ≡ Ok done → change_of (told p.trace true) ≡ pos 1 →
        int_wrapping_add w64 balance (pos 1) ≡ balance_of (as_member set back)
    one_added is one =
        let P : Result (Unit {0}) (HandView × StillInHand) → Type 0 =
        λ x. pos 1 ≡ one_where (λ (reply : Bool). reply) (as_answer x) in
        let Q : Result (Unit {0}) (HandView × StillInHand) → Type 0 =
        λ x. one_where (λ (reply : Bool). reply) (as_answer x) ≡ changed (told p.trace) (as_answer x) in
        added once refl (called set back (ends_spent is)) counted {more = pos 1} (λ reply. reply)
        (subst P (sym is) refl) (subst Q (sym is) (sym one))

    -- else none
    pub none_added : {why : HandView × StillInHand} (q : PassView) → EmptiesHand back q → came ≡ Err why →
        change_of (told p.trace false) ≡ pos 0 → balance ≡ balance_of (as_member set q)
    none_added {why} q ends is none =
        kept_where once refl (called set q ends) counted
        (subst (λ (x : Result (Unit {0}) (HandView × StillInHand)). changed (told p.trace) (as_answer x) ≡ pos 0)
        (sym is) (nothing why))
      where
        nothing : (why : HandView × StillInHand) →
            changed (told p.trace) (as_answer {T = Unit {0}} (Err why)) ≡ pos 0
        nothing (h, Present) = none
        nothing (h, OutOfSteps used) = refl

  -- the slot that is put aside again is the one that was
  pub still_put : {why : HandView × StillInHand} (q : PassView) {was : Option Aside} {aside again : Aside} →
      came ≡ Err why → was ≡ Some aside → hand.slot ≡ aside.slot → hand.birth ≡ aside.birth →
      again.slot ≡ why.0.slot → again.birth ≡ why.0.birth → IsPutAside q again → HasAside q was
  still_put {why} q is held slot birth slot_again birth_again put =
      let kept = rw is at inserts.inserts.kept in
      put_again hand why.0 q held kept.same slot birth slot_again birth_again put

  -- what the member tells where the slot wasn't published
  pub tells_still : {why : HandView × StillInHand} (set : TableView) (q : PassView) (put : Option Aside)
      (aside : Aside) (answer : Result Bool HeldRefusal) {view : MemberView} → member_with_aside set p put ≡ view →
      EmptiesHand back q → came ≡ Err why → IsHandOf first hand → put ≡ Some aside → hand.slot ≡ aside.slot →
      hand.birth ≡ aside.birth → answer ≡ answer_held why.1 →
      InsertsHeldBy Leave told view (member_with_aside set q put) key value budget answer
  tells_still {why} set q put aside answer is_view ends is in_hand some slot birth so =
      subst (λ (x : MemberView × Result Bool HeldRefusal). InsertsHeldBy Leave told x.0 n key value budget x.1)
      (λ i. (is_view i, sym so i)) (go why.1 inserts_aside)
    where
      m : MemberView
      m = member_with_aside set p put

      n : MemberView
      n = member_with_aside set q put

      inserts_aside : InsertsAside Leave told m n key value budget (answer_held why.1)
      inserts_aside = record {
        hand = hand;
        was = some ∙ (λ i. Some (record { slot = sym slot i; birth = sym birth i }));
        first = first;
        up = up;
        is = in_hand;
        back = back;
        came = came;
        inserts = inserts;
        ends = ends;
        called = called set q ends;
        replies = ap held_answer (sym is);
        left = ap (λ (x : Result (Unit {0}) (HandView × StillInHand)). aside_left x put) (sym is);
      }

      go : (said : StillInHand) → InsertsAside Leave told m n key value budget (answer_held said) →
          InsertsHeldBy Leave told m n key value budget (answer_held said)
      go Present x = x
      go (OutOfSteps used) x = x
