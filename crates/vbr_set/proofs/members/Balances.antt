-- The balance of a member after a call.
use Rattle.std.proofs.Common.{◌≡◌, Bool, true, false, List, [], ◌∷◌, ◌++◌, refl, sym, ap, ◌∙◌, subst, arith}
use Rattle.std.specs.Prelude.{ℕ, ℤ, pos, ◌+ℤ◌, ◌-ℤ◌, ◌==◌, Option, Some, None, Result, Ok, Err, if◌then◌else◌}
use Rattle.std.specs.Int.{w64, int_wrap, int_wrapping_add, int_wrapping_sub}
use Rattle.std.specs.Prelude.{FitsSigned}
use Rattle.std.proofs.lemmas.Int.{ints, int_wrap_fits, int_wrap-add_left, SFits-int_wrap, wrapping_add_is}
use Rattle.std.proofs.lemmas.Int.{wrapping_sub_is}
use Rattle.vbr_machine.specs.declared.history.Call.{Call}
use Rattle.vbr_machine.specs.declared.history.Op.TheVariants.{Insert, Remove, Get}
use Rattle.vbr_machine.specs.History.{set_call}
use Rattle.vbr_slots.specs.steps.Calls.{IsSame, made_by}
use Rattle.vbr_slots.specs.views.Views.{PassView, TableView, Trace}
use Rattle.vbr_list.specs.updates.Expecting.{removal_call}
use Rattle.vbr_list.specs.updates.Storing.{stored_calls, storing_calls}
use Rattle.vbr_list.specs.calls.Told.{given_call, stored_call}
use Rattle.vbr_list.specs.updates.Outcomes.{ChangedIfExpected, is_changed, there_in}
use Rattle.vbr_list.specs.updates.Wanted.{wants}
use Rattle.vbr_list.specs.declared.outcome.Outcome.{Outcome}
use Rattle.vbr_list.specs.declared.outcome.Outcome.TheVariants.{Changed, Unchanged}
use Rattle.vbr_list.specs.declared.wanted.Wanted.TheVariants.{Absent, Present, Anything, Value}
use Rattle.vbr_at_table.specs.declared.refusal.Refusal.{Refusal}
use Rattle.vbr_set.specs.histories.Answers.{AnswersAll}
use Rattle.vbr_set.specs.members.Balances.{balance_of, change_by, change_of, one_where, opened_for}
use Rattle.vbr_set.specs.calls.MapCalls.{MapAnswersAll}
use Rattle.vbr_set.specs.calls.Members.{CalledBy, MemberView, as_member, one}

-- ---- calls in a row

pub change-append : (xs ys : List Call) → change_of (xs ++ ys) ≡ change_of xs +ℤ change_of ys
change-append [] ys = omega (arith, ints)
change-append (call ∷ xs) ys = let more = change-append xs ys in omega (arith, ints, more)

-- a member that made no call keeps its balance
same_calls : (m n : MemberView) → n.set ≡ m.set → IsSame m.pass.trace n.pass.trace →
    made_by n.pass.trace ≡ made_by m.pass.trace → balance_of n ≡ balance_of m
same_calls m n set same made = λ i. int_wrap w64 (opened_for ((set i).start) (same.who i) +ℤ change_of (made i))

-- to one that made calls these are added
more_calls : (m n : MemberView) (calls : List Call) → n.set ≡ m.set → IsSame m.pass.trace n.pass.trace →
    made_by n.pass.trace ≡ made_by m.pass.trace ++ calls → balance_of n ≡ int_wrap w64 (balance_of m +ℤ change_of calls)
more_calls m n calls set same made =
    let opened : ℤ = opened_for m.set.start m.pass.trace.who in
    let before : ℤ = change_of (made_by m.pass.trace) in
    let sum : opened +ℤ (before +ℤ change_of calls) ≡ (opened +ℤ before) +ℤ change_of calls = omega (arith, ints) in
    (λ i. int_wrap w64 (opened_for ((set i).start) (same.who i) +ℤ change_of (made i)))
    ∙ ap (λ (z : ℤ). int_wrap w64 (opened +ℤ z)) (change-append (made_by m.pass.trace) calls)
    ∙ ap (int_wrap w64) sum
    ∙ sym (int_wrap-add_left w64 (opened +ℤ before) (change_of calls))

-- ---- one call of a member

-- what an answer did to the number of keys
abbrev pub changed : {A : Type 0} → (A → List Call) → Result A Refusal → ℤ
changed told (Ok reply) = change_of (told reply)
changed told (Err refusal) = pos 0

-- one for an answer is one or none
one_fits : {A : Type 0} (test : A → Bool) (answer : Result A Refusal) → FitsSigned w64 (one_where test answer)
one_fits test (Ok reply) = go (test reply)
  where
    go : (b : Bool) → FitsSigned w64 (if b then pos 1 else pos 0)
    go true = omega (arith, ints)
    go false = omega (arith, ints)
one_fits test (Err refusal) = omega (arith, ints)

module _ {A : Type 0} {told : A → List Call} {BoundsSo : Result A Refusal → Type 0}
    {Leave : List Call → Trace → Trace → Type 0}
    (once : (calls : List Call) (p q : Trace) → Leave calls p q → made_by q ≡ made_by p ++ calls) where
  after_call : (m n : MemberView) (budget : ℕ) (answer : Result A Refusal) →
      CalledBy Leave told BoundsSo m n budget answer → balance_of n ≡ int_wrap w64 (balance_of m +ℤ changed told answer)
  after_call m n budget (Ok reply) called =
      more_calls m n (told reply) called.set called.same (once (told reply) m.pass.trace n.pass.trace called.answers)
  after_call m n budget (Err refusal) called =
      let none : balance_of m +ℤ pos 0 ≡ balance_of m = omega (arith, ints) in
      same_calls m n called.set called.same called.quiet.calls
      ∙ sym (ap (int_wrap w64) none ∙ int_wrap_fits w64 (balance_of m) (SFits-int_wrap w64 _))

  module _ {set shared : TableView} {p q : PassView} {budget : ℕ} {answer : Result A Refusal} {balance : ℤ}
      (is : set ≡ shared) (called : CalledBy Leave told BoundsSo (as_member set p) (as_member set q) budget answer)
      (counted : balance ≡ balance_of (as_member shared p)) where
    after : balance_of (as_member shared q) ≡ int_wrap w64 (balance +ℤ changed told answer)
    after = subst
        (λ (t : TableView).
        balance_of (as_member t q) ≡ int_wrap w64 (balance_of (as_member t p) +ℤ changed told answer)) is
        (after_call (as_member set p) (as_member set q) budget answer called)
        ∙ ap (λ (z : ℤ). int_wrap w64 (z +ℤ changed told answer)) (sym counted)

    fits : FitsSigned w64 balance
    fits = subst (FitsSigned w64) (sym counted) (SFits-int_wrap w64 _)

    -- a call that does nothing to the number of keys
    pub kept : ((reply : A) → change_of (told reply) ≡ pos 0) → balance ≡ balance_of (as_member shared q)
    kept none = sym (after ∙ ap (int_wrap w64) same ∙ int_wrap_fits w64 balance fits)
      where
        nothing : (a : Result A Refusal) → changed told a ≡ pos 0
        nothing (Ok reply) = none reply
        nothing (Err refusal) = refl

        same : balance +ℤ changed told answer ≡ balance
        same = let zero_is = nothing answer in omega (arith, ints, zero_is)

    -- an answer that does nothing to it
    pub kept_where : changed told answer ≡ pos 0 → balance ≡ balance_of (as_member shared q)
    kept_where none =
        let same : balance +ℤ changed told answer ≡ balance = omega (arith, ints, none) in
        sym (after ∙ ap (int_wrap w64) same ∙ int_wrap_fits w64 balance fits)

    -- a call that adds one where its answer passes a test
    pub added : {more : ℤ} (test : A → Bool) → more ≡ one_where test answer →
        one_where test answer ≡ changed told answer →
        int_wrapping_add w64 balance more ≡ balance_of (as_member shared q)
    added {more} test one is_one =
        wrapping_add_is w64 balance more fits (subst (FitsSigned w64) (sym one) (one_fits test answer))
        ∙ ap (λ (z : ℤ). int_wrap w64 (balance +ℤ z)) (one ∙ is_one) ∙ sym after

    -- a call that takes one out
    pub taken : {fewer : ℤ} (test : A → Bool) → fewer ≡ one_where test answer →
        changed told answer +ℤ one_where test answer ≡ pos 0 →
        int_wrapping_sub w64 balance fewer ≡ balance_of (as_member shared q)
    taken {fewer} test one none =
        let same : balance -ℤ fewer ≡ balance +ℤ changed told answer = omega (arith, ints, one, none) in
        wrapping_sub_is w64 balance fewer fits (subst (FitsSigned w64) (sym one) (one_fits test answer))
        ∙ ap (int_wrap w64) same ∙ sym after

-- ---- answers

-- one is added where an insert is answered yes
pub yes_adds : (who key : ℕ) (answer : Result Bool Refusal) →
    one_where (λ reply. reply) answer ≡ changed (one (set_call who Insert key)) answer
yes_adds who key (Ok true) = refl
yes_adds who key _ = refl

pub stored_adds : (who key value : ℕ) (answer : Result Bool Refusal) →
    one_where (λ reply. reply) answer ≡ changed (one (stored_call who key value)) answer
stored_adds who key value (Ok true) = refl
stored_adds who key value _ = refl

-- one is taken out where a remove is answered yes
pub yes_takes : (who key : ℕ) (answer : Result Bool Refusal) →
    changed (one (set_call who Remove key)) answer +ℤ one_where (λ reply. reply) answer ≡ pos 0
yes_takes who key (Ok true) = refl
yes_takes who key _ = refl

pub given_takes : (who key : ℕ) (answer : Result (Option ℕ) Refusal) →
    changed (one (given_call who Remove key)) answer +ℤ one_where (wants Present) answer ≡ pos 0
given_takes who key (Ok (Some value)) = refl
given_takes who key _ = refl

-- a call that expects a value changed the key exactly if what was there was as wanted
pub changed_wants : (expected : ℕ) (answer : Result Outcome Refusal) → ChangedIfExpected expected answer →
    one_where is_changed answer ≡ one_where (wants (Value expected)) (there_in answer)
changed_wants expected (Ok (Changed there)) is = ap (λ wanted. if wanted then pos 1 else pos 0) (sym is)
changed_wants expected (Ok (Unchanged there)) is = ap (λ wanted. if wanted then pos 1 else pos 0) (sym is)
changed_wants expected (Err refusal) is = refl

-- so it is of a remove of a key with the value that is expected
pub removal_takes : (who key expected : ℕ) (answer : Result (Option ℕ) Refusal) →
    changed (one (removal_call who key (Some expected))) answer +ℤ one_where (wants (Value expected)) answer ≡ pos 0
removal_takes who key expected (Ok (Some value)) = go (expected == value)
  where
    go : (b : Bool) → (change_by (if b then Remove else Get) true +ℤ pos 0) +ℤ (if b then pos 1 else pos 0) ≡ pos 0
    go true = refl
    go false = refl
removal_takes who key expected _ = refl

-- one is added where a store finds none, and wants none or anything; and a store that replaces adds none
pub put_adds : (who key value : ℕ) (answer : Result (Option ℕ) Refusal) →
    one_where (wants Absent) answer ≡ changed (stored_calls who key value Anything) answer
put_adds who key value (Ok (Some old)) = refl
put_adds who key value _ = refl

pub absent_adds : (who key value : ℕ) (answer : Result (Option ℕ) Refusal) →
    one_where (wants Absent) answer ≡ changed (stored_calls who key value Absent) answer
absent_adds who key value (Ok (Some old)) = refl
absent_adds who key value _ = refl

pub replace_keeps : (who key value : ℕ) (there : Option ℕ) →
    change_of (stored_calls who key value Present there) ≡ pos 0
replace_keeps who key value (Some old) = refl
replace_keeps who key value None = refl

pub exchange_keeps : (who key value expected : ℕ) (there : Option ℕ) →
    change_of (stored_calls who key value (Value expected) there) ≡ pos 0
exchange_keeps who key value expected (Some old) = go (expected == old)
  where
    go : (b : Bool) →
        change_of (if b then storing_calls who key value (Some old) else given_call who Get key (Some old) ∷ []) ≡ pos 0
    go true = refl
    go false = refl
exchange_keeps who key value expected None = refl

-- ---- what an answer leaves

pub once_in_set : (calls : List Call) (p q : Trace) → AnswersAll calls p q → made_by q ≡ made_by p ++ calls
once_in_set calls p q answers = answers.once

pub once_in_map : (calls : List Call) (p q : Trace) → MapAnswersAll calls p q → made_by q ≡ made_by p ++ calls
once_in_map calls p q answers = answers.answers.once
