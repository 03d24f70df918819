use Rattle.vbr_list.proofs.Names.{ℕ, Option, IfOk, subst, Get, given_call, knows, Made, wide_found, wide_held}
use Rattle.vbr_list.proofs.traversals.LostAnswers.{unanswered_by_cur, unanswered_by_pred}
use Rattle.vbr_list.proofs.traversals.Moments.{key_found}
use Rattle.vbr_list.proofs.look_ups.Passing.{before_named}
use Rattle.vbr_list.proofs.inserts.Sufficing.{on_ok}
use Rattle.vbr_list.proofs.look_ups.FoundValues.{none_there, there_absent, there_value}
use Rattle.vbr_list.proofs.pieces.WideWords.{wide_is}
use Rattle.vbr_list.proofs.call.PendingCall.tell_found.Goals as goal

pub confirm_absent-requires-clause-gap : goal.confirm_absent-requires-clause-gap
confirm_absent-requires-clause-gap g c =
    let f = wide_found c.args.self.now c.args.found.now in
    let know = knows c.args.self.now.at.stepper.now.trace in
    let x = c.requires.knows.locates in
    let absent = there_absent know f c.args.there (rw c.if-is_none.true at c.is_none.ensures) c.requires.knows.is in
    record {
      held = x.pred.held;
      behind = x.pred.behind;
      before = before_named know c.args.self.now.key f.pred f.cur f.present x.end absent;
      unmarked = x.pred.unmarked;
    }

pub confirm_absent-requires-clause-op : goal.confirm_absent-requires-clause-op
confirm_absent-requires-clause-op g c = record { other = λ e. absurd (cc); asked = λ get. c.requires.knows.values }

pub confirm_present-requires-clause-asked : goal.confirm_present-requires-clause-asked
confirm_present-requires-clause-asked g c = λ get.
    let f = wide_found c.args.self.now c.args.found.now in
    let value = there_value (knows c.args.self.now.at.stepper.now.trace) f c.args.there
    (rw c.if-is_none.false at c.is_none.ensures) c.requires.knows.is in (
      c.requires.knows.values,
      (
        value.0,
        value.2.known (wide_held c.args.self.now c.in-Some.cur)
            (wide_is c.args.self.now c.in-Some.is),
      ),
    )

pub returns-then-is_none-clause-told : goal.returns-then-is_none-clause-told
returns-then-is_none-clause-told g c =
    let p = c.args.self.now.at.stepper.now.trace in
    let P : Option ℕ → Type 0 =
    λ there. IfOk c.confirm_absent.result
    (λ _. Made (given_call p.who Get c.args.self.now.key there) p c.confirm_absent.new.at.stepper.now.trace) in
    subst P (none_there c.args.there (rw c.if-is_none.true at c.is_none.ensures))
    (on_ok c.confirm_absent.result (λ answers. answers.made) c.confirm_absent.ensures.answers)

pub returns-clause-told : goal.returns-clause-told
returns-clause-told g c =
    let f = wide_found c.args.self.now c.args.found.now in
    let p = c.args.self.now.at.stepper.now.trace in
    let value = there_value (knows p) f c.args.there (rw c.if-is_none.false at c.is_none.ensures) c.requires.knows.is in
    let key = key_found c.requires.knows.locates (wide_is c.args.self.now c.in-Some.is) value.2.present in
    let P : Option ℕ → Type 0 =
    λ there. IfOk c.confirm_present.result
    (λ _. Made (given_call p.who Get c.args.self.now.key there) p c.confirm_present.new.at.stepper.now.trace) in
    subst P value.1
    (on_ok c.confirm_present.result
    (λ answers. (answers.answers c.args.self.now.key value.0 key
    (λ get. value.2.known (wide_held c.args.self.now c.in-Some.cur) (wide_is c.args.self.now c.in-Some.is))).made)
    c.confirm_present.ensures.answers)

pub returns-then-is_none-clause-lost : goal.returns-then-is_none-clause-lost
returns-then-is_none-clause-lost g c =
    unanswered_by_pred _ _ c.args.self.now.at.slots.now c.law.ensures (wide_found c.args.self.now c.args.found.now)
    c.confirm_absent.result c.confirm_absent.ensures.lost

pub returns-clause-lost : goal.returns-clause-lost
returns-clause-lost g c =
    unanswered_by_cur _ _ c.args.self.now.at.slots.now c.law.ensures (wide_found c.args.self.now c.args.found.now)
    (wide_held c.args.self.now c.in-Some.cur) (wide_is c.args.self.now c.in-Some.is) c.confirm_present.result
    c.confirm_present.ensures.lost
