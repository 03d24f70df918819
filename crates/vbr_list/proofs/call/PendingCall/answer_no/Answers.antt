use Rattle.vbr_list.proofs.Names.{rules, false, Bool, subst, sym, IfOk, denied, knows, Made, set_call, wide_found}
use Rattle.vbr_list.proofs.Names.{wide_held}
use Rattle.vbr_list.proofs.traversals.LostAnswers.{unanswered_by_cur, unanswered_by_pred}
use Rattle.vbr_list.proofs.traversals.Moments.{key_found}
use Rattle.vbr_list.proofs.look_ups.Passing.{before_named}
use Rattle.vbr_list.proofs.inserts.Sufficing.{on_ok}
use Rattle.vbr_list.proofs.pieces.WideWords.{wide_is}
use Rattle.vbr_list.proofs.call.PendingCall.answer_no.Goals as goal

pub confirm_absent-requires-clause-gap : goal.confirm_absent-requires-clause-gap
confirm_absent-requires-clause-gap g c =
    let f = wide_found c.args.self.now c.args.found.now in
    record {
      held = search rules;
      behind = search rules;
      before = before_named (knows c.args.self.now.at.stepper.now.trace) c.args.self.now.key f.pred f.cur f.present
          c.requires.locates.end c.if-not-found.true;
      unmarked = search rules;
    }

pub confirm_absent-requires-clause-op : goal.confirm_absent-requires-clause-op
confirm_absent-requires-clause-op g c = record { other = λ e. absurd (cc); asked = λ get. absurd (cc) }

pub confirm_present-requires-clause-asked : goal.confirm_present-requires-clause-asked
confirm_present-requires-clause-asked g c = λ get. absurd (cc)

pub returns-then-not-found-clause-made : goal.returns-then-not-found-clause-made
returns-then-not-found-clause-made g c =
    let p = c.args.self.now.at.stepper.now.trace in
    let P : Bool → Type 0 =
    λ present. IfOk c.confirm_absent.result
    (λ _. Made (set_call p.who (denied present) c.args.self.now.key false) p
    c.confirm_absent.new.at.stepper.now.trace) in
    subst P (sym c.if-not-found.true)
    (on_ok c.confirm_absent.result (λ answers. answers.made) c.confirm_absent.ensures.answers)

pub returns-clause-made : goal.returns-clause-made
returns-clause-made g c =
    let p = c.args.self.now.at.stepper.now.trace in
    let key = key_found c.requires.locates (wide_is c.args.self.now c.in-Some.is) c.if-not-found.false in
    let P : Bool → Type 0 =
    λ present. IfOk c.confirm_present.result
    (λ _. Made (set_call p.who (denied present) c.args.self.now.key false) p
    c.confirm_present.new.at.stepper.now.trace) in
    subst P (sym c.if-not-found.false)
    (on_ok c.confirm_present.result (λ answers. (answers.answers c.args.self.now.key 0 key (λ get. absurd (cc))).made)
    c.confirm_present.ensures.answers)

pub returns-then-not-found-clause-rolls : goal.returns-then-not-found-clause-rolls
returns-then-not-found-clause-rolls g c =
    unanswered_by_pred _ _ c.args.self.now.at.slots.now c.law.ensures (wide_found c.args.self.now c.args.found.now)
    c.confirm_absent.result c.confirm_absent.ensures.lost

pub returns-clause-rolls : goal.returns-clause-rolls
returns-clause-rolls g c =
    unanswered_by_cur _ _ c.args.self.now.at.slots.now c.law.ensures (wide_found c.args.self.now c.args.found.now)
    (wide_held c.args.self.now c.in-Some.cur) (wide_is c.args.self.now c.in-Some.is) c.confirm_present.result
    c.confirm_present.ensures.lost
