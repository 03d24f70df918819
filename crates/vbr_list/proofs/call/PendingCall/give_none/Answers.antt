use Rattle.vbr_list.proofs.Names.{rules, refl, subst, sym, false, None, Insert, IsAnswered, IsOtherIn, Op, set_call}
use Rattle.vbr_list.proofs.pieces.Going.{settles_step}
use Rattle.vbr_list.proofs.look_ups.Sights.{answers_bare, look_up_lost, none_given, op_gets, op_other}
use Rattle.vbr_list.proofs.call.PendingCall.give_none.Goals as goal

pub confirm_absent-outcome-requires : goal.confirm_absent-outcome-requires
confirm_absent-outcome-requires g c =
    let s = c.requires.sight in
    let start = c.args.self.now.at.stepper.now.trace.start in
    record {
      gap = record { held = s.0.held; behind = s.0.behind; before = s.1; unmarked = s.0.unmarked };
      op = subst (IsOtherIn start Insert) (sym c.look_up_op.ensures)
          (record {
            other = op_other c.args.gives;
            asked = λ get. c.requires.asked (op_gets c.args.gives get);
          });
    }

pub returns-in-Ok-clause-settles : goal.returns-in-Ok-clause-settles
returns-in-Ok-clause-settles g c = settles_step (search rules) refl c.confirm_absent-outcome.ensures.keeps.keeps

pub returns-in-Err-clause-settles : goal.returns-in-Err-clause-settles
returns-in-Err-clause-settles g c = settles_step (search rules) refl c.confirm_absent-outcome.ensures.keeps.keeps

pub returns-in-Ok-clause-answers : goal.returns-in-Ok-clause-answers
returns-in-Ok-clause-answers g c =
    let p = c.args.self.now.at.stepper.now.trace in
    let q = c.confirm_absent-outcome.new.at.stepper.now.trace in
    let P : Op → Type 0 = λ op. IsAnswered p q (set_call p.who op c.args.self.now.key false) in
    record {
      answers = answers_bare c.args.gives None (none_given c.args.gives)
          (subst P c.look_up_op.ensures c.in-Ok.ensures.answers);
      none = refl;
    }

pub returns-in-Err-clause-rolls : goal.returns-in-Err-clause-rolls
returns-in-Err-clause-rolls g c = look_up_lost _ _ _ c.in-Err.ensures.lost
