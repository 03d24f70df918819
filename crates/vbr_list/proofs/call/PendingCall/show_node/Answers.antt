use Rattle.vbr_list.proofs.Names.{rules, refl, false, Some}
use Rattle.vbr_list.proofs.pieces.Going.{settles_step}
use Rattle.vbr_list.proofs.look_ups.Sights.{answers_bare, look_up_lost}
use Rattle.vbr_list.proofs.call.PendingCall.show_node.Goals as goal

pub confirm_present-outcome-requires : goal.confirm_present-outcome-requires
confirm_present-outcome-requires g c =
    let s = c.requires.sight in
    record {
      node = record { held = s.0; key = (c.args.self.now.key, s.2); unmarked = s.1 };
      op = λ e. absurd (cc);
      asked = λ get. absurd (cc);
    }

pub returns-in-Ok-clause-settles : goal.returns-in-Ok-clause-settles
returns-in-Ok-clause-settles g c = settles_step (search rules) refl c.confirm_present-outcome.ensures.keeps.keeps

pub returns-in-Err-clause-settles : goal.returns-in-Err-clause-settles
returns-in-Err-clause-settles g c = settles_step (search rules) refl c.confirm_present-outcome.ensures.keeps.keeps

pub returns-in-Ok-clause-answers : goal.returns-in-Ok-clause-answers
returns-in-Ok-clause-answers g c =
    let key = c.args.self.now.key in
    let keyed = c.requires.sight.2 in
    record {
      answers = answers_bare false (Some 0) refl (c.in-Ok.ensures.answers.answers key 0 keyed (λ get. absurd (cc)));
      value = 0;
      is = refl;
      zero = λ bare. refl;
      shows = λ s at_slot. c.in-Ok.ensures.there.shows s key at_slot keyed;
      stores = λ gives. absurd (cc);
    }

pub returns-in-Err-clause-rolls : goal.returns-in-Err-clause-rolls
returns-in-Err-clause-rolls g c = look_up_lost _ _ _ c.in-Err.ensures.lost
