use Rattle.vbr_list.proofs.Names.{◌+◌, ◌∙◌, inl, arith, rules, err_from_is_err_and, gained, Ghosts, Meeting}
use Rattle.vbr_list.proofs.Names.{MeetsOther, MeetsWanted, pass_in, PassView, PendingCall, Quiet, quiet_on}
use Rattle.vbr_list.proofs.Names.{steps_to_compare, steps_to_prepare, steps_to_take_among, trace_in, TriesOnlyWhere}
use Rattle.vbr_list.proofs.Names.{TriesWhereEmpty, Wanted, WasWanted}
use Rattle.vbr_list.proofs.traversals.LostTraversals.{searched_until}
use Rattle.vbr_list.proofs.inserts.Preparing.{prepares_none, prepares_on, takes_gone, tries_after}
use Rattle.vbr_list.proofs.inserts.Sufficing.{take_least, taken_after}
use Rattle.vbr_list.proofs.stores.Wants.{met_goes, searches_more_steps, store_in_vain, wanted_for, was_before}
use Rattle.vbr_list.proofs.call.PendingCall.prepare.Goals as goal

-- the key was met as it is wanted, and then a slot was tried for
wanted_tries : {N : Type 0} {kind : Ghosts N} {c d : PendingCall N kind} (wanted : Wanted) (r : PassView) →
    Meeting c d → MeetsWanted wanted c d → Quiet (trace_in d) r.trace → TriesWhereEmpty (pass_in d) r →
    TriesOnlyWhere (WasWanted wanted (trace_in c) r.trace c.key) (pass_in c) r
wanted_tries {c = c} {d = d} wanted r meets met quiet tries =
    tries_after (pass_in c) (pass_in d) r meets.hand.takes_no_slot tries
    (was_before (trace_in c) (trace_in d) r.trace c.key wanted met.was quiet)

pub returns-in_default : goal.returns-in_default
returns-in_default g c =
    let x = c.meet.ensures.meets in
    let tired = c.in_default.ensures.tired in
    let p = c.args.self.now.at.stepper.now in
    let m = c.meet.new.self.at.stepper.now.trace in
    let least = take_least p m in
    record {
      prepares = prepares_none x;
      tries = inl x.hand.takes_no_slot.tries;
      refused = record {
        quiet = tired.quiet;
        hand = x.hand.hand ∙ c.requires.empty_hand;
        says = record { counts = x.counts; short = tired.short };
        so = tt;
        searches = searches_more_steps (c.args.self.now.budget + 1) (steps_to_prepare c.args.wanted p m + 10)
            (omega (arith, least)) tired.searches;
      };
      prepared = tt;
    }

pub returns-in-Otherwise : goal.returns-in-Otherwise
returns-in-Otherwise g c =
    let x = c.meet.ensures.meets in
    let met : MeetsOther c.args.gives c.args.wanted c.args.self.now c.meet.new.self c.in-Otherwise.there =
    rw c.in-Otherwise.is at c.in-Some.ensures.met in
    let p = c.args.self.now.at.stepper.now in
    let m = c.meet.new.self.at.stepper.now.trace in
    let least = take_least p m in
    record {
      prepares = prepares_none x;
      tries = inl x.hand.takes_no_slot.tries;
      prepared = record {
        tells = met.tells;
        spent = x.hand.hand ∙ c.requires.empty_hand;
        searched = record {
          ended = met.searched.ended;
          quiet = met.searched.quiet;
          to = met.searched.to;
          searches = searches_more_steps c.meet.new.self.used (steps_to_prepare c.args.wanted p m + 3)
              (omega (arith, least)) met.searched.searches;
        };
      };
      refused = tt;
    }

pub returns-in_err-hand-in-AsWanted : goal.returns-in_err-hand-in-AsWanted
returns-in_err-hand-in-AsWanted g c =
    let met : MeetsWanted c.args.wanted c.args.self.now c.meet.new.self =
    rw c.in-AsWanted.is at c.in-Some.ensures.met in
    let gone = met_goes c.meet.ensures.meets met.quiet in
    let error = err_from_is_err_and c.from_residual.result c.from_residual.ensures.1 in
    let refusal = c.in_err-hand-in-AsWanted.field-0.0 in
    let none = c.in_err-hand-in-AsWanted.ensures.refused in
    let d = c.provide.ensures.quiet in
    let p = c.args.self.now.at.stepper.now in
    let m = c.meet.new.self.at.stepper.now in
    let r = c.provide.new.self.at.stepper.now in
    let taken = taken_after gone r.trace in
    record {
      prepares = prepares_on (met_goes c.meet.ensures.meets met.quiet) c.provide.ensures.one c.provide.ensures.prepares;
      tries = wanted_tries c.args.wanted r c.meet.ensures.meets
          (rw c.in-AsWanted.is at c.in-Some.ensures.met) d c.provide.ensures.tries;
      refused = rw (error.1, error.2) (record {
        quiet = quiet_on gone.goes.quiet d;
        hand = none.hand;
        says = takes_gone gone r d refusal none.says;
        so = wanted_for p.trace r.trace c.args.self.now.key c.args.wanted
            (was_before p.trace m.trace r.trace c.args.self.now.key c.args.wanted met.was d) refusal;
        searches = store_in_vain c.args.self.now.key c.args.self.now.budget
            (steps_to_take_among m.trace.start m.pool (gained m.trace r.trace))
            (steps_to_prepare c.args.wanted p r.trace + 10)
            (searched_until c.law.ensures gone d (steps_to_compare c.args.wanted + 3) (omega arith) met.searches)
            refusal (rw gone.call.budget at none.enough) (omega (arith, taken));
      });
      prepared = search rules;
    }

pub returns-in_ok-hand-in-AsWanted : goal.returns-in_ok-hand-in-AsWanted
returns-in_ok-hand-in-AsWanted g c =
    let met : MeetsWanted c.args.wanted c.args.self.now c.meet.new.self =
    rw c.in-AsWanted.is at c.in-Some.ensures.met in
    let gone = met_goes c.meet.ensures.meets met.quiet in
    let d = c.provide.ensures.quiet in
    let hand = c.in_ok-hand-in-AsWanted.ensures.hand in
    let p = c.args.self.now.at.stepper.now in
    let r = c.provide.new.self.at.stepper.now.trace in
    let taken = taken_after gone r in
    let few = hand.few in
    record {
      prepares = prepares_on (met_goes c.meet.ensures.meets met.quiet) c.provide.ensures.one c.provide.ensures.prepares;
      tries = wanted_tries c.args.wanted c.provide.new.self.at.stepper.now c.meet.ensures.meets
          (rw c.in-AsWanted.is at c.in-Some.ensures.met) d c.provide.ensures.tries;
      prepared = record {
        quiet = quiet_on gone.goes.quiet d;
        hand = hand.has;
        searched = record {
          ended = c.meet.new.self.at.stepper.now.trace;
          quiet = gone.goes.quiet;
          to = d.seen;
          searches = searches_more_steps c.provide.new.self.used (steps_to_prepare c.args.wanted p r + 3)
              (omega (arith, few, taken)) met.searches;
        };
      };
      refused = tt;
    }
