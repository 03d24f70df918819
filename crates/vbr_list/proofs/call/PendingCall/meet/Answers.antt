use Rattle.vbr_list.proofs.Names.{◌≡◌, ◌+◌, true, sym, ap, ◌∙◌, subst, arith, ◌<◌, AskLoses, Asks, counts_none}
use Rattle.vbr_list.proofs.Names.{Ghosts, GoesOn, has_wanted, knows, Meeting, MeetTires, pass_in, PassLaw}
use Rattle.vbr_list.proofs.Names.{PendingCall, PIECE, quiet_on, quiet_refl, ReadsWanted, Start, steps_to_compare}
use Rattle.vbr_list.proofs.Names.{TellsOther, trace_in, TraversesAgain, Wanted, WasWanted, wide_found}
use Rattle.vbr_list.proofs.look_ups.FoundValues.{otherwise_since}
use Rattle.vbr_list.proofs.pieces.Going.{call_on, call_refl, less_left, within_call}
use Rattle.vbr_list.proofs.pieces.KeptHands.{hand_on, hand_refl}
use Rattle.vbr_list.proofs.inserts.Linking.{located}
use Rattle.vbr_list.proofs.traversals.LostTraversals.{found_in, HasSearched, searched_for, searched_more, searched_on}
use Rattle.vbr_list.proofs.traversals.LostTraversals.{searched_until, short_of, so_in}
use Rattle.vbr_list.proofs.inserts.Preparing.{steps_gone, within_on}
use Rattle.vbr_list.proofs.stores.Wants.{asked_values, compare_few, was_compared, was_plain}
use Rattle.vbr_list.proofs.call.PendingCall.meet.Goals as goal

pub ask-requires-clause-asked : goal.ask-requires-clause-asked
ask-requires-clause-asked g c =
    let same = quiet_on c.loop-found.invariant.1.goes.quiet c.search.ensures.goes.goes.quiet in
    record {
      values = λ gives. ap (λ (d : Start). d.shape.values) same.same.start ∙ c.requires.asked.values gives;
      absent = c.requires.asked.absent;
    }

pub ask-requires-clause-locates : goal.ask-requires-clause-locates
ask-requires-clause-locates g c = simp c.search.ensures.goes.call.at.slots
    (located c.search.ensures.goes (wide_found c.loop-found.self c.in-Some.found) c.in-Some.ensures.found)

pub loop-found-preserved : goal.loop-found-preserved
loop-found-preserved g c =
    let a = c.ask.ensures.asks in
    let lost = simp c.search.ensures.goes.call.at.slots at (rw c.in-Changed.is at c.in-Err.ensures.unmet) in
    let few = a.few in
    searched_more 4 c.law.ensures c.loop-found.invariant c.search.ensures.goes
    (wide_found c.loop-found.self c.in-Some.found) c.in-Some.ensures.found
    a.call (record { quiet = lost.quiet; counts = a.counts; hand = a.hand }) a.more (omega (arith, few)) lost.loses

pub loop-found-smaller : goal.loop-found-smaller
loop-found-smaller g c =
    let lost : AskLoses c.search.new.self c.ask.new.self (wide_found c.search.new.self c.in-Some.found) =
    rw c.in-Changed.is at c.in-Err.ensures.unmet in
    less_left c.search.ensures.goes c.ask.ensures.asks.call lost.more

pub returns-in-Anything-clause-meets : goal.returns-in-Anything-clause-meets
returns-in-Anything-clause-meets g c = record {
  call = call_refl c.args.self.now;
  counts = record {
    counts = counts_none c.args.self.now.at.stepper.now.trace c.args.self.now.used;
    within = (omega arith, c.args.self.now.within);
  };
  hand = hand_refl c.args.self.now.at.stepper.now;
}

pub returns-in-Anything-clause-met : goal.returns-in-Anything-clause-met
returns-in-Anything-clause-met g c =
    let p = c.args.self.now.at.stepper.now.trace in
    let P : Wanted → Type 0 = λ wanted. WasWanted wanted p p c.args.self.now.key in
    record {
      quiet = quiet_refl p;
      was = subst P (sym c.in-Anything.is) tt;
      searches = record { lost = 0; few = omega arith; paid = omega arith };
    }

-- no call was made
meets_none : {N : Type 0} {kind : Ghosts N} {b c d : PendingCall N kind} → PassLaw (pass_in b) → HasSearched 7 b c →
    GoesOn c d → Meeting b d
meets_none law so went =
    let gone = searched_on law so went in
    record { call = gone.call; counts = steps_gone gone; hand = gone.goes.hand }

pub returns-in_default-search-clause-meets : goal.returns-in_default-search-clause-meets
returns-in_default-search-clause-meets g c =
    meets_none c.law.ensures c.loop-found.invariant c.search.ensures.goes

pub returns-then-has_wanted-clause-meets : goal.returns-then-has_wanted-clause-meets
returns-then-has_wanted-clause-meets g c =
    meets_none c.law.ensures c.loop-found.invariant c.search.ensures.goes

pub returns-then-not-affords-clause-meets : goal.returns-then-not-affords-clause-meets
returns-then-not-affords-clause-meets g c =
    meets_none c.law.ensures c.loop-found.invariant c.search.ensures.goes

-- it was asked
meets_asked : {N : Type 0} {kind : Ghosts N} {b c d e : PendingCall N kind} → PassLaw (pass_in b) → HasSearched 7 b c →
    GoesOn c d → Asks d e → Meeting b e
meets_asked law so went a =
    let gone = searched_on law so went in
    let same = call_on gone.call a.call in
    record {
      call = same;
      counts = within_on (steps_gone gone) a.counts a.more (within_call same);
      hand = hand_on gone.goes.hand a.hand;
    }

pub returns-in-Ok-clause-meets : goal.returns-in-Ok-clause-meets
returns-in-Ok-clause-meets g c =
    meets_asked c.law.ensures c.loop-found.invariant c.search.ensures.goes c.ask.ensures.asks

pub returns-in-Otherwise-clause-meets : goal.returns-in-Otherwise-clause-meets
returns-in-Otherwise-clause-meets g c =
    meets_asked c.law.ensures c.loop-found.invariant c.search.ensures.goes c.ask.ensures.asks

-- the budget had no room for one more piece
meets_short : {N : Type 0} {kind : Ghosts N} {b c d : PendingCall N kind} → PassLaw (pass_in b) → HasSearched 7 b c →
    GoesOn c d → TraversesAgain 9 (trace_in c) (trace_in d) c.key c.used d.used → b.budget < d.used + PIECE →
    MeetTires b d
meets_short {b = b} law so went traverses short =
    record {
      quiet = (searched_on law so went).goes.quiet;
      short = short;
      searches = searched_for law so went (omega arith) traverses (b.budget + 1) 8 11 (omega (arith, short))
          (omega arith);
    }

pub returns-in_default-search-clause-tired : goal.returns-in_default-search-clause-tired
returns-in_default-search-clause-tired g c =
    let tired = c.in_default-search.ensures.tired in
    meets_short c.law.ensures c.loop-found.invariant c.search.ensures.goes tired.traverses
    (rw c.loop-found.invariant.0.budget at tired.tired)

pub returns-then-not-affords-clause-tired : goal.returns-then-not-affords-clause-tired
returns-then-not-affords-clause-tired g c =
    let gone = searched_on c.law.ensures c.loop-found.invariant c.search.ensures.goes in
    meets_short c.law.ensures c.loop-found.invariant c.search.ensures.goes c.in-Some.ensures.found.traverses
    (short_of gone.call c.affords.result c.if-not-affords.true c.affords.ensures.1)

pub returns-then-has_wanted-clause-met : goal.returns-then-has_wanted-clause-met
returns-then-has_wanted-clause-met g c =
    let gone = searched_on c.law.ensures c.loop-found.invariant c.search.ensures.goes in
    let p = c.args.self.now.at.stepper.now.trace in
    let m = c.search.new.self.at.stepper.now.trace in
    let is : has_wanted c.args.wanted c.in-Some.found.present ≡ true =
    sym c.has_wanted.ensures ∙ c.if-has_wanted.true in
    let so = so_in c.law.ensures c.loop-found.invariant c.search.ensures.goes
    (wide_found c.loop-found.self c.in-Some.found) c.in-Some.ensures.found in
    record {
      quiet = gone.goes.quiet;
      was = was_plain p m c.args.self.now.key c.args.wanted c.in-Some.found.present is so;
      searches = searched_for c.law.ensures c.loop-found.invariant c.search.ensures.goes (omega arith)
          c.in-Some.ensures.found.traverses
          c.search.new.self.used 0 (steps_to_compare c.args.wanted + 3) (omega arith) (omega arith);
    }

pub returns-in-Ok-clause-met : goal.returns-in-Ok-clause-met
returns-in-Ok-clause-met g c =
    let gone = searched_on c.law.ensures c.loop-found.invariant c.search.ensures.goes in
    let b = c.args.self.now in
    let e = c.ask.new.self in
    let wanted = c.args.wanted in
    let found = wide_found c.loop-found.self c.in-Some.found in
    let there = found_in c.law.ensures c.loop-found.invariant c.search.ensures.goes found c.in-Some.ensures.found in
    let x : ReadsWanted wanted c.search.new.self e found c.in-Ok.field-0 =
    simp c.search.ensures.goes.call.at.slots at c.in-Ok.ensures.wanted in
    let quiet = x.read.quiet in
    let whole = quiet_on gone.goes.quiet quiet in
    let other = sym c.has_wanted.ensures ∙ c.if-has_wanted.false in
    let values = asked_values (knows e.at.stepper.now.trace) c.args.gives wanted found c.in-Ok.field-0
    c.requires.asked.values c.requires.asked.absent other x.is x.known in
    let compared = compare_few (knows e.at.stepper.now.trace) found wanted c.in-Ok.field-0 other x.is x.known in
    let used = x.used in
    record {
      quiet = whole;
      was = was_compared b.key found wanted c.in-Ok.field-0 c.law.ensures.start whole.same quiet x.keeps values
          there other x.is x.known;
      searches = searched_until c.law.ensures gone quiet (steps_to_compare wanted + 3) (omega arith)
          (searched_for c.law.ensures c.loop-found.invariant c.search.ensures.goes (omega arith)
          c.in-Some.ensures.found.traverses e.used (steps_to_compare wanted) (steps_to_compare wanted + 3)
          (omega (arith, compared, used)) (omega arith));
    }

pub returns-in-Otherwise-clause-met : goal.returns-in-Otherwise-clause-met
returns-in-Otherwise-clause-met g c =
    let gone = searched_on c.law.ensures c.loop-found.invariant c.search.ensures.goes in
    let d = c.search.new.self in
    let e = c.ask.new.self in
    let found = wide_found c.loop-found.self c.in-Some.found in
    let few = c.ask.ensures.asks.few in
    let x : TellsOther c.args.gives c.args.wanted d e c.in-Otherwise.there =
    rw c.in-Otherwise.is at c.in-Err.ensures.unmet in
    record {
      tells = record {
        told = otherwise_since c.args.gives c.args.self.now d e c.in-Otherwise.there gone.call.key gone.goes.quiet
            x.told;
        is_not = x.is_not;
      };
      searched = record {
        ended = d.at.stepper.now.trace;
        quiet = gone.goes.quiet;
        to = x.told.seen;
        searches = searched_for c.law.ensures c.loop-found.invariant c.search.ensures.goes (omega arith)
            c.in-Some.ensures.found.traverses e.used 3 6 few (omega arith);
      };
    }
