use Rattle.vbr_list.proofs.Names.{refl, ◌≡◌, ◌+◌, ℕ, true, false, Some, rules, arith, sym, ap, ◌∙◌, subst, inl, inr}
use Rattle.vbr_list.proofs.Names.{◌⊎◌, At, begins_refl, counts_on, Get, given_call, Goes, held_kept, KeyAt, knows}
use Rattle.vbr_list.proofs.Names.{made_then, Names, no_room, quiet_on, RemovesLate, RemovesSoon, Start}
use Rattle.vbr_list.proofs.Names.{steps_to_value_of, steps_where, wide_found, wide_held}
use Rattle.vbr_list.proofs.traversals.Clearing.{leaves_clear}
use Rattle.vbr_list.proofs.traversals.Disturbing.{moves_epoch, moves_on, run_at}
use Rattle.vbr_list.proofs.removes.Expected.{kept_expected, kept_gets, taken_removes, told_op}
use Rattle.vbr_list.proofs.pieces.Going.{by_either, call_on, goes_counted}
use Rattle.vbr_list.proofs.pieces.KeptHands.{hand_on}
use Rattle.vbr_list.proofs.removes.Marks.{apart, marks_behind}
use Rattle.vbr_list.proofs.traversals.Moments.{cur_is, key_found, key_found_since}
use Rattle.vbr_list.proofs.look_ups.FoundValues.{located_on, value_found}
use Rattle.vbr_list.proofs.removes.Marking.{mark_made, mark_told, marked_found, pred_marked}
use Rattle.vbr_list.proofs.look_ups.ReadFirst.{cur_lost_since, found_lost_since}
use Rattle.vbr_list.proofs.traversals.Reaching.{key_kept, slot_same}
use Rattle.vbr_list.proofs.inserts.Sufficing.{any_error}
use Rattle.vbr_list.proofs.pieces.Told.{given_kept, told_as, told_since}
use Rattle.vbr_list.proofs.look_ups.ValueReads.{few_read, read_then_step, settles_read, slot_at, steps_read}
use Rattle.vbr_list.proofs.look_ups.ValueReads.{valued_since}
use Rattle.vbr_list.proofs.pieces.WideWords.{wide_is}
use Rattle.vbr_list.proofs.call.PendingCall.mark_and_unlink.Goals as goal

pub value_if_any-read-requires-clause-held : goal.value_if_any-read-requires-clause-held
value_if_any-read-requires-clause-held g c = (cur_is c.requires.locates (wide_is c.args.self.now c.in-Some.is)).held

pub value_if_any-read-requires-clause-slot : goal.value_if_any-read-requires-clause-slot
value_if_any-read-requires-clause-slot g c = slot_at (cur_is c.requires.locates (wide_is c.args.self.now c.in-Some.is))

pub mark-outcome-requires-clause-node : goal.mark-outcome-requires-clause-node
mark-outcome-requires-clause-node g c = simp c.value_if_any-read.ensures.table.slots (
    let y = cur_is c.requires.locates (wide_is c.args.self.now c.in-Some.is) in
    let keeps = c.in_ok-value.ensures.value.keeps in
    let there = key_found_since keeps c.requires.locates (wide_is c.args.self.now c.in-Some.is) c.requires.present in
    record {
      held = held_kept (wide_held c.args.self.now c.in-Some.cur) keeps y.held;
      key =
          (c.args.self.now.key, there);
      unmarked = y.unmarked;
    })

pub mark-outcome-requires-clause-valued : goal.mark-outcome-requires-clause-valued
mark-outcome-requires-clause-valued g c = λ has. (
  c.in_ok-value.value,
  valued_since c.value_if_any-read.ensures.reads.quiet.same c.in_ok-value.ensures.value.value has,
)

pub unlink_marked-requires-clause-marked : goal.unlink_marked-requires-clause-marked
unlink_marked-requires-clause-marked g c = simp
    (c.mark-outcome.ensures.table.slots ∙ c.value_if_any-read.ensures.table.slots) (
    let y = cur_is c.requires.locates (wide_is c.args.self.now c.in-Some.is) in
    let read = c.in_ok-value.ensures.value in
    let there = key_found_since read.keeps c.requires.locates (wide_is c.args.self.now c.in-Some.is)
    c.requires.present in
    let mark = c.mark-outcome.ensures.keeps in
    let removed = simp c.value_if_any-read.ensures.table.slots at c.in_ok-marked.ensures.removed in
    let pred = pred_marked c.requires.locates (wide_is c.args.self.now c.in-Some.is) c.requires.present
    c.value_if_any-read.ensures.reads read
    removed mark.keeps in
    let P : At → Type 0 = λ place. KeyAt (knows c.mark-outcome.new.at.stepper.now.trace) place c.args.self.now.key in
    let Q : ℕ → Type 0 = Names (wide_held c.args.self.now c.args.found.now.pred) in
    record {
      may = record {
        held = pred.held;
        unmarked = pred.unmarked;
        marked = removed.held;
        names = subst Q (slot_same c.in_ok-marked.marked.slot y.slot (removed.place ∙ y.place)) y.named;
      };
      key = subst P (sym removed.place) (key_kept c.in-Some.cur.at c.args.self.now.key mark.keeps there);
      behind = pred.behind;
    })

pub returns-in_err-value-clause-settles : goal.returns-in_err-value-clause-settles
returns-in_err-value-clause-settles g c =
    let p = c.args.self.now.at.stepper.now in
    let q = c.value_if_any-read.new.at.stepper.now in
    let reads = c.value_if_any-read.ensures.reads in
    let steps = steps_read c.steps_to_value_of.ensures c.value_if_any-read.new.at.own.1 reads.quiet.same.start in
    let first : Goes p q c.args.self.now.used (c.args.self.now.used + c.steps_to_value_of.result) =
    goes_counted c.args.self.now.used c.steps_to_value_of.result (steps_to_value_of p.trace.start) steps reads in
    let two = steps ∙ ap steps_where c.in_err-value.ensures.moved.some in
    record { call = search rules; counts = first.counts; hand = first.hand; more = omega (arith, two) }

pub returns-in_err-value-clause-rolls : goal.returns-in_err-value-clause-rolls
returns-in_err-value-clause-rolls g c =
    let lost = c.in_err-value.ensures.moved in
    let p = c.args.self.now.at.stepper.now in
    let q = c.value_if_any-read.new.at.stepper.now in
    let quiet = c.value_if_any-read.ensures.reads.quiet in
    let steps = steps_read c.steps_to_value_of.ensures c.value_if_any-read.new.at.own.1 quiet.same.start in
    let two = steps ∙ ap steps_where lost.some in
    any_error c.from_residual.result
    (λ rollback.
    record {
      quiet = quiet;
      few = omega (arith, two);
      loses = inl (inl (moves_on p.trace q.trace quiet.same quiet.seen (moves_epoch _ lost.rolls)));
    })

-- ---- another value is expected

pub tell_found-requires-clause-knows : goal.tell_found-requires-clause-knows
tell_found-requires-clause-knows g c = simp c.value_if_any-read.ensures.table.slots (
    let reads = c.value_if_any-read.ensures.reads in
    let has = c.requires.expects
    (kept_expected c.args.expected c.in_ok-value.value (sym c.takes_out.ensures ∙ c.if-not-takes_out.true)) in
    record {
      values = ap (λ (d : Start). d.shape.values) reads.quiet.same.start ∙ has;
      locates = located_on c.args.self.now.key (wide_found c.args.self.now c.args.found.now) reads.quiet.same
          c.in_ok-value.ensures.value.keeps
          c.requires.locates;
      is = value_found (wide_found c.args.self.now c.args.found.now) (wide_held c.args.self.now c.in-Some.cur)
          c.requires.present (wide_is c.args.self.now c.in-Some.is)
          (c.in_ok-value.ensures.value.value has);
    })

pub returns-in_err-tell_found-clause-settles : goal.returns-in_err-tell_found-clause-settles
returns-in_err-tell_found-clause-settles g c =
    settles_read (call_on (search rules) c.tell_found.ensures.call) c.tell_found.ensures.used
    c.steps_to_value_of.ensures c.value_if_any-read.new.at.own.1 c.value_if_any-read.ensures.reads
    c.tell_found.ensures.keeps

pub returns-then-not-takes_out-clause-settles : goal.returns-then-not-takes_out-clause-settles
returns-then-not-takes_out-clause-settles g c =
    settles_read (call_on (search rules) c.tell_found.ensures.call) c.tell_found.ensures.used
    c.steps_to_value_of.ensures c.value_if_any-read.new.at.own.1 c.value_if_any-read.ensures.reads
    c.tell_found.ensures.keeps

pub returns-in_err-tell_found-clause-rolls : goal.returns-in_err-tell_found-clause-rolls
returns-in_err-tell_found-clause-rolls g c =
    let reads = c.value_if_any-read.ensures.reads in
    let lost = simp c.value_if_any-read.ensures.table.slots at c.in_err-tell_found.ensures.lost in
    let two = few_read _ c.steps_to_value_of.ensures in
    let one = c.tell_found.ensures.used in
    any_error c.from_residual-in_err-tell_found.result (λ rollback. record {
      quiet = quiet_on reads.quiet lost.quiet;
      few = omega (arith, two, one);
      loses = found_lost_since (wide_found c.args.self.now c.args.found.now) c.law.ensures reads
          c.in_ok-value.ensures.value.keeps lost.loses;
    })

pub returns-then-not-takes_out-clause-answers : goal.returns-then-not-takes_out-clause-answers
returns-then-not-takes_out-clause-answers g c =
    let reads = c.value_if_any-read.ensures.reads in
    let p = c.args.self.now.at.stepper.now.trace in
    let key = c.args.self.now.key in
    let there = Some c.in_ok-value.value in
    let kept = sym c.takes_out.ensures ∙ c.if-not-takes_out.true in
    let some = kept_expected c.args.expected c.in_ok-value.value kept in
    let steps = steps_read c.steps_to_value_of.ensures c.value_if_any-read.new.at.own.1 reads.quiet.same.start in
    let one = c.tell_found.ensures.used in
    record {
      made = told_since reads.quiet
          ((λ i. given_call (reads.quiet.same.who i) Get key there)
          ∙ sym (given_kept p Get key (c.requires.expects some) there)
          ∙ told_op p key there (sym (kept_gets c.args.expected there some kept))) c.in_ok-tell_found.ensures.told;
      changed = kept;
      marks = λ yes. absurd (let no : true ≡ false = sym yes ∙ kept in cc);
      unlists = λ yes room. absurd (let no : true ≡ false = sym yes ∙ kept in cc);
      paid = inl (record {
        few = omega (arith, steps, one);
        leaves = λ yes room. absurd (let no : true ≡ false = sym yes ∙ kept in cc);
      });
    }

-- ---- it is taken out

pub returns-in_err-marked-clause-settles : goal.returns-in_err-marked-clause-settles
returns-in_err-marked-clause-settles g c =
    settles_read (search rules) refl c.steps_to_value_of.ensures c.value_if_any-read.new.at.own.1
    c.value_if_any-read.ensures.reads c.mark-outcome.ensures.keeps

pub returns-in_err-marked-clause-rolls : goal.returns-in_err-marked-clause-rolls
returns-in_err-marked-clause-rolls g c =
    let reads = c.value_if_any-read.ensures.reads in
    let lost = simp c.value_if_any-read.ensures.table.slots at c.in_err-marked.ensures.lost in
    let two = few_read _ c.steps_to_value_of.ensures in
    any_error c.from_residual-in_err-marked.result (λ rollback. record {
      quiet = quiet_on reads.quiet lost.quiet;
      few = omega (arith, two);
      loses = cur_lost_since (wide_found c.args.self.now c.args.found.now) c.law.ensures reads
          c.in_ok-value.ensures.value.keeps (wide_is c.args.self.now c.in-Some.is) lost;
    })

pub returns-then-affords-clause-settles : goal.returns-then-affords-clause-settles
returns-then-affords-clause-settles g c =
    let then = read_then_step c.args.self.now.used c.steps_to_value_of.result c.steps_to_value_of.ensures
    c.value_if_any-read.new.at.own.1 c.value_if_any-read.ensures.reads c.mark-outcome.ensures.keeps in
    let more = c.unlink_marked.ensures.goes in
    let least = more.more in
    record {
      call = search rules;
      counts = counts_on then.0 more.goes.counts;
      hand = hand_on then.1 more.goes.hand;
      more = omega (arith, least);
    }

pub returns-then-affords-clause-answers : goal.returns-then-affords-clause-answers
returns-then-affords-clause-answers g c =
    let f = wide_found c.args.self.now c.args.found.now in
    let key = key_found c.requires.locates (wide_is c.args.self.now c.in-Some.is) c.requires.present in
    let reads = c.value_if_any-read.ensures.reads in
    let read = c.in_ok-value.ensures.value in
    let removed = simp c.value_if_any-read.ensures.table.slots at c.in_ok-marked.ensures.removed in
    let made = mark_made c.requires.locates (wide_is c.args.self.now c.in-Some.is) c.requires.present reads read
    removed in
    let told = mark_told c.requires.locates (wide_is c.args.self.now c.in-Some.is) c.requires.present reads read
    removed in
    let taken = taken_removes c.args.expected (Some c.in_ok-value.value)
    (sym c.takes_out.ensures ∙ c.if-not-takes_out.false) in
    let then = c.unlink_marked.ensures.goes.goes.quiet in
    let p = c.args.self.now.at.stepper.now in
    let q = c.value_if_any-read.new.at.stepper.now in
    let r = c.mark-outcome.new.at.stepper.now in
    let steps = steps_read c.steps_to_value_of.ensures c.value_if_any-read.new.at.own.1 reads.quiet.same.start in
    let mark = c.mark-outcome.ensures.keeps in
    let pred = pred_marked c.requires.locates (wide_is c.args.self.now c.in-Some.is) c.requires.present reads read
    removed mark.keeps in
    let E : Type 0 =
    RemovesSoon c.args.expected c.args.self.now c.unlink_marked.new.self (Some c.in_ok-value.value) ⊎
    RemovesLate c.args.expected c.args.self.now c.unlink_marked.new.self f (Some c.in_ok-value.value) in
    record {
      made = told_as
          (told_op c.args.self.now.at.stepper.now.trace c.args.self.now.key (Some c.in_ok-value.value) (sym taken))
          (made_then told then);
      changed = sym c.takes_out.ensures ∙ c.if-not-takes_out.false;
      marks = λ yes. marked_found c.requires.locates (wide_is c.args.self.now c.in-Some.is) c.requires.present reads
          read removed
          (simp c.value_if_any-read.ensures.table.slots at c.in_ok-marked.ensures.there) then.seen;
      paid = by_either {C = E} (simp (c.mark-outcome.ensures.table.slots ∙ c.value_if_any-read.ensures.table.slots) at
          c.unlink_marked.ensures.paid)
          (λ soon. inl
          (record {
            few = let few = soon.few in omega (arith, few, steps);
            leaves = λ yes room. leaves_clear c.law.ensures.start told then.same (soon.clear removed.out);
          }))
          (λ on. inr (record {
            taken = sym c.takes_out.ensures ∙ c.if-not-takes_out.false;
            late = record {
              marked = r.trace;
              marks = marks_behind p.trace q.trace r.trace c.args.self.now.key f.pred
                  (wide_held c.args.self.now c.in-Some.cur) c.law.ensures.start
                  (run_at p.trace r.trace told.same told.is_run) reads.quiet reads.adds_none made.same removed.leaves
                  (apart p.trace c.law.ensures.start c.law.ensures.is_run f.pred.at c.in-Some.cur.at c.args.self.now.key
                  c.requires.locates.pred.behind key)
                  (mark.keeps.epoch ∙ read.keeps.epoch) (mark.takes_no_slot.count ∙ reads.takes_no_slot.count)
                  pred.held pred.unmarked pred.inside;
              used = c.args.self.now.used + c.steps_to_value_of.result + 1;
              few = omega (arith, steps);
              searches = on;
            };
          }));
      unlists = λ yes room. leaves_clear c.law.ensures.start told then.same
          (c.unlink_marked.ensures.clear removed.out room);
    }

pub returns-else-affords-clause-settles : goal.returns-else-affords-clause-settles
returns-else-affords-clause-settles g c =
    let then = read_then_step c.args.self.now.used c.steps_to_value_of.result c.steps_to_value_of.ensures
    c.value_if_any-read.new.at.own.1 c.value_if_any-read.ensures.reads c.mark-outcome.ensures.keeps in
    record { call = search rules; counts = then.0; hand = then.1; more = omega arith }

pub returns-else-affords-clause-answers : goal.returns-else-affords-clause-answers
returns-else-affords-clause-answers g c =
    let reads = c.value_if_any-read.ensures.reads in
    let told = mark_told c.requires.locates (wide_is c.args.self.now c.in-Some.is) c.requires.present reads
    c.in_ok-value.ensures.value
    (simp c.value_if_any-read.ensures.table.slots at c.in_ok-marked.ensures.removed) in
    let taken = taken_removes c.args.expected (Some c.in_ok-value.value)
    (sym c.takes_out.ensures ∙ c.if-not-takes_out.false) in
    let steps = steps_read c.steps_to_value_of.ensures c.value_if_any-read.new.at.own.1 reads.quiet.same.start in
    let short = no_room (c.args.self.now.used + c.steps_to_value_of.result + 1) c.args.self.now.budget c.affords.result
    c.if-affords.false c.affords.ensures.1 in
    record {
      made = told_as
          (told_op c.args.self.now.at.stepper.now.trace c.args.self.now.key (Some c.in_ok-value.value) (sym taken))
          told;
      changed = sym c.takes_out.ensures ∙ c.if-not-takes_out.false;
      marks = λ yes. marked_found c.requires.locates (wide_is c.args.self.now c.in-Some.is) c.requires.present reads
          c.in_ok-value.ensures.value
          (simp c.value_if_any-read.ensures.table.slots at c.in_ok-marked.ensures.removed)
          (simp c.value_if_any-read.ensures.table.slots at c.in_ok-marked.ensures.there)
          (begins_refl c.mark-outcome.new.at.stepper.now.trace.seen);
      paid = inl (record {
        few = omega (arith, steps);
        leaves = λ yes room. absurd (omega (arith, steps, short, room));
      });
      unlists = λ yes room. (let w : false ≡ true = sym c.if-affords.false ∙ c.affords.ensures.1 room in absurd (cc));
    }
