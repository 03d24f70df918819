use Rattle.vbr_list.proofs.Names.{refl, ◌≡◌, Some, rules, arith, sym, ap, ◌∙◌, subst, adds_on, AddsAnswer, answer_on}
use Rattle.vbr_list.proofs.Names.{Call, Get, given_call, given_in, held_kept, knows, loads_on, quiet_on}
use Rattle.vbr_list.proofs.Names.{said_rollback, Start, steps_to_value_of, steps_where, wide_held}
use Rattle.vbr_list.proofs.pieces.Going.{goes_counted}
use Rattle.vbr_list.proofs.traversals.Disturbing.{loses_later, loses_link, loses_value}
use Rattle.vbr_list.proofs.traversals.Reaching.{key_kept}
use Rattle.vbr_list.proofs.look_ups.Sights.{keyed_slot}
use Rattle.vbr_list.proofs.inserts.Sufficing.{any_error}
use Rattle.vbr_list.proofs.pieces.Told.{given_kept, told_since}
use Rattle.vbr_list.proofs.look_ups.ValueReads.{few_read, settles_read, steps_read}
use Rattle.vbr_list.proofs.named_entries.EntryAnswers.{held_entry_since, held_value_since}
use Rattle.vbr_list.proofs.call.PendingCall.give_value.Goals as goal

pub value_if_any-read-requires : goal.value_if_any-read-requires
value_if_any-read-requires g c =
    let s = c.requires.sight in
    record {
      held = s.0;
      slot = keyed_slot (knows c.args.self.now.at.stepper.now.trace) c.args.node.now.at c.args.self.now.key s.2;
    }

pub confirm_present-outcome-requires : goal.confirm_present-outcome-requires
confirm_present-outcome-requires g c =
    let s = c.requires.sight in
    let keeps = c.in_ok-value.ensures.value.keeps in
    record {
      node = rw c.value_if_any-read.ensures.table.slots (record {
        held = held_kept (wide_held c.args.self.now c.args.node.now) keeps s.0;
        key = (c.args.self.now.key, key_kept c.args.node.now.at c.args.self.now.key keeps s.2);
        unmarked = s.1;
      });
      op = λ e. absurd (cc);
      asked = λ get.
          let same = ap (λ (d : Start). d.shape.values) c.value_if_any-read.ensures.reads.quiet.same.start in
          (same ∙ c.requires.values, (c.in_ok-value.value, c.in_ok-value.ensures.value.value c.requires.values));
    }

pub returns-in_err-value-clause-settles : goal.returns-in_err-value-clause-settles
returns-in_err-value-clause-settles g c =
    let reads = c.value_if_any-read.ensures.reads in
    let steps = steps_read c.steps_to_value_of.ensures c.value_if_any-read.new.at.own.1 reads.quiet.same.start in
    let first = goes_counted c.args.self.now.used c.steps_to_value_of.result
    (steps_to_value_of c.args.self.now.at.stepper.now.trace.start) steps reads in
    let two = steps ∙ ap steps_where c.requires.values in
    record { call = search rules; counts = first.counts; hand = first.hand; more = omega (arith, two) }

pub returns-in_err-value-clause-few : goal.returns-in_err-value-clause-few
returns-in_err-value-clause-few g c =
    let two = few_read _ c.steps_to_value_of.ensures in omega (arith, two)

pub returns-in_err-value-clause-rolls : goal.returns-in_err-value-clause-rolls
returns-in_err-value-clause-rolls g c =
    let reads = c.value_if_any-read.ensures.reads in
    let lost = c.in_err-value.ensures.moved in
    any_error c.from_residual.result
    (λ rollback.
    record {
      quiet = reads.quiet;
      adds_none = reads.adds_none;
      loses = loses_value
          (wide_held c.args.self.now c.args.node.now) _ lost.rolls;
    })

pub returns-in-Ok : goal.returns-in-Ok
returns-in-Ok g c =
    let two = few_read _ c.steps_to_value_of.ensures in
    let p = c.args.self.now.at.stepper.now.trace in
    let q = c.value_if_any-read.new.at.stepper.now.trace in
    let r = c.confirm_present-outcome.new.at.stepper.now.trace in
    let reads = c.value_if_any-read.ensures.reads in
    let key = c.args.self.now.key in
    let value = c.in_ok-value.value in
    let keyed = key_kept c.args.node.now.at key c.in_ok-value.ensures.value.keeps c.requires.sight.2 in
    let answers =
    c.in-Ok.ensures.answers.answers key value keyed (λ get. c.in_ok-value.ensures.value.value c.requires.values) in
    let told : given_call p.who Get key (Some value) ≡ given_in p Get key (Some value) =
    sym (given_kept p Get key c.requires.values (Some value)) in
    let first : given_call q.who Get key (Some value) ≡ given_call p.who Get key (Some value) =
    λ i. given_call (reads.quiet.same.who i) Get key (Some value) in
    record {
      settles = settles_read (search rules) refl c.steps_to_value_of.ensures c.value_if_any-read.new.at.own.1
          reads c.confirm_present-outcome.ensures.keeps.keeps;
      few = omega (arith, two);
      only_loads = loads_on reads.only_loads c.confirm_present-outcome.ensures.keeps.only_loads;
      answers = record {
        answers = record {
          made = told_since reads.quiet (first ∙ told) answers.made;
          adds = subst (λ (call : Call). AddsAnswer call p r) told
              (answer_on (λ who. given_call who Get key (Some value)) reads.quiet.same reads.adds_none answers.adds);
        };
        value = value;
        is = refl;
        zero = λ bare. absurd (cc);
        shows = λ s at_slot. held_entry_since reads.quiet
            ((rw c.value_if_any-read.ensures.table.slots at c.in-Ok.ensures.there).shows s key at_slot keyed);
        stores = λ gives s at_slot. held_value_since reads.quiet
            ((rw c.value_if_any-read.ensures.table.slots at c.in-Ok.ensures.there).stores
            (ap (λ (d : Start). d.shape.values) reads.quiet.same.start ∙ c.requires.values) s key value at_slot keyed
            (c.in_ok-value.ensures.value.value c.requires.values));
      };
      rolls = tt;
    }

pub returns-in-Err : goal.returns-in-Err
returns-in-Err g c =
    let two = few_read _ c.steps_to_value_of.ensures in
    let reads = c.value_if_any-read.ensures.reads in
    let lost = rw c.value_if_any-read.ensures.table.slots at c.in-Err.ensures.lost in
    record {
      settles = settles_read (search rules) refl c.steps_to_value_of.ensures c.value_if_any-read.new.at.own.1
          reads c.confirm_present-outcome.ensures.keeps.keeps;
      few = omega (arith, two);
      only_loads = loads_on reads.only_loads c.confirm_present-outcome.ensures.keeps.only_loads;
      rolls = record {
        quiet = quiet_on reads.quiet lost.quiet;
        adds_none = adds_on reads.adds_none lost.adds_none;
        loses = loses_later (wide_held c.args.self.now c.args.node.now) reads.quiet c.in_ok-value.ensures.value.keeps
            (loses_link (wide_held c.args.self.now c.args.node.now)
            (said_rollback c.args.self.now.at.slots.now c.in-Err.rollback) lost.lost);
      };
      answers = tt;
    }
