use Rattle.vbr_list.proofs.Names.{◌≡◌, Err, Ok, rules, refl, answer_unstored, counts_on, had_back, had_on}
use Rattle.vbr_list.proofs.Names.{HasAnswered, HasPrepared, none_back, none_on, there_in, took_all, value_by}
use Rattle.vbr_list.proofs.inserts.Preparing.{within_same}
use Rattle.vbr_list.proofs.stores.StoredValues.{calls_stored, calls_told, calls_unprepared, calls_unstored}
use Rattle.vbr_list.proofs.stores.StoredValues.{ends_prepared, spent_by, value_told}
use Rattle.vbr_list.proofs.storing.store_by.Goals as goal

pub returns-in-Err-clause-calls : goal.returns-in-Err-clause-calls
returns-in-Err-clause-calls g c =
    let same : c.stepper-in-Err-1.given.0 ≡ c.prepare.new.self.at.stepper.now = search rules in
    let prepares = c.prepare.ensures.prepares in
    let none = c.in-Err.ensures.refused in
    rw same (calls_unprepared (value_by c.args.value (Err c.in-Err.refusal)) c.law.ensures
    (ends_prepared refl prepares c.prepare.ensures.tries) none.hand
    c.args.gives _ c.requires.asked prepares.had none.quiet c.in-Err.refusal none.says none.so none.searches)

pub returns-in-Ok-Answered-clause-calls : goal.returns-in-Ok-Answered-clause-calls
returns-in-Ok-Answered-clause-calls g c =
    let same : c.stepper-1.given.0 ≡ c.prepare.new.self.at.stepper.now = search rules in
    let prepares = c.prepare.ensures.prepares in
    let there = c.in-Ok-Answered.there in
    let x : HasAnswered c.args.gives c.args.wanted _ c.prepare.new.self there =
    rw c.in-Ok-Answered.field-0-is at c.in-Ok-Answered.ensures.prepared in
    rw same (calls_told (value_by c.args.value (Ok there)) c.law.ensures
    (ends_prepared refl prepares c.prepare.ensures.tries) x.spent
    c.args.gives _ c.requires.asked prepares.had there x.tells.is_not x.tells.told x.searched)

-- ---- with a slot in hand

pub returns-in-Ok-clause-took : goal.returns-in-Ok-clause-took
returns-in-Ok-clause-took g c =
    let end : c.stepper-in-Ok-1.given.0 ≡ c.store_held.new.self.at.stepper.now = search rules in
    rw end (took_all (counts_on c.prepare.ensures.prepares.counts.counts c.store_held.ensures.counts.counts))

pub returns-in-Ok-clause-calls : goal.returns-in-Ok-clause-calls
returns-in-Ok-clause-calls g c =
    let same : c.stepper-in-Ok-1.given.0 ≡ c.store_held.new.self.at.stepper.now = search rules in
    let x = c.store_held.ensures in
    let prepares = c.prepare.ensures.prepares in
    let stored = c.in-Ok.ensures.stored in
    let ready : HasPrepared c.args.wanted _ c.prepare.new.self c.in-Ok-Ready.hand =
    rw c.in-Ok-Ready.field-0-is at c.in-Ok-Ready.ensures.prepared in
    let there = c.in-Ok.there in
    rw same (calls_stored {d = c.prepare.new.self} c.store_held.new.self.at.stepper.now
    (value_by c.args.value (Ok there)) c.args.wanted c.store_held.new.self.used c.law.ensures refl prepares
    c.prepare.ensures.tries ready
    (rw prepares.call.budget at x.counts) x.takes_no_slot (spent_by stored) c.args.gives _ c.requires.asked
    c.in-Ok-Ready.hand there stored.is (rw c.in-Ok.is at x.had) (rw (value_told c.args.value there) at stored.stores))

pub returns-in-Ok-clause-changed : goal.returns-in-Ok-clause-changed
returns-in-Ok-clause-changed g c = c.in-Ok.ensures.stored.is

pub returns-in-Err-store_held : goal.returns-in-Err-store_held
returns-in-Err-store_held g c =
    let same : c.stepper-in-Err-store_held-1.given.0 ≡ c.give_back.new.at.stepper.now = search rules in
    let counts = within_same c.give_back.ensures.back.trace c.store_held.ensures.counts in
    let d = c.prepare.new.self in
    let e = c.store_held.new.self in
    let q = e.at.stepper.now in
    let r = c.give_back.new.at.stepper.now in
    let x = c.store_held.ensures in
    let prepares = c.prepare.ensures.prepares in
    let back = c.give_back.ensures.back in
    let kept = c.in-Err-store_held.ensures.kept in
    let why = c.in-Err-store_held.why in
    let slot = c.in-Err-store_held.back.slot in
    let ready : HasPrepared c.args.wanted _ d c.in-Ok-Ready.hand =
    rw c.in-Ok-Ready.field-0-is at c.in-Ok-Ready.ensures.prepared in
    let had = had_on d.at.stepper.now q r (rw c.in-Err-store_held.is at x.had)
    (had_back q r slot kept.has.is.slot back.pool) in
    record {
      took = rw same (took_all (counts_on prepares.counts.counts counts.counts));
      calls = rw (same, c.answer.ensures) (calls_unstored {d = d} r
          (value_by c.args.value (there_in (answer_unstored why))) c.args.wanted e.used c.law.ensures refl prepares
          c.prepare.ensures.tries ready (rw prepares.call.budget at (within_same back.trace x.counts))
          (none_on x.takes_no_slot (none_back q r slot back.trace back.pool back.kept)) back.hand c.args.gives _
          c.requires.asked back.trace had why kept.is_not kept.says);
      changed = rw c.answer.ensures kept.is_not;
    }
