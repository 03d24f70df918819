use Rattle.vbr_list.proofs.Names.{ℕ, None, refl, Some, ap, subst, ◌∙◌, AskLoses, had_on, none_on, quiet_on, Start}
use Rattle.vbr_list.proofs.Names.{StoresWanted, TellsOther, value_after, wide_found}
use Rattle.vbr_list.proofs.pieces.Going.{call_on, less_left, within_call}
use Rattle.vbr_list.proofs.inserts.Linking.{begun, counts_until, had_until, has_until, located, none_until}
use Rattle.vbr_list.proofs.inserts.Linking.{quiet_until}
use Rattle.vbr_list.proofs.inserts.Preparing.{within_on}
use Rattle.vbr_list.proofs.stores.HeldStores.{absent_none, counts_changed, had_changed, knows_old, none_changed}
use Rattle.vbr_list.proofs.stores.HeldStores.{stored_as, three_lost, tired_out, told_other}
use Rattle.vbr_list.proofs.stores.Settled.{changes_since, each_lost, leaves_since, settles_since}
use Rattle.vbr_list.proofs.stores.SettledSoon.{had_asked, held_asked, held_lost}
use Rattle.vbr_list.proofs.stores.Stores.{hand_kept}
use Rattle.vbr_list.proofs.call.PendingCall.store_held.Goals as goal

-- ---- no steps are left

pub returns-in_default : goal.returns-in_default
returns-in_default g c =
    let so = c.loop-found.invariant.0 in
    let went = c.reach.ensures.goes in
    record {
      call = begun so went;
      counts = counts_until so went;
      takes_no_slot = none_until so went;
      had = had_until so went;
      stored = tt;
      kept = record {
        same = c.loop-found.invariant.1;
        has = has_until so went;
        is_not = tt;
        says = tired_out c.args.wanted c.args.self.now c.loop-found.self c.reach.new.self c.law.ensures went
            c.args.gives so c.in_default.ensures.tired;
      };
    }

-- ---- what was there is asked

pub ask-requires-clause-asked : goal.ask-requires-clause-asked
ask-requires-clause-asked g c =
    let same = (quiet_until c.loop-found.invariant.0 c.reach.ensures.goes).same in
    record {
      values = λ gives. ap (λ (d : Start). d.shape.values) same.start ∙ c.requires.asked.values gives;
      absent = c.requires.asked.absent;
    }

pub ask-requires-clause-locates : goal.ask-requires-clause-locates
ask-requires-clause-locates g c =
    simp c.reach.ensures.goes.call.at.slots
    (located c.reach.ensures.goes (wide_found c.loop-found.self c.in-Some.found) c.in-Some.ensures.found)

pub loop-found-preserved-in-Changed : goal.loop-found-preserved-in-Changed
loop-found-preserved-in-Changed g c =
    let lost = simp c.reach.ensures.goes.call.at.slots at (rw c.in-Changed.is at c.in-Err.ensures.unmet) in (
      held_asked (each_lost c.args.gives) (three_lost c.args.gives) {b = c.args.self.now} c.law.ensures
          c.loop-found.invariant.0 c.reach.ensures.goes c.ask.ensures.asks lost.quiet
          (wide_found c.loop-found.self c.in-Some.found) c.in-Some.ensures.found lost.loses,
      c.loop-found.invariant.1,
    )

pub loop-found-smaller-in-Changed : goal.loop-found-smaller-in-Changed
loop-found-smaller-in-Changed g c =
    let lost : AskLoses c.reach.new.self c.ask.new.self (wide_found c.reach.new.self c.in-Some.found) =
    rw c.in-Changed.is at c.in-Err.ensures.unmet in
    less_left c.reach.ensures.goes c.ask.ensures.asks.call lost.more

pub returns-in-Otherwise : goal.returns-in-Otherwise
returns-in-Otherwise g c =
    let so = c.loop-found.invariant.0 in
    let went = c.reach.ensures.goes in
    let asks = c.ask.ensures.asks in
    let d = c.reach.new.self in
    let e = c.ask.new.self in
    let same = call_on (begun so went) asks.call in
    let told : TellsOther c.args.gives c.args.wanted d e c.in-Otherwise.there =
    rw c.in-Otherwise.is at c.in-Err.ensures.unmet in
    record {
      call = same;
      counts = within_on (counts_until so went) asks.counts asks.more (within_call same);
      takes_no_slot = none_on (none_until so went) asks.hand.takes_no_slot;
      had = had_on c.args.self.now.at.stepper.now d.at.stepper.now e.at.stepper.now (had_until so went)
          (had_asked asks);
      stored = tt;
      kept = record {
        same = c.loop-found.invariant.1;
        has = hand_kept c.loop-found.hand asks.hand (has_until so went);
        is_not = told.is_not;
        says = told_other c.args.wanted c.args.self.now c.loop-found.self d c.law.ensures went c.args.gives so
            (wide_found c.loop-found.self c.in-Some.found) c.in-Some.ensures.found e asks c.in-Otherwise.there told;
      };
    }

-- ---- the key is absent, as it is wanted

pub link_found-requires-clause-locates : goal.link_found-requires-clause-locates
link_found-requires-clause-locates g c =
    let x = simp c.reach.ensures.goes.call.at.slots at c.in-Ok.ensures.wanted in
    simp (c.ask.ensures.asks.call.at.slots ∙ c.reach.ensures.goes.call.at.slots) x.locates

pub link_found-requires-clause-absent : goal.link_found-requires-clause-absent
link_found-requires-clause-absent g c =
    let x = rw c.in-None.is at c.in-Ok.ensures.wanted in x.known

pub link_found-requires-clause-hand : goal.link_found-requires-clause-hand
link_found-requires-clause-hand g c =
    hand_kept c.loop-found.hand c.ask.ensures.asks.hand (has_until c.loop-found.invariant.0 c.reach.ensures.goes)

pub returns-in-Ok-link_found : goal.returns-in-Ok-link_found
returns-in-Ok-link_found g c =
    let so = c.loop-found.invariant.0 in
    let went = c.reach.ensures.goes in
    let asks = c.ask.ensures.asks in
    let settles = c.link_found.ensures.settles in
    let linked = c.in-Ok-link_found.ensures.linked in
    let d = c.reach.new.self in
    let e = c.ask.new.self in
    let f = c.link_found.new.self in
    let found = wide_found c.loop-found.self c.in-Some.found in
    let x = rw c.in-None.is at (simp went.call.at.slots at c.in-Ok.ensures.wanted) in
    let S : ℕ → Type 0 = λ value. StoresWanted c.args.gives value c.args.wanted c.args.self.now f c.args.hand None in
    record {
      call = call_on (call_on (begun so went) asks.call) settles.call;
      counts = counts_changed so went asks settles;
      takes_no_slot = none_changed so went asks settles;
      had = had_changed so went asks f.at.stepper.now linked.had;
      stored = subst S (c.after-stored.ensures ∙ ap (value_after c.args.value) c.in-None.is)
          (stored_as c.args.wanted c.args.self.now c.loop-found.self d c.law.ensures went c.after-stored.result
          c.args.gives so found c.in-Some.ensures.found c.loop-found.invariant.1 f (call_on asks.call settles.call)
          c.requires.asked.values None x.is (λ none. refl)
          (changes_since d e f found c.law-in-loop-found.ensures asks.call x.used x.read x.keeps c.after-stored.result
          c.loop-found.hand None x.known linked));
      kept = tt;
    }

pub loop-found-preserved-in-Err-link_found : goal.loop-found-preserved-in-Err-link_found
loop-found-preserved-in-Err-link_found g c =
    let went = c.reach.ensures.goes in
    let d = c.reach.new.self in
    let e = c.ask.new.self in
    let f = c.link_found.new.self in
    let found = wide_found c.loop-found.self c.in-Some.found in
    let x = rw c.in-None.is at (simp went.call.at.slots at c.in-Ok.ensures.wanted) in
    let call = c.ask.ensures.asks.call in
    let back = simp (call.at.slots ∙ went.call.at.slots) at c.in-Err-link_found.ensures.back in
    let law = c.law-in-loop-found.ensures in
    held_lost (each_lost c.args.gives) {b = c.args.self.now} c.law.ensures c.loop-found.invariant.0 went found
    c.in-Some.ensures.found c.loop-found.invariant.1
    (settles_since d e f found law call x.used x.read x.keeps c.link_found.ensures.settles)
    (leaves_since d e f found law call x.used x.read x.keeps c.args.gives c.loop-found.hand c.in-Err-link_found.back
    None (λ none. refl) x.known back)

-- ---- a value is there, as it is wanted

pub replace_and_unlink-requires-clause-read : goal.replace_and_unlink-requires-clause-read
replace_and_unlink-requires-clause-read g c =
    let went = c.reach.ensures.goes in
    let found = wide_found c.loop-found.self c.in-Some.found in
    let old = c.in-Some-there.field-0 in
    let x = rw c.in-Some-there.is at (simp went.call.at.slots at c.in-Ok.ensures.wanted) in
    let same = (quiet_on (quiet_until c.loop-found.invariant.0 went) x.read.quiet).same in
    let asked = c.requires.asked in
    simp (c.ask.ensures.asks.call.at.slots ∙ went.call.at.slots) (
      old,
      knows_old {d = c.reach.new.self} {e = c.ask.new.self} c.args.wanted found c.args.gives old asked.absent
          (λ gives. ap (λ (d : Start). d.shape.values) same.start ∙ asked.values gives) x,
    )

pub replace_and_unlink-requires-clause-hand : goal.replace_and_unlink-requires-clause-hand
replace_and_unlink-requires-clause-hand g c =
    hand_kept c.loop-found.hand c.ask.ensures.asks.hand (has_until c.loop-found.invariant.0 c.reach.ensures.goes)

pub returns-in-Ok-replace_and_unlink : goal.returns-in-Ok-replace_and_unlink
returns-in-Ok-replace_and_unlink g c =
    let so = c.loop-found.invariant.0 in
    let went = c.reach.ensures.goes in
    let asks = c.ask.ensures.asks in
    let settles = c.replace_and_unlink.ensures.settles in
    let d = c.reach.new.self in
    let e = c.ask.new.self in
    let f = c.replace_and_unlink.new.self in
    let found = wide_found c.loop-found.self c.in-Some.found in
    let old = c.in-Some-there.field-0 in
    let x = rw c.in-Some-there.is at (simp went.call.at.slots at c.in-Ok.ensures.wanted) in
    let same = (quiet_on (quiet_until so went) x.read.quiet).same in
    let asked = c.requires.asked in
    let known = knows_old {d = d} {e = e} c.args.wanted found c.args.gives old asked.absent
    (λ gives. ap (λ (d : Start). d.shape.values) same.start ∙ asked.values gives) x in
    let replaced = simp (asks.call.at.slots ∙ went.call.at.slots) at c.in-Ok-replace_and_unlink.ensures.replaced in
    let stores = (replaced old known).stores in
    let none = absent_none c.args.gives c.args.wanted (Some old) asked.absent x.is in
    let S : ℕ → Type 0 =
    λ value. StoresWanted c.args.gives value c.args.wanted c.args.self.now f c.args.hand (Some old) in
    record {
      call = call_on (call_on (begun so went) asks.call) settles.call;
      counts = counts_changed so went asks settles;
      takes_no_slot = none_changed so went asks settles;
      had = had_changed so went asks f.at.stepper.now stores.had;
      stored = rw c.in-Some-there.is
          (subst S (c.after-stored.ensures ∙ ap (value_after c.args.value) c.in-Some-there.is)
          (stored_as c.args.wanted c.args.self.now c.loop-found.self d c.law.ensures went c.after-stored.result
          c.args.gives so found c.in-Some.ensures.found c.loop-found.invariant.1 f (call_on asks.call settles.call)
          asked.values (Some old) x.is none
          (changes_since d e f found c.law-in-loop-found.ensures asks.call x.used x.read x.keeps c.after-stored.result
          c.loop-found.hand (Some old) x.known stores)));
      kept = tt;
    }

pub loop-found-preserved : goal.loop-found-preserved
loop-found-preserved g c =
    let went = c.reach.ensures.goes in
    let d = c.reach.new.self in
    let e = c.ask.new.self in
    let f = c.replace_and_unlink.new.self in
    let found = wide_found c.loop-found.self c.in-Some.found in
    let old = c.in-Some-there.field-0 in
    let x = rw c.in-Some-there.is at (simp went.call.at.slots at c.in-Ok.ensures.wanted) in
    let call = c.ask.ensures.asks.call in
    let back = simp (call.at.slots ∙ went.call.at.slots) at c.in-Err-replace_and_unlink.ensures.back in
    let none = absent_none c.args.gives c.args.wanted (Some old) c.requires.asked.absent x.is in
    let law = c.law-in-loop-found.ensures in
    held_lost (each_lost c.args.gives) {b = c.args.self.now} c.law.ensures c.loop-found.invariant.0 went found
    c.in-Some.ensures.found c.loop-found.invariant.1
    (settles_since d e f found law call x.used x.read x.keeps c.replace_and_unlink.ensures.settles)
    (leaves_since d e f found law call x.used x.read x.keeps c.args.gives c.loop-found.hand
    c.in-Err-replace_and_unlink.back (Some old) none x.known back)
