use Rattle.vbr_list.proofs.Names.{◌≡◌, ℕ, true, false, Option, Some, None, ap, arith, sym, subst, ◌∙◌, begins_refl}
use Rattle.vbr_list.proofs.Names.{Found, Ghosts, IsStart, KnowsFoundValue, KnowsThere, none_on, PendingCall, quiet_on}
use Rattle.vbr_list.proofs.Names.{ReplacedEntry, Start, WasOther, wide_found}
use Rattle.vbr_list.proofs.look_ups.FoundValues.{asks_read}
use Rattle.vbr_list.proofs.stores.Settled.{leaves_since, settles_since, stores_since}
use Rattle.vbr_list.proofs.stores.Stores.{hand_kept}
use Rattle.vbr_list.proofs.pieces.Going.{call_on, less_left, within_call}
use Rattle.vbr_list.proofs.inserts.Linking.{begun, counts_until, has_until, located, none_until, quiet_until}
use Rattle.vbr_list.proofs.named_entries.OtherEntries.{other_since, was_other}
use Rattle.vbr_list.proofs.inserts.Preparing.{within_on}
use Rattle.vbr_list.proofs.named_entries.ReplacedEntries.{entry_since}
use Rattle.vbr_list.proofs.stores.SettledSoon.{held_asked, held_finds, held_lost, held_stores, searched_out}
use Rattle.vbr_list.proofs.stores.SettledSoon.{takes_settled}
use Rattle.vbr_list.proofs.pieces.WideWords.{node_bare, node_wide}
use Rattle.vbr_list.proofs.call.PendingCall.replace_entry.Goals as goal

pub returns-in_default : goal.returns-in_default
returns-in_default g c =
    let so = c.loop-found.invariant.0 in
    let went = c.reach.ensures.goes in
    let x = searched_out c.law.ensures so went c.in_default.ensures.tired 12 (omega arith, omega arith) in
    record {
      call = begun so went;
      counts = counts_until so went;
      takes_no_slot = none_until so went;
      replaced = tt;
      kept = record {
        same = c.loop-found.invariant.1;
        has = has_until so went;
        quiet = quiet_until so went;
        says = record { short = x.0; searches = x.1; lacks = x.2 };
      };
    }

pub returns-then-not-is_node_of : goal.returns-then-not-is_node_of
returns-then-not-is_node_of g c =
    let so = c.loop-found.invariant.0 in
    let went = c.reach.ensures.goes in
    let found = c.in-Some.ensures.found in
    let start = subst IsStart (sym so.1.same.start) c.law.ensures.start in
    let W : ℕ → Type 0 =
    λ k. WasOther c.loop-found.self.at.stepper.now.trace c.reach.new.self.at.stepper.now.trace k c.args.entry.now in
    let was = was_other start went.goes.quiet.same found.found c.args.entry.now
    (λ is. c.is_node_of.ensures.is_not c.if-not-is_node_of.true (node_bare c.loop-found.self c.in-Some.found is)) in
    record {
      call = begun so went;
      counts = counts_until so went;
      takes_no_slot = none_until so went;
      replaced = tt;
      kept = record {
        same = c.loop-found.invariant.1;
        has = has_until so went;
        quiet = quiet_until so went;
        says = held_finds {b = c.args.self.now} c.law.ensures so went
            (wide_found c.loop-found.self c.in-Some.found) found c.args.entry.now
            (other_since so.1 (subst W so.0.key was));
      };
    }

-- ---- this entry is there

pub read_found-requires-clause-values : goal.read_found-requires-clause-values
read_found-requires-clause-values g c =
    let same = (quiet_until c.loop-found.invariant.0 c.reach.ensures.goes).same in
    ap (λ (d : Start). d.shape.values) same.start ∙ c.requires.values

pub read_found-requires-clause-locates : goal.read_found-requires-clause-locates
read_found-requires-clause-locates g c =
    simp c.reach.ensures.goes.call.at.slots
    (located c.reach.ensures.goes (wide_found c.loop-found.self c.in-Some.found) c.in-Some.ensures.found)

pub loop-found-preserved-in_default-read_found : goal.loop-found-preserved-in_default-read_found
loop-found-preserved-in_default-read_found g c =
    let r = c.read_found.ensures in
    let lost = simp c.reach.ensures.goes.call.at.slots at c.in_default-read_found.ensures.lost in (
      held_asked 8 (omega arith) {b = c.args.self.now} c.law.ensures c.loop-found.invariant.0 c.reach.ensures.goes
          (asks_read c.in-Some.found.present r.call r.used r.reads) r.reads.quiet
          (wide_found c.loop-found.self c.in-Some.found) c.in-Some.ensures.found lost.loses,
      c.loop-found.invariant.1,
    )

pub loop-found-smaller-in_default-read_found : goal.loop-found-smaller-in_default-read_found
loop-found-smaller-in_default-read_found g c =
    let used = rw c.in_default-read_found.ensures.lost.present at c.read_found.ensures.used in
    less_left c.reach.ensures.goes c.read_found.ensures.call (omega (arith, used))

-- what was found present has a value there
value_there : {N : Type 0} {kind : Ghosts N} {c : PendingCall N kind} (found : Found) (there : Option ℕ) →
    found.present ≡ true → KnowsThere c found there → KnowsFoundValue c found
value_there found (Some old) present k = (old, k)
value_there found None present k = absurd (let no : found.present ≡ false = k.is in cc)

pub replace_and_unlink-requires-clause-read : goal.replace_and_unlink-requires-clause-read
replace_and_unlink-requires-clause-read g c =
    simp c.read_found.ensures.call.at.slots
    (value_there {c = c.read_found.new.self} (wide_found c.reach.new.self c.in-Some.found) c.in-Ok.field-0
    (c.is_node_of.ensures.is c.if-not-is_node_of.false).present c.in-Ok.ensures.found.known)

pub replace_and_unlink-requires-clause-hand : goal.replace_and_unlink-requires-clause-hand
replace_and_unlink-requires-clause-hand g c =
    let r = c.read_found.ensures in
    let asks = asks_read {c = c.reach.new.self} {d = c.read_found.new.self} c.in-Some.found.present r.call r.used
    r.reads in
    hand_kept c.loop-found.hand asks.hand (has_until c.loop-found.invariant.0 c.reach.ensures.goes)

pub returns-in-Ok-replace_and_unlink : goal.returns-in-Ok-replace_and_unlink
returns-in-Ok-replace_and_unlink g c =
    let so = c.loop-found.invariant.0 in
    let went = c.reach.ensures.goes in
    let b = c.args.self.now in
    let d = c.reach.new.self in
    let e = c.read_found.new.self in
    let f = c.replace_and_unlink.new.self in
    let found = wide_found c.loop-found.self c.in-Some.found in
    let node = node_wide c.loop-found.self (c.is_node_of.ensures.is c.if-not-is_node_of.false) in
    let r = simp went.call.at.slots at c.read_found.ensures in
    let read = simp went.call.at.slots at c.in-Ok.ensures.found in
    let there = value_there {c = e} found c.in-Ok.field-0 node.present read.known in
    let x = (simp (r.call.at.slots ∙ went.call.at.slots) at c.in-Ok-replace_and_unlink.ensures.replaced) there.0 there.1
    in
    let p = e.at.stepper.now.trace in
    let q = f.at.stepper.now.trace in
    let K : ℕ → Type 0 =
    λ k. ReplacedEntry p.start p.seen q.seen p.who c.args.entry.now.slot node.node.birth k there.0 in
    let B : ℕ → Type 0 = λ n. ReplacedEntry p.start p.seen q.seen p.who c.args.entry.now.slot n b.key there.0 in
    let law = c.law-in-loop-found.ensures in
    let settles = c.replace_and_unlink.ensures.settles in
    let y = takes_settled (settles_since d e f found law r.call r.used r.reads read.keeps settles) in
    let same = call_on (begun so went) y.call in
    record {
      call = same;
      counts = within_on (counts_until so went) y.counts y.more (within_call same);
      takes_no_slot = none_on (none_until so went) y.takes_no_slot;
      replaced = record {
        old = there.0;
        stores = held_stores b c.loop-found.self d f c.law.ensures so went found c.in-Some.ensures.found
            (call_on r.call settles.call) c.args.value (Some there.0) c.loop-found.invariant.1
            (stores_since d e f found law r.call r.used r.reads read.keeps c.args.value there.0 c.loop-found.hand
            x.stores);
        gone = entry_since q q (quiet_on (quiet_until so went) r.reads.quiet) (begins_refl q.seen)
            (subst B node.birth (subst K (call_on (begun so went) r.call).key
            (x.entry node.node node.cur c.args.entry.now.slot node.place)));
      };
      kept = tt;
    }

pub loop-found-preserved : goal.loop-found-preserved
loop-found-preserved g c =
    let went = c.reach.ensures.goes in
    let d = c.reach.new.self in
    let e = c.read_found.new.self in
    let f = c.replace_and_unlink.new.self in
    let found = wide_found c.loop-found.self c.in-Some.found in
    let node = node_wide c.loop-found.self (c.is_node_of.ensures.is c.if-not-is_node_of.false) in
    let r = simp went.call.at.slots at c.read_found.ensures in
    let read = simp went.call.at.slots at c.in-Ok.ensures.found in
    let there = value_there {c = e} found c.in-Ok.field-0 node.present read.known in
    let back = simp (r.call.at.slots ∙ went.call.at.slots) at c.in-Err.ensures.back in
    let law = c.law-in-loop-found.ensures in
    held_lost 8 {b = c.args.self.now} c.law.ensures c.loop-found.invariant.0 went found c.in-Some.ensures.found
    c.loop-found.invariant.1
    (settles_since d e f found law r.call r.used r.reads read.keeps c.replace_and_unlink.ensures.settles)
    (leaves_since d e f found law r.call r.used r.reads read.keeps true c.loop-found.hand c.in-Err.back (Some there.0)
    (λ none. absurd (cc)) there.1.is back)
