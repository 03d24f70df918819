use Rattle.vbr_list.proofs.Names.{◌≡◌, Bool, None, Some, true, false, ap, arith, refl, sym, subst, ◌∙◌, counts_none}
use Rattle.vbr_list.proofs.Names.{denied, knows, Made, quiet_on, reads_none, ReadsIn, set_call, steps_where}
use Rattle.vbr_list.proofs.Names.{told_otherwise, Wanted, wants, wide_found}
use Rattle.vbr_list.proofs.look_ups.FoundValues.{asks_one, asks_read, asks_then, tells_since}
use Rattle.vbr_list.proofs.look_ups.ReadFirst.{found_lost_since}
use Rattle.vbr_list.proofs.pieces.Going.{call_refl, keeps_still}
use Rattle.vbr_list.proofs.pieces.KeptHands.{hand_refl}
use Rattle.vbr_list.proofs.call.PendingCall.ask.Goals as goal

-- ---- nothing is given

-- an absent key that nothing is read of
pub returns-then-not-found-clause-asks : goal.returns-then-not-found-clause-asks
returns-then-not-found-clause-asks g c = record {
  call = call_refl c.args.self.now;
  counts = counts_none c.args.self.now.at.stepper.now.trace c.args.self.now.used;
  hand = hand_refl c.args.self.now.at.stepper.now;
  more = omega arith;
  few = omega arith;
}

pub returns-then-not-found-clause-wanted : goal.returns-then-not-found-clause-wanted
returns-then-not-found-clause-wanted g c =
    let absent = c.if-not-found.true in
    let W : Wanted → Type 0 = λ wanted. wants wanted None ≡ true in
    let R : Bool → Type 0 =
    λ present. ReadsIn c.args.self.now.at.stepper.now c.args.self.now.at.stepper.now (steps_where present) in
    let none : steps_where c.args.found.now.present ≡ 0 = ap steps_where absent in
    record {
      read = subst R (sym absent) (reads_none c.args.self.now.at.stepper.now);
      used = omega (arith, none);
      keeps = keeps_still (knows c.args.self.now.at.stepper.now.trace);
      locates = c.requires.locates;
      known = absent;
      is = subst W (sym (c.requires.asked.absent c.if-not-gives.true)) refl;
    }

pub returns-in_default-clause-asks : goal.returns-in_default-clause-asks
returns-in_default-clause-asks g c =
    let d = c.answer_no.ensures in asks_one d.call d.used d.keeps

pub returns-in_default-clause-unmet : goal.returns-in_default-clause-unmet
returns-in_default-clause-unmet g c =
    let lost = c.in_default.ensures.rolls in
    let used = c.answer_no.ensures.used in
    record { quiet = lost.quiet; loses = lost.loses; more = omega (arith, used) }

pub returns-then-not-gives-clause-asks : goal.returns-then-not-gives-clause-asks
returns-then-not-gives-clause-asks g c =
    let d = c.answer_no.ensures in asks_one d.call d.used d.keeps

pub returns-then-not-gives-clause-unmet : goal.returns-then-not-gives-clause-unmet
returns-then-not-gives-clause-unmet g c =
    let b = c.args.self.now in
    let p = b.at.stepper.now.trace in
    let q = c.answer_no.new.self.at.stepper.now.trace in
    let absent = c.requires.asked.absent c.if-not-gives.true in
    let M : Bool → Type 0 = λ present. Made (set_call p.who (denied present) b.key false) p q in
    let T : Bool → Type 0 = λ gives. Made (told_otherwise gives p.who b.key (Some 0)) p q in
    let W : Wanted → Type 0 = λ wanted. wants wanted (Some 0) ≡ false in
    record {
      told = subst T (sym c.if-not-gives.true)
          (subst M c.if-not-found.false c.in-Ok.ensures.made);
      is_not = subst W (sym absent) refl;
    }

-- ---- what was there is given

pub read_found-requires-clause-values : goal.read_found-requires-clause-values
read_found-requires-clause-values g c = c.requires.asked.values c.if-not-gives.false

pub returns-in_default-read_found-clause-asks : goal.returns-in_default-read_found-clause-asks
returns-in_default-read_found-clause-asks g c =
    let r = c.read_found.ensures in asks_read c.args.found.now.present r.call r.used r.reads

pub returns-in_default-read_found-clause-unmet : goal.returns-in_default-read_found-clause-unmet
returns-in_default-read_found-clause-unmet g c =
    let lost = c.in_default-read_found.ensures.lost in
    let used = rw lost.present at c.read_found.ensures.used in
    record { quiet = c.read_found.ensures.reads.quiet; loses = lost.loses; more = omega (arith, used) }

pub returns-then-wants-clause-asks : goal.returns-then-wants-clause-asks
returns-then-wants-clause-asks g c =
    let r = c.read_found.ensures in asks_read c.args.found.now.present r.call r.used r.reads

pub returns-then-wants-clause-wanted : goal.returns-then-wants-clause-wanted
returns-then-wants-clause-wanted g c =
    let r = c.read_found.ensures in
    record {
      read = r.reads;
      used = r.used;
      keeps = c.in-Ok-read_found.ensures.found.keeps;
      locates = c.in-Ok-read_found.ensures.found.known.locates;
      known = c.in-Ok-read_found.ensures.found.known.is;
      is = sym c.wants.ensures ∙ c.if-wants.true;
    }

pub returns-in_default-tell_found-clause-asks : goal.returns-in_default-tell_found-clause-asks
returns-in_default-tell_found-clause-asks g c =
    let r = c.read_found.ensures in
    let t = c.tell_found.ensures in
    asks_then c.args.found.now.present r.call r.used r.reads t.call t.used t.keeps

pub returns-in_default-tell_found-clause-unmet : goal.returns-in_default-tell_found-clause-unmet
returns-in_default-tell_found-clause-unmet g c =
    let r = c.read_found.ensures in
    let lost = simp r.call.at.slots at c.in_default-tell_found.ensures.lost in
    let used = r.used in
    let one = c.tell_found.ensures.used in
    record {
      quiet = quiet_on r.reads.quiet lost.quiet;
      loses = found_lost_since (wide_found c.args.self.now c.args.found.now) c.law.ensures r.reads
          c.in-Ok-read_found.ensures.found.keeps lost.loses;
      more = omega (arith, used, one);
    }

pub returns-clause-asks : goal.returns-clause-asks
returns-clause-asks g c =
    let r = c.read_found.ensures in
    let t = c.tell_found.ensures in
    asks_then c.args.found.now.present r.call r.used r.reads t.call t.used t.keeps

pub returns-clause-unmet : goal.returns-clause-unmet
returns-clause-unmet g c =
    let r = c.read_found.ensures in
    let p = c.args.self.now.at.stepper.now.trace in
    let q = c.tell_found.new.self.at.stepper.now.trace in
    let there = c.in-Ok-read_found.there in
    let T : Bool → Type 0 = λ gives. Made (told_otherwise gives p.who c.args.self.now.key there) p q in
    record {
      told = subst T (sym c.if-not-gives.false)
          (tells_since c.args.self.now c.read_found.new.self c.tell_found.new.self c.in-Ok-read_found.there r.call.key
          r.reads.quiet c.in-Ok-tell_found.ensures.told);
      is_not = sym c.wants.ensures ∙ c.if-wants.false;
    }
