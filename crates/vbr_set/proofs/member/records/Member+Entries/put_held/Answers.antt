use Rattle.vbr_set.specs.members.Sharing.{set_shared}
use Rattle.vbr_set.proofs.held_slots.HeldMembers.{part_kept, put_again}
use Rattle.vbr_set.proofs.held_slots.HeldStores.{none_put, put_added, put_same, put_spent, puts_aside}
use Rattle.vbr_set.proofs.member.records.«Member+Entries».put_held.Goals as goal

pub invariant_of-self : goal.invariant_of-self
invariant_of-self c =
    let up = c.take_up-hand.ensures.keeps in
    let by = c.put_held.ensures in
    record {
      part = part_kept up by.answers.same c.put_held.new.pass (put_spent up by c.in-Ok.is) c.self.invariant.part;
      counted = put_added up by (set_shared c.self.inside.share) c.in-Ok.is c.self.invariant.counted
          c.one_if_wanted.ensures;
      put_aside = tt;
    }

pub invariant_of-self-in-Err : goal.invariant_of-self-in-Err
invariant_of-self-in-Err c =
    let up = c.take_up-hand.ensures.keeps in
    let by = c.put_held.ensures in
    let ends = c.of-still.ensures.empties in
    record {
      part = part_kept up by.answers.same c.of-still.new.pass ends c.self.invariant.part;
      counted = none_put up by (set_shared c.self.inside.share) c.of-still.new.pass ends c.in-Err.is
          c.self.invariant.counted;
      put_aside = put_again c.take_up-hand.result c.in-Err.hand c.of-still.new.pass c.in-Some.is
          (put_same up by c.in-Err.is) c.take_up-hand.ensures.slot c.take_up-hand.ensures.birth
          c.of-still.ensures.slot c.of-still.ensures.birth c.of-still.ensures.aside;
    }

pub returns-in-Ok-clause-puts : goal.returns-in-Ok-clause-puts
returns-in-Ok-clause-puts c =
    let up = c.take_up-hand.ensures.keeps in
    let by = c.put_held.ensures in
    puts_aside up by (set_shared c.self.inside.share) c.put_held.new.pass c.self.inside.aside c.in-Some.aside
    c.self.view_is (put_spent up by c.in-Ok.is) c.take_up-hand.ensures.hand c.in-Some.is c.take_up-hand.ensures.slot
    c.take_up-hand.ensures.birth c.in-Ok.is

pub returns-in-Err-clause-puts : goal.returns-in-Err-clause-puts
returns-in-Err-clause-puts c =
    puts_aside c.take_up-hand.ensures.keeps c.put_held.ensures (set_shared c.self.inside.share) c.of-still.new.pass
    c.self.inside.aside c.in-Some.aside c.self.view_is c.of-still.ensures.empties c.take_up-hand.ensures.hand
    c.in-Some.is c.take_up-hand.ensures.slot c.take_up-hand.ensures.birth c.in-Err.is
