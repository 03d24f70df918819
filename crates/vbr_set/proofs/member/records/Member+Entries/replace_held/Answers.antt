use Rattle.vbr_set.specs.members.Sharing.{set_shared}
use Rattle.vbr_set.proofs.held_slots.HeldMembers.{part_kept, put_again}
use Rattle.vbr_set.proofs.held_slots.HeldStores.{replaced_kept, replaced_same, replaced_spent, replaces_aside}
use Rattle.vbr_set.proofs.held_slots.HeldStores.{tells_unreplaced}
use Rattle.vbr_set.proofs.member.records.«Member+Entries».replace_held.Goals as goal

pub invariant_of-self : goal.invariant_of-self
invariant_of-self c =
    let up = c.take_up-hand.ensures.keeps in
    let by = c.replace_held.ensures in
    let ends = replaced_spent up by c.in-Ok.is in
    record {
      part = part_kept up by.answers.same c.replace_held.new.pass ends c.self.invariant.part;
      counted = replaced_kept up by (set_shared c.self.inside.share) c.replace_held.new.pass ends
          c.self.invariant.counted;
      put_aside = tt;
    }

pub invariant_of-self-in-Err : goal.invariant_of-self-in-Err
invariant_of-self-in-Err c =
    let up = c.take_up-hand.ensures.keeps in
    let by = c.replace_held.ensures in
    let ends = c.of-still.ensures.empties in
    record {
      part = part_kept up by.answers.same c.of-still.new.pass ends c.self.invariant.part;
      counted = replaced_kept up by (set_shared c.self.inside.share) c.of-still.new.pass ends c.self.invariant.counted;
      put_aside = put_again c.take_up-hand.result c.in-Err.hand c.of-still.new.pass c.in-Some.is
          (replaced_same up by c.in-Err.is) c.take_up-hand.ensures.slot c.take_up-hand.ensures.birth
          c.of-still.ensures.slot c.of-still.ensures.birth c.of-still.ensures.aside;
    }

pub returns-in-Ok-clause-replaces : goal.returns-in-Ok-clause-replaces
returns-in-Ok-clause-replaces c =
    let up = c.take_up-hand.ensures.keeps in
    let by = c.replace_held.ensures in
    replaces_aside up by (set_shared c.self.inside.share) c.replace_held.new.pass c.self.inside.aside c.in-Some.aside
    c.self.view_is (replaced_spent up by c.in-Ok.is) c.take_up-hand.ensures.hand c.in-Some.is
    c.take_up-hand.ensures.slot c.take_up-hand.ensures.birth c.in-Ok.is

pub returns-in-Err-clause-replaces : goal.returns-in-Err-clause-replaces
returns-in-Err-clause-replaces c =
    tells_unreplaced c.take_up-hand.ensures.keeps c.replace_held.ensures (set_shared c.self.inside.share)
    c.of-still.new.pass c.self.inside.aside c.in-Some.aside c.answer_unreplaced.result c.self.view_is
    c.of-still.ensures.empties c.in-Err.is c.take_up-hand.ensures.hand c.in-Some.is c.take_up-hand.ensures.slot
    c.take_up-hand.ensures.birth c.answer_unreplaced.ensures
