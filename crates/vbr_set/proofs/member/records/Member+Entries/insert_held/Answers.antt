use Rattle.std.proofs.Common.{refl}
use Rattle.vbr_set.specs.members.Sharing.{set_shared}
use Rattle.vbr_set.proofs.members.Balances.{once_in_map}
use Rattle.vbr_set.proofs.held_slots.HeldMembers.{ends_spent, none_added, one_added, part_held, still_put, tells_still}
use Rattle.vbr_set.proofs.member.records.«Member+Entries».insert_held.Goals as goal

pub invariant_of-self : goal.invariant_of-self
invariant_of-self c =
    let up = c.take_up-hand.ensures.keeps in
    let inserts = c.insert_held.ensures in
    record {
      part = part_held up inserts c.insert_held.new.pass (ends_spent up inserts c.in-Ok.is) c.self.invariant.part;
      counted = one_added up inserts once_in_map (set_shared c.self.inside.share) c.self.invariant.counted c.in-Ok.is
          refl;
      put_aside = tt;
    }

pub invariant_of-self-in-Err : goal.invariant_of-self-in-Err
invariant_of-self-in-Err c =
    let up = c.take_up-hand.ensures.keeps in
    let inserts = c.insert_held.ensures in
    let ends = c.of-still.ensures.empties in
    record {
      part = part_held up inserts c.of-still.new.pass ends c.self.invariant.part;
      counted = none_added up inserts once_in_map (set_shared c.self.inside.share) c.self.invariant.counted
          c.of-still.new.pass ends c.in-Err.is refl;
      put_aside = still_put up inserts c.of-still.new.pass c.in-Err.is c.in-Some.is c.take_up-hand.ensures.slot
          c.take_up-hand.ensures.birth c.of-still.ensures.slot c.of-still.ensures.birth c.of-still.ensures.aside;
    }

pub returns-in-Err-clause-inserts : goal.returns-in-Err-clause-inserts
returns-in-Err-clause-inserts c =
    tells_still c.take_up-hand.ensures.keeps c.insert_held.ensures (set_shared c.self.inside.share)
    c.of-still.new.pass c.self.inside.aside c.in-Some.aside c.answer_held.result c.self.view_is
    c.of-still.ensures.empties c.in-Err.is c.take_up-hand.ensures.hand c.in-Some.is c.take_up-hand.ensures.slot
    c.take_up-hand.ensures.birth c.answer_held.ensures
