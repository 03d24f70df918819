use Rattle.std.proofs.Common.{rules}
use Rattle.std.specs.Vec.{vec_capacity}
use Rattle.std.specs.Vec.Iter.{into_iter_items}
use Rattle.vbr_set.proofs.members.Apart.{room_after, taken}
use Rattle.vbr_set.proofs.member.closing_all.take_apart.Goals as goal

pub loop-member-preserved : goal.loop-member-preserved
loop-member-preserved g c =
    let i = c.loop-member.invariant in
    let all = into_iter_items c.loop-member.member-iterator in
    let rest = into_iter_items c.next.new.self in
    let stake = c.into_parts-stake.result.0 in
    let pass = c.into_parts-stake.result.1 in
    let one = c.in-Ok-Ok.ensures in
    let other = c.in-Ok-Ok.ensures' in
    let more = taken c.loop-member.stakes.items c.push.new.self.items c.loop-member.passes.items
    c.push-in-loop-member.new.self.items stake pass all rest c.args.members.items c.in-Some.member (search rules)
    (search rules) (search rules) c.into_parts-stake.ensures.is i.parts c.into_parts-stake.ensures.stake i.members in
    record {
      parts = more.0;
      members = more.1;
      stakes = room_after c.loop-member.stakes.items c.push.new.self.items stake all rest c.in-Some.member
          (vec_capacity c.loop-member.stakes) (vec_capacity c.push.new.self) (search rules) (search rules)
          (search rules) i.stakes;
      passes = room_after c.loop-member.passes.items c.push-in-loop-member.new.self.items pass all rest c.in-Some.member
          (vec_capacity c.loop-member.passes) (vec_capacity c.push-in-loop-member.new.self) (search rules)
          (search rules) (search rules) i.passes;
    }
