use Rattle.vbr_handles.proofs.Names.{◌∷◌, [], length, ap, ◌∙◌, arith, false≢true, length-set, map-set_same}
use Rattle.vbr_handles.proofs.Names.{length-append}
use Rattle.vbr_handles.proofs.AskingAll.{here_full, one_out, still_full}
use Rattle.vbr_handles.proofs.asking_all.take_all_out.Goals as goal

pub unreachable-requires : goal.unreachable-requires
unreachable-requires g c =
    let within = c.loop-i-test.true in
    let long = c.loop-i.invariant.long in
    false≢true (c.in_default.ensures.there
    (here_full g.H.HandleOf.member c.loop-i.handles c.loop-i.i c.index-handles-i.result (omega arith)
    c.loop-i.invariant.full))

pub loop-i-preserved : goal.loop-i-preserved
loop-i-preserved g c =
    let within = c.loop-i-test.true in
    let i = c.loop-i.invariant in
    let long = i.long in
    let many = i.many in
    let blocks = i.blocks in
    let room = i.room in
    let blocks_room = i.blocks_room in
    let one = ap (λ xs. length xs) c.in-Ok-Ok.ensures.items
    ∙ length-append c.loop-i.members.items (c.in-Some.member ∷ []) in
    let other = ap (λ xs. length xs) c.in-Ok-Ok.ensures'.items ∙ length-append c.loop-i.blocks.items (_ ∷ []) in
    let more = c.in-Ok-Ok.ensures.capacity in
    let more' = c.in-Ok-Ok.ensures'.capacity in
    record {
      long = length-set c.loop-i.handles c.loop-i.i c.take_out.new.handle ∙ long;
      many = omega arith;
      blocks = omega arith;
      room = omega arith;
      blocks_room = omega arith;
      so_far = one_out g.H.HandleOf.member c.loop-i.members.items c.push.new.self.items _ c.in-Some.member
          c.loop-i.handles c.loop-i.i c.index-handles-i.result c.take_out.new.handle (omega arith) c.in-Some.ensures.is
          c.in-Ok-Ok.ensures.items i.so_far;
      full = still_full g.H.HandleOf.member c.loop-i.handles c.loop-i.i c.index-handles-i.result c.take_out.new.handle
          (omega arith) i.full;
      steps = map-set_same g.H.HandleOf.steps c.loop-i.handles c.loop-i.i c.take_out.new.handle c.index-handles-i.result
          c.take_out.ensures.steps ∙ i.steps;
      openings = map-set_same g.H.HandleOf.opening c.loop-i.handles c.loop-i.i c.take_out.new.handle
          c.index-handles-i.result c.take_out.ensures.opening ∙ i.openings;
    }
