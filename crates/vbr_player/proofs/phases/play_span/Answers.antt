use Rattle.std.proofs.Common.{ℕ, ◌+◌, ◌≤◌, List, length, drop, subst, sym, arith, length-drop}
use Rattle.vbr_script.specs.declared.script.Line.{Line}
use Rattle.vbr_player.specs.Meeting.{PlayedAndMet}
use Rattle.vbr_player.specs.Working.{HaveRoomForReplies}
use Rattle.vbr_player.proofs.Finishing.{merges}
use Rattle.vbr_player.proofs.NewWorkers.{stand_from}
use Rattle.vbr_player.proofs.Phasing.{cuts_rest, rest_of, next_room, stand_behind, all_played}
use Rattle.vbr_player.proofs.Standing.{are_of_stand}
use Rattle.vbr_player.proofs.phases.play_span.Goals as goal

pub play_phase-requires-clause-room : goal.play_phase-requires-clause-room
play_phase-requires-clause-room g c κs within =
    let lines = c.args.span.part.lines.now in let i = c.loop-number.invariant in
    let cut = cuts_rest lines c.loop-number.first c.count_up_to.result c.loop-number.number c.count_up_to.ensures.count
    i.early i.later in
    subst (HaveRoomForReplies c.loop-number.workers.items) (sym c.slice.ensures.lines)
    (next_room c.args.set.now c.args.span.part.budget lines c.loop-number.first c.count_up_to.result c.args.span.from
    c.loop-number.number _ c.loop-number.workers.items cut i.stand)

pub loop-number-preserved : goal.loop-number-preserved
loop-number-preserved g c =
    let lines = c.args.span.part.lines.now in let i = c.loop-number.invariant in
    let cut = cuts_rest lines c.loop-number.first c.count_up_to.result c.loop-number.number c.count_up_to.ensures.count
    i.early i.later in
    let within : c.count_up_to.result ≤ length (drop c.loop-number.first lines) =
    subst (λ (some : List Line). c.count_up_to.result ≤ length some) (rest_of lines c.loop-number.first)
    c.count_up_to.ensures.inside in
    let inside : c.loop-number.first + c.count_up_to.result ≤ length lines = let low = i.inside in
    omega (arith, length-drop c.loop-number.first lines) in
    record {
      inside = inside;
      stand = stand_behind c.args.set.now c.args.span.part.budget lines c.loop-number.first c.count_up_to.result
          c.args.span.from c.loop-number.number _ c.loop-number.workers.items c.in_ok-workers-2.workers.items cut
          i.stand (subst
          (λ (k : ℕ × List Line).
          PlayedAndMet g.N.Asked.KIND k.0 k.1 c.loop-number.workers.items c.in_ok-workers-2.workers.items)
          (λ i. (c.slice.ensures.budget i, c.slice.ensures.lines i)) c.in_ok-workers-2.ensures.met);
      early = cut.early;
      later = cut.later;
    }

pub play_phase-requires-clause-of : goal.play_phase-requires-clause-of
play_phase-requires-clause-of g c κs within =
    are_of_stand c.args.set.now c.args.span.part.budget c.args.span.part.lines.now _ _ _ _ c.loop-number.workers.items
    c.loop-number.invariant.stand

pub merged-requires : goal.merged-requires
merged-requires g c =
    let lines = c.args.span.part.lines.now in
    let stand = all_played c.args.set.now c.args.span.part.budget lines c.loop-number.first c.args.span.from
    c.loop-number.number c.args.span.to _ c.loop-number.workers.items (omega arith) c.requires.span.phased.phases_below
    c.loop-number.invariant.later c.loop-number.invariant.stand in
    merges c.args.set.now c.args.span.part.budget lines c.args.span.from c.args.span.to c.in_ok-passes.passes.items _
    c.requires.span.phased
    (record {
      workers = c.loop-number.workers.items;
      stand = stand;
      passes_are = c.in_ok-passes.ensures.passes;
      replies_are = c.in_ok-passes.ensures.replies;
    })

pub returns-clause-played : goal.returns-clause-played
returns-clause-played g c = record {
  own = _;
  whole = record {
    workers = c.loop-number.workers.items;
    stand = all_played c.args.set.now c.args.span.part.budget c.args.span.part.lines.now c.loop-number.first
        c.args.span.from c.loop-number.number c.args.span.to _ c.loop-number.workers.items (omega arith)
        c.requires.span.phased.phases_below c.loop-number.invariant.later c.loop-number.invariant.stand;
    passes_are = c.in_ok-passes.ensures.passes;
    replies_are = c.in_ok-passes.ensures.replies;
  };
  merged = c.in_ok-replies.ensures;
}

pub loop-number-init : goal.loop-number-init
loop-number-init g c =
    record {
      inside = omega arith;
      stand = stand_from c.args.set.now c.args.span.part.budget c.args.span.part.lines.now c.args.span.from _
          c.in_ok-workers.workers.items c.requires.span.ascend (c.in_ok-workers.ensures c.args.span.part.budget);
      early = λ k d none. absurd (omega arith);
      later = c.requires.span.ascend;
    }
