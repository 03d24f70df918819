-- Each line is played or left alone.
use Rattle.std.proofs.Common.{rules, ◌≡◌, ◌<◌, ◌≤◌, length, sym, ap, ◌∙◌, arith}
use Rattle.std.specs.Vec.{vec_capacity}
use Rattle.vbr_slots.specs.views.Views.{PassView}
use Rattle.vbr_player.proofs.Replying.{line_left, line_played, room_for_one}
use Rattle.vbr_player.proofs.Working.{none_played, played_next, room_next}
use Rattle.vbr_player.proofs.worker.play.Goals as goal

pub loop-line-init : goal.loop-line-init
loop-line-init g c = record { next = omega arith; played = none_played c.args.task.part.budget c.args.task.worker }

pub loop-line-preserved-then-line-who : goal.loop-line-preserved-then-line-who
loop-line-preserved-then-line-who g c =
    let before = c.args.task.worker in let worker = c.loop-line.worker in let played = c.loop-line.invariant.played in
    let who : c.who-who.result ≡ worker.caller.pass.trace.who =
    c.who-who.ensures.who ∙ ap (λ (p : PassView). p.trace.who) c.pass.ensures.pass ∙ sym played.same.who in
    record {
      next = omega arith;
      played = played_next c.args.task.part.budget c.args.task.part.lines.now c.loop-line.line-index _ before worker
          worker c.loop-line-test.true played
          (line_left g.N.Asked.KIND _ c.args.task.part.budget worker (λ own. c.if-line-who.true (own ∙ sym who)));
    }

pub unreachable-requires : goal.unreachable-requires
unreachable-requires g c =
    let before = c.args.task.worker in let worker = c.loop-line.worker in let played = c.loop-line.invariant.played in
    let who : c.who-who.result ≡ worker.caller.pass.trace.who =
    c.who-who.ensures.who ∙ ap (λ (p : PassView). p.trace.who) c.pass.ensures.pass ∙ sym played.same.who in
    let room = room_next c.args.task.part.budget c.args.task.part.lines.now c.loop-line.line-index _ before worker
    c.loop-line-test.true played c.args.task.room in
    let one : length worker.replies.items < vec_capacity worker.replies =
    room_for_one _ worker (c.if-line-who.false ∙ who) room in
    search rules

pub loop-line-preserved : goal.loop-line-preserved
loop-line-preserved g c =
    let before = c.args.task.worker in let worker = c.loop-line.worker in let played = c.loop-line.invariant.played in
    let who : c.who-who.result ≡ worker.caller.pass.trace.who =
    c.who-who.ensures.who ∙ ap (λ (p : PassView). p.trace.who) c.pass.ensures.pass ∙ sym played.same.who in
    let room : vec_capacity worker.replies ≤ vec_capacity c.push.new.self = search rules in
    record {
      next = omega arith;
      played = played_next c.args.task.part.budget c.args.task.part.lines.now c.loop-line.line-index _ before worker _
          c.loop-line-test.true played
          (line_played g.N.Asked.KIND _ c.args.task.part.budget c.ask-reply.result worker _ (c.if-line-who.false ∙ who)
          c.ask-reply.ensures c.in-Ok.ensures.items room);
    }
