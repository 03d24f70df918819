use Rattle.std.proofs.Common.{◌≡◌, ◌∷◌, [], ◌++◌, List, sym, ap, ◌∙◌, subst, append_assoc}
use Rattle.std.specs.Vec.Iter.{into_iter_items}
use Rattle.vbr_player.specs.Starting.{IsFor}
use Rattle.vbr_player.specs.Working.{HasRoomForReplies, HaveRoomForReplies}
use Rattle.vbr_player.specs.declared.phase_worker.PhaseWorker.{PhaseWorker}
use Rattle.vbr_player.specs.declared.worker.Worker.{Worker}
use Rattle.vbr_player.proofs.Starting.{each_played_if, one_behind, none_left, AreFor}
use Rattle.vbr_player.proofs.Zips.{zip-snoc}
use Rattle.vbr_player.proofs.phase.play_in_threads.Goals as goal

pub invariant_of-start_worker : goal.invariant_of-start_worker
invariant_of-start_worker g c =
    let i = c.loop-worker.invariant in
    let all : c.loop-worker.yielded ++ (c.in-Some.worker ∷ into_iter_items c.next.new.self) ≡ c.args.workers.items =
    ap (λ (ws : List (Worker _)). c.loop-worker.yielded ++ ws) (sym {A = List (Worker _)} c.in-Some.ensures.steps.0)
    ∙ i.all in
    record {
      room =
          one_behind (λ (w : Worker _). HasRoomForReplies w c.args.part.lines.now) c.loop-worker.yielded
          c.in-Some.worker (into_iter_items c.next.new.self)
          (subst (λ (ws : List (Worker _)). HaveRoomForReplies ws c.args.part.lines.now) (sym all) c.requires.room);
    }

pub loop-worker-preserved : goal.loop-worker-preserved
loop-worker-preserved g c =
    let i = c.loop-worker.invariant in
    let all : c.loop-worker.yielded ++ (c.in-Some.worker ∷ into_iter_items c.next.new.self) ≡ c.args.workers.items =
    ap (λ (ws : List (Worker _)). c.loop-worker.yielded ++ ws) (sym {A = List (Worker _)} c.in-Some.ensures.steps.0)
    ∙ i.all in
    let lines = c.args.part.lines.now in
    record {
      all_started =
          subst (λ (all_started : List (PhaseWorker _)).
          AreFor g.N.Asked.KIND c.args.part.budget lines all_started (c.loop-worker.yielded ++ c.in-Some.worker ∷ []))
          (sym c.in-Ok.ensures.items)
          (zip-snoc (IsFor g.N.Asked.KIND c.args.part.budget lines) c.loop-worker.all_started.items
          c.loop-worker.yielded c.in_ok-started.started c.in-Some.worker i.all_started c.in_ok-started.ensures.started);
      all = append_assoc c.loop-worker.yielded (c.in-Some.worker ∷ []) (into_iter_items c.next.new.self) ∙ all;
    }

pub returns : goal.returns
returns g c =
    let i = c.loop-worker.invariant in
    let whole = none_left c.loop-worker.yielded (into_iter_items c.loop-worker.worker-iterator) c.args.workers.items
    (sym c.loop-worker.worker-iterator.rest.ok.0 ∙ c.in-None.ensures.steps.0) i.all in
    let are = subst (AreFor g.N.Asked.KIND c.args.part.budget c.args.part.lines.now c.loop-worker.all_started.items)
    whole i.all_started in
    record {
      played = each_played_if g.N.Asked.KIND c.args.part.budget c.args.part.lines.now c.loop-worker.all_started.items
          c.args.workers.items c.join_all.result are c.join_all.ensures.ended;
      fault = c.join_all.ensures.fault;
    }
