use Rattle.std.proofs.Common.{◌≡◌, ◌∷◌, [], ◌++◌, List, sym, ap, ◌∙◌, subst, append_assoc}
use Rattle.std.specs.Vec.Iter.{into_iter_items}
use Rattle.vbr_player.specs.Starting.{EndsAs, AreEndedBy}
use Rattle.vbr_player.specs.declared.phase_worker.PhaseWorker.{PhaseWorker}
use Rattle.vbr_player.specs.declared.worker.Worker.{Worker}
use Rattle.vbr_player.proofs.Starting.{none_left}
use Rattle.vbr_player.proofs.Zips.{zip-snoc}
use Rattle.vbr_player.proofs.phase.join_all.Goals as goal

pub loop-started-preserved : goal.loop-started-preserved
loop-started-preserved g c =
    let i = c.loop-started.invariant in
    let all : c.loop-started.yielded ++ (c.in-Some.started ∷ into_iter_items c.next.new.self)
    ≡ c.args.all_started.items =
    ap (λ (ts : List (PhaseWorker _)). c.loop-started.yielded ++ ts)
    (sym {A = List (PhaseWorker _)} c.in-Some.ensures.steps.0) ∙ i.all in
    record {
      ended = subst
          (λ (ws : List (Worker _)). AreEndedBy g.N.Asked.KIND (c.loop-started.yielded ++ c.in-Some.started ∷ []) ws)
          (sym c.in-Ok.ensures.items)
          (zip-snoc (EndsAs g.N.Asked.KIND) c.loop-started.yielded c.loop-started.played.items c.in-Some.started
          c.end.result i.ended c.end.ensures);
      all = append_assoc c.loop-started.yielded (c.in-Some.started ∷ []) (into_iter_items c.next.new.self) ∙ all;
    }

pub returns-clause-ended : goal.returns-clause-ended
returns-clause-ended g c =
    let i = c.loop-started.invariant in
    let whole = none_left c.loop-started.yielded (into_iter_items c.loop-started.started-iterator)
    c.args.all_started.items (sym c.loop-started.started-iterator.rest.ok.0 ∙ c.in-None.ensures.steps.0) i.all in
    subst (λ (ts : List (PhaseWorker _)). AreEndedBy g.N.Asked.KIND ts c.loop-started.played.items) whole i.ended
