use Rattle.std.proofs.Common.{◌≡◌, List, [], ◌∷◌, ◌++◌, sym, ap, ◌∙◌, subst, append_assoc}
use Rattle.std.specs.List.{AllZip}
use Rattle.std.specs.Vec.Iter.{into_iter_items}
use Rattle.vbr_slots.specs.views.Views.{PassView}
use Rattle.vbr_player.specs.Standing.{IsNewWorker}
use Rattle.vbr_player.specs.declared.worker.Worker.{Worker}
use Rattle.vbr_player.proofs.NewWorkers.{new_is_of, new_stand}
use Rattle.vbr_player.proofs.Starting.{none_left}
use Rattle.vbr_player.proofs.Zips.{zip-snoc}
use Rattle.vbr_player.proofs.opening.workers_of.Given.{Over}
use Rattle.vbr_player.proofs.opening.workers_of.Goals.{In-Some}
use Rattle.vbr_player.proofs.opening.workers_of.Goals as goal

-- the passes that were yielded, the one that comes next, and those that are left
all_passes : (g : Over) (c : In-Some g) →
    c.loop-pass.yielded ++ (c.in-Some.pass ∷ into_iter_items c.next.new.self) ≡ c.args.passes.items
all_passes g c =
    ap (λ (ps : List PassView). c.loop-pass.yielded ++ ps) (sym {A = List PassView} c.in-Some.ensures.steps.0)
    ∙ c.loop-pass.invariant.all

pub new_worker-requires-clause-own : goal.new_worker-requires-clause-own
new_worker-requires-clause-own g c =
    (new_is_of c.args.set.now c.args.set.now.passes c.args.passes.items c.loop-pass.yielded c.in-Some.pass
    (into_iter_items c.next.new.self) c.requires (all_passes g c)).0

pub new_worker-requires-clause-empty_hand : goal.new_worker-requires-clause-empty_hand
new_worker-requires-clause-empty_hand g c =
    (new_is_of c.args.set.now c.args.set.now.passes c.args.passes.items c.loop-pass.yielded c.in-Some.pass
    (into_iter_items c.next.new.self) c.requires (all_passes g c)).1

pub loop-pass-preserved : goal.loop-pass-preserved
loop-pass-preserved g c = record {
  new = subst (λ (ws : List (Worker _)).
      AllZip (IsNewWorker c.args.set.now c.args.lines.now) (c.loop-pass.yielded ++ c.in-Some.pass ∷ []) ws)
      (sym {A = List (Worker _)} c.in-Ok.ensures.items)
      (zip-snoc (IsNewWorker c.args.set.now c.args.lines.now) c.loop-pass.yielded c.loop-pass.workers.items
      c.in-Some.pass c.in_ok-worker.worker c.loop-pass.invariant.new c.in_ok-worker.ensures);
  all = append_assoc c.loop-pass.yielded (c.in-Some.pass ∷ []) (into_iter_items c.next.new.self)
      ∙ all_passes g (goal.at.loop-pass-preserved g c).In-Some;
}

pub returns : goal.returns
returns g c =
    let whole = none_left c.loop-pass.yielded (into_iter_items c.loop-pass.pass-iterator) c.args.passes.items
    (sym c.loop-pass.pass-iterator.rest.ok.0 ∙ c.in-None.ensures.steps.0)
    c.loop-pass.invariant.all in
    new_stand c.args.set.now c.args.lines.now c.args.passes.items c.args.set.now.passes c.loop-pass.workers.items
    c.requires (subst
    (λ (ps : List PassView). AllZip (IsNewWorker c.args.set.now c.args.lines.now) ps c.loop-pass.workers.items) whole
    c.loop-pass.invariant.new)
