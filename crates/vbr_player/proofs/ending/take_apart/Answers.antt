use Rattle.std.proofs.Common.{◌≡◌, List, [], ◌∷◌, ◌++◌, map, sym, ap, ◌∙◌, append_assoc}
use Rattle.std.proofs.lemmas.List.{map-append}
use Rattle.std.specs.Prelude.{Vec}
use Rattle.std.specs.Global.{Global}
use Rattle.std.specs.Vec.Iter.{into_iter_items}
use Rattle.vbr_slots.specs.views.Views.{PassView}
use Rattle.vbr_transcript.specs.declared.reply.Reply.{Reply}
use Rattle.vbr_player.specs.declared.worker.Worker.{Worker}
use Rattle.vbr_player.proofs.ending.take_apart.Goals as goal

pub loop-worker-preserved : goal.loop-worker-preserved
loop-worker-preserved g c =
    let i = c.loop-worker.invariant in let worker = c.in-Some.worker in
    let all : c.loop-worker.yielded ++ (c.in-Some.worker ∷ into_iter_items c.next.new.self) ≡ c.args.workers.items =
    ap (λ (ws : List (Worker _)). c.loop-worker.yielded ++ ws) (sym {A = List (Worker _)} c.in-Some.ensures.steps.0)
    ∙ i.all in
    record {
      passes =
          c.in-Ok.ensures.items
          ∙ ap (λ (p : PassView). c.loop-worker.passes.items ++ p ∷ []) c.into_pass.ensures.pass
          ∙ ap (λ (ps : List PassView). ps ++ worker.caller.pass ∷ []) i.passes
          ∙ sym (map-append (λ (w : Worker _). w.caller.pass) c.loop-worker.yielded (worker ∷ []));
      replies =
          ap (λ (vs : List (Vec Reply Global)). map (λ (v : Vec Reply Global). v.items) vs) c.in-Ok-push.ensures.items
          ∙ map-append (λ (v : Vec Reply Global). v.items) c.loop-worker.own.items (worker.replies ∷ [])
          ∙ ap (λ (rs : List (List Reply)). rs ++ worker.replies.items ∷ []) i.replies
          ∙ sym (map-append (λ (w : Worker _). w.replies.items) c.loop-worker.yielded (worker ∷ []));
      all = append_assoc c.loop-worker.yielded (c.in-Some.worker ∷ []) (into_iter_items c.next.new.self) ∙ all;
    }
