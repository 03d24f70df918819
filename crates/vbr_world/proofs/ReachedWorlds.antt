-- A world stays one that a run led to, and so its calls are legal.
use Rattle.std.proofs.Common.{◌≡◌, ℕ, List, [], ◌∷◌, ◌++◌, length, Result, Ok, Err, sym, subst, ap, ◌∙◌}
use Rattle.std.specs.Prelude.{IfOk, IfErr}
use Rattle.vbr_machine.specs.Start.{Start}
use Rattle.vbr_machine.specs.Opened.{opening_keys, opening_payloads}
use Rattle.vbr_machine.specs.History.{IsLegal, GiveStored}
use Rattle.vbr_machine.specs.Machine.{World, after}
use Rattle.vbr_machine.specs.Runs.{IsAccepted, IsRun, world_after}
use Rattle.vbr_world.specs.WorldInLists.{KeptWorld, world_of}
use Rattle.vbr_world.specs.KeptSteps.{IsMade, RefusesEvent, KeepsStart}
use Rattle.vbr_world.specs.Reached.{IsReached}
use Rattle.vbr_machine.specs.declared.event.Event.{Event}
use Rattle.vbr_machine.specs.declared.event.Effect.{Effect}
use Rattle.vbr_machine.specs.declared.event.CoreRefusal.{CoreRefusal}
use Rattle.vbr_machine.specs.declared.history.Call.{Call}
use Rattle.vbr_machine.proofs.Lemmas.{world_after-snoc, is_run_snoc}
use Rattle.vbr_machine.proofs.Lemmas.{every_run}

-- after one more accepted event
reached_next : (kept next : KeptWorld) (event : Event) → IsReached kept →
    IsAccepted kept.start (length kept.passes) (world_of kept) event →
    world_of next ≡ after kept.start (world_of kept) event.pass event.step → next.start ≡ kept.start →
    length next.passes ≡ length kept.passes → IsReached next
reached_next kept next event r ok is start passes = record {
  start = rw start r.start;
  run = r.run ++ event ∷ [];
  is_run = (
      let accepted : IsAccepted kept.start (length kept.passes) (world_after kept.start r.run) event =
      (let P : World → Type 0 = λ w. IsAccepted kept.start (length kept.passes) w event in subst P r.world ok) in
      let P : Start × ℕ → Type 0 = λ stood. IsRun stood.0 stood.1 (r.run ++ event ∷ []) in
      subst P (λ i. (sym start i, sym passes i))
      (is_run_snoc kept.start (length kept.passes) r.run event r.is_run accepted));
  world = is ∙ ap (λ w. after kept.start w event.pass event.step) r.world
      ∙ sym (world_after-snoc kept.start r.run event)
      ∙ ap (λ (same : Start). world_after same (r.run ++ event ∷ [])) (sym start);
}

-- a step that is accepted goes on with the run, and one that is refused leaves it
pub reached_step : (result : Result Effect CoreRefusal) (kept next : KeptWorld) (event : Event) → IsReached kept →
    IfOk result (IsMade kept next event) → IfErr result (RefusesEvent kept next event) → KeepsStart kept next →
    IsReached next
reached_step (Ok effect) kept next event r made refused keeps =
    reached_next kept next event r made.accepted made.after keeps.start keeps.passes
reached_step (Err why) kept next event r made refused keeps = rw refused.unchanged r

-- the calls of a world that a run led to are legal
pub reached_legal : (kept : KeptWorld) → IsReached kept → IsLegal (opening_keys kept.start) kept.calls
reached_legal kept r =
    let safe = every_run kept.start (length kept.passes) r.run r.start r.is_run in
    let P : List Call → Type 0 = IsLegal (opening_keys kept.start) in
    subst P (sym (ap (λ w. w.calls) r.world)) safe.legal

-- and give the values that were stored
pub reached_values : (kept : KeptWorld) → IsReached kept → GiveStored (opening_payloads kept.start) kept.calls
reached_values kept r =
    let safe = every_run kept.start (length kept.passes) r.run r.start r.is_run in
    let P : List Call → Type 0 = GiveStored (opening_payloads kept.start) in
    subst P (sym (ap (λ w. w.calls) r.world)) safe.values
