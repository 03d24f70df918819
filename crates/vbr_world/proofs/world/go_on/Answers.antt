-- One more event is accepted, or it is the first that is refused.
use Rattle.std.proofs.Common.{◌≡◌, ◌<◌, ◌∙◌, length, take, get_or, ap, subst, arith}
use Rattle.std.proofs.lemmas.List.{take_all}
use Rattle.vbr_machine.specs.Start.{IsStart}
use Rattle.vbr_machine.specs.Machine.{after}
use Rattle.vbr_machine.specs.Runs.{IsRun}
use Rattle.vbr_machine.specs.declared.event.Event.{Event}
use Rattle.vbr_machine.specs.declared.event.CoreRefusal.TheVariants.{NoMemory}
use Rattle.vbr_world.specs.Growth.{NeedsMemory}
use Rattle.vbr_world.specs.KeptSteps.{IsAcceptedIn, IsRefusedIn}
use Rattle.vbr_world.specs.WorldInLists.{KeptWorld, world_of}
use Rattle.vbr_world.proofs.Replayed.{run_push, run_stops}
use Rattle.vbr_machine.proofs.Lemmas.{every_run}
use Rattle.vbr_world.proofs.world.go_on.Goals as goal

pub returns-in-Err-clause-stops : goal.returns-in-Err-clause-stops
returns-in-Err-clause-stops c =
    let first = c.args.world in
    let world = c.loop-index.world in
    let inside : c.loop-index.index < length c.args.events.now = omega arith in
    let event = c.index-events-index.result in
    let is : event ≡ get_or c.args.events.now c.loop-index.index event = c.index-events-index.is in
    run_stops first.start world.start (length first.passes) (length world.passes) c.args.events.now c.loop-index.index
    event (world_of world) c.in-Err.refusal c.loop-index.invariant.start c.loop-index.invariant.passes
    c.loop-index.invariant.world inside c.loop-index.invariant.run
    (subst (λ (e : Event). IsRefusedIn world e c.in-Err.refusal) is c.in-Err.ensures.refused.refused)
    (subst (λ (e : Event). c.in-Err.refusal ≡ NoMemory → NeedsMemory world.start (world_of world) e) is
    c.in-Err.ensures.refused.grows)

pub loop-index-preserved : goal.loop-index-preserved
loop-index-preserved c =
    let first = c.args.world in
    let world = c.loop-index.world in
    let inside : c.loop-index.index < length c.args.events.now = omega arith in
    let event = c.index-events-index.result in
    let is : event ≡ get_or c.args.events.now c.loop-index.index event = c.index-events-index.is in
    let made = subst (λ (e : Event). IsAcceptedIn world e × (world_of c.step.new.self
    ≡ after world.start (world_of world) e.pass e.step)) is
    (c.in_default.ensures.made.accepted, c.in_default.ensures.made.after) in
    let more = run_push first.start world.start (length first.passes) (length world.passes) c.args.events.now
    c.loop-index.index event (world_of world) (world_of c.step.new.self) c.loop-index.invariant.start
    c.loop-index.invariant.passes c.loop-index.invariant.world inside c.loop-index.invariant.run made.0 made.1 in
    record {
      run = more.0;
      world = more.1;
      start = c.in_default.ensures.stays.start ∙ c.loop-index.invariant.start;
      passes = c.in_default.ensures.stays.passes ∙ c.loop-index.invariant.passes;
    }

pub returns-clause-run : goal.returns-clause-run
returns-clause-run c =
    let first = c.args.world in
    let start : IsStart first.start =
    subst IsStart (ap (λ (kept : KeptWorld). kept.start) c.world.view_is) c.world.invariant.start in
    let all : take c.loop-index.index c.args.events.now ≡ c.args.events.now =
    take_all c.loop-index.index c.args.events.now c.loop-index-test.false in
    let run : IsRun first.start (length first.passes) c.args.events.now = rw all at c.loop-index.invariant.run in
    record {
      run = run;
      safe = every_run first.start (length first.passes) c.args.events.now start run;
      world = rw all at c.loop-index.invariant.world;
      start = c.loop-index.invariant.start;
      passes = c.loop-index.invariant.passes;
    }
