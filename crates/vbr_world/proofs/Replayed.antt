-- One more event of a run, and where a replay from an opening on stops.
use Rattle.std.proofs.Common.{◌≡◌, ℕ, ◌+◌, ◌<◌, List, length, take, get_or, inr, Result, sym, subst, ◌∙◌}
use Rattle.std.specs.Prelude.{IfErr}
use Rattle.std.proofs.lemmas.List.{take_more}
use Rattle.std.proofs.lemmas.Option.{slice_get-get_or}
use Rattle.vbr_machine.specs.Start.{Start}
use Rattle.vbr_machine.specs.Machine.{World, after}
use Rattle.vbr_machine.specs.Runs.{IsAccepted, Refuses, IsRun, world_after}
use Rattle.vbr_world.specs.WorldInLists.{KeptWorld}
use Rattle.vbr_world.specs.KeptOpenings.{IsOpening}
use Rattle.vbr_world.specs.Replays.{StopsAt}
use Rattle.vbr_machine.specs.declared.event.Event.{Event}
use Rattle.vbr_machine.specs.declared.event.CoreRefusal.{CoreRefusal}
use Rattle.vbr_machine.specs.declared.event.CoreRefusal.TheVariants.{NoMemory}
use Rattle.vbr_world.specs.Growth.{NeedsMemory}
use Rattle.vbr_machine.proofs.Lemmas.{world_after-snoc, is_run_snoc}

-- one more accepted event of a run
pub run_push : (start same : Start) (passes count : ℕ) (events : List Event) (i : ℕ) (d : Event) (w next : World) →
    same ≡ start → count ≡ passes → w ≡ world_after start (take i events) → i < length events →
    IsRun start passes (take i events) → IsAccepted same count w (get_or events i d) →
    next ≡ after same w (get_or events i d).pass (get_or events i d).step →
    IsRun start passes (take (i + 1) events) × (next ≡ world_after start (take (i + 1) events))
run_push start same passes count events i d w next same_is count_is w_is lt run accepted next_is =
    let here : IsAccepted start passes (world_after start (take i events)) (get_or events i d) =
    subst (λ (stood : Start × ℕ × World). IsAccepted stood.0 stood.1 stood.2 (get_or events i d))
    (λ k. (same_is k, count_is k, w_is k)) accepted in
    rw (take_more events i d lt) (
      is_run_snoc start passes (take i events) (get_or events i d) run here,
      next_is ∙ (λ k. after (same_is k) (w_is k) (get_or events i d).pass (get_or events i d).step)
          ∙ sym (world_after-snoc start (take i events) (get_or events i d)),
    )

-- the first event that is refused
pub run_stops : (start same : Start) (passes count : ℕ) (events : List Event) (i : ℕ) (d : Event) (w : World)
    (refusal : CoreRefusal) → same ≡ start → count ≡ passes → w ≡ world_after start (take i events) →
    i < length events → IsRun start passes (take i events) → Refuses same count w (get_or events i d) refusal →
    (refusal ≡ NoMemory → NeedsMemory same w (get_or events i d)) → StopsAt start passes events i refusal
run_stops start same passes count events i d w refusal same_is count_is w_is lt run refused grows =
    inr (inr (record {
      event = get_or events i d;
      here = slice_get-get_or events i d lt;
      run = run;
      refused = subst (λ (stood : Start × ℕ × World). Refuses stood.0 stood.1 stood.2 (get_or events i d) refusal)
          (λ k. (same_is k, count_is k, w_is k)) refused;
      grows = λ lacks.
          subst (λ (stood : Start × World). NeedsMemory stood.0 stood.1 (get_or events i d)) (λ k. (same_is k, w_is k))
          (grows lacks);
    }))

-- where a replay from an opening on stops is said of the shape and the number of passes that opened
pub stops_from : (opened : Start) (count : ℕ) (kept : KeptWorld) (events : List Event)
    (answer : Result KeptWorld (ℕ × CoreRefusal)) → IsOpening opened count kept →
    IfErr answer (λ e. StopsAt kept.start (length kept.passes) events e.0 e.1) →
    IfErr answer (λ e. StopsAt opened count events e.0 e.1)
stops_from opened count kept events answer o =
    subst (λ (stood : Start × ℕ). IfErr answer (λ e. StopsAt stood.0 stood.1 events e.0 e.1))
    (λ i. (o.start i, o.passes i))
