-- That a pass reached for a slot stands in what it has seen.
use Rattle.std.proofs.Common.{◌≡◌, ℕ, [], ◌++◌, sym, ◌∙◌, append-nil}
use Rattle.std.specs.Prelude.{Result, Ok, Err, true, false, MatchResult, OnOk, IfErr}
use Rattle.vbr_machine.specs.declared.event.Step.{Step}
use Rattle.vbr_machine.specs.declared.event.Step.TheVariants.{TakeFlag}
use Rattle.vbr_slots.specs.steps.OwnSlots.{TakesFlag, MissesFlag}
use Rattle.vbr_slots.specs.views.Views.{Trace, PassView, Did, event_of}
use Rattle.vbr_table_tests.specs.Taking.{HasEvent}
use Rattle.vbr_words.specs.Flags.{has_flag}

-- a pass reached for a slot, and was answered whether it was taken
abbrev pub Reached : {T : Type 0} → ℕ → Trace → Trace → Result T ℕ → Type 0
Reached slot p q answer =
    MatchResult answer
    (λ taken. (found : ℕ) × Did (TakeFlag slot) p q found × (has_flag found slot ≡ true))
    (λ found. Did (TakeFlag slot) p q found × (has_flag found slot ≡ false))

pub reached : {T : Type 0} (slot : ℕ) (p q : PassView) (answer : Result T ℕ) → OnOk answer (TakesFlag slot p q) →
    IfErr answer (MissesFlag slot p q) → Reached slot p.trace q.trace answer
reached slot p q (Ok x) taken missed = (taken.found, taken.did, taken.there)
reached slot p q (Err n) taken missed = (missed.did, missed.missing)

-- a step stands in what its pass has seen
pub did_has : (step : Step) (p q : Trace) (r : ℕ) → Did step p q r → HasEvent q.seen (event_of p.who step)
did_has step p q r d = (p.seen ++ d.rest, [], d.seen ∙ sym (append-nil _))

-- whether the slot was taken or not
pub reached_for : {T : Type 0} (s : ℕ) (p q : Trace) (answer : Result T ℕ) → Reached s p q answer →
    HasEvent q.seen (event_of p.who (TakeFlag s))
reached_for s p q (Ok x) d = did_has (TakeFlag s) p q d.0 d.1
reached_for s p q (Err n) d = did_has (TakeFlag s) p q n d.0
