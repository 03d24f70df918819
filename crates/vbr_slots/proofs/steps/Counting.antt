-- How many steps a call on a table made, whatever it found, as the count of its pass says.
use Rattle.std.proofs.Common.{◌≡◌, ℕ, ◌+◌, Bool, true, false, sym, ap, ◌∙◌}
use Rattle.std.specs.Bool.{MatchBool}
use Rattle.std.specs.Prelude.{Result, Ok, Err, OnOk, IfErr}
use Rattle.vbr_machine.specs.declared.event.Step.{Step}
use Rattle.vbr_machine.specs.declared.event.Step.TheVariants.{Publish, Replace}
use Rattle.vbr_words.specs.declared.place.At.{At}
use Rattle.vbr_slots.specs.steps.Calls.{Took}
use Rattle.vbr_slots.specs.steps.Expected.{Finds, FindsOther, Publishes, ReplacesNode}
use Rattle.vbr_slots.specs.steps.OwnSlots.{MissesFlag, TakesFlag}
use Rattle.vbr_slots.specs.views.PassView.{IsExact}
use Rattle.vbr_slots.specs.views.Views.{PassView, Trace, counted_steps, steps_of}
use Rattle.vbr_slots.specs.declared.pass.Pass.TheInside.{Inside}
use Rattle.vbr_slots.proofs.steps.Calls.{count_on, did_took}

-- the count goes on, where the pass was lent as it was
pub counts : {p lent : PassView} {q : Trace} {old new : ℕ} (more : ℕ) → lent ≡ p →
    old ≡ counted_steps (steps_of p.trace) → new ≡ counted_steps (old + more) → Took lent.trace q more →
    new ≡ counted_steps (steps_of q)
counts {p} {lent} {q} {old} {new} more same is after took =
    count_on old new more (is ∙ ap (λ (v : PassView). counted_steps (steps_of v.trace)) (sym same)) after took

-- so the count is exact behind one step more
pub exact : {p lent : PassView} {q : Inside} {old : ℕ} → lent ≡ p → old ≡ counted_steps (steps_of p.trace) →
    q.steps ≡ counted_steps (old + 1) → Took lent.trace q.stepper.trace 1 → IsExact q
exact same is after took = record { steps = counts 1 same is after took }

pub expects_took : (reads : ℕ → ℕ) (step : Step) (p q : PassView) (expected : ℕ) (answer : Result (Unit {0}) ℕ) →
    OnOk answer (Finds step p q expected) → IfErr answer (λ found. FindsOther step p q expected (reads found)) →
    Took p.trace q.trace 1
expects_took reads step p q expected (Ok done) finds other = did_took finds.did
expects_took reads step p q expected (Err found) finds other = did_took other.did

pub publishes_took : (reads : ℕ → ℕ) (pred : At) (expected slot : ℕ) (p q : PassView) (answer : Result (Unit {0}) ℕ) →
    OnOk answer (Publishes pred expected slot p q) →
    IfErr answer (λ found. FindsOther (Publish pred expected slot) p q expected (reads found)) → Took p.trace q.trace 1
publishes_took reads pred expected slot p q (Ok done) publishes other = did_took publishes.did
publishes_took reads pred expected slot p q (Err found) publishes other = did_took other.did

pub replaces_took : (reads : ℕ → ℕ) (slot expected new : ℕ) (p q : PassView) (answer : Result (Unit {0}) ℕ) →
    OnOk answer (ReplacesNode slot expected new p q) →
    IfErr answer (λ found. FindsOther (Replace slot expected new) p q expected (reads found)) → Took p.trace q.trace 1
replaces_took reads slot expected new p q (Ok done) replaces other = did_took replaces.did
replaces_took reads slot expected new p q (Err found) replaces other = did_took other.did

pub flag_took : (slot : ℕ) (p q : PassView) (answer : Result (Unit {0}) ℕ) → OnOk answer (TakesFlag slot p q) →
    IfErr answer (MissesFlag slot p q) → Took p.trace q.trace 1
flag_took slot p q (Ok done) takes misses = did_took takes.did
flag_took slot p q (Err found) takes misses = did_took misses.did

pub advance_took : (step : Step) (p q : PassView) (from : ℕ) (b : Bool) →
    MatchBool b (Finds step p q from) ((found : ℕ) × FindsOther step p q from found) → Took p.trace q.trace 1
advance_took step p q from true finds = did_took finds.did
advance_took step p q from false other = did_took other.1.did
