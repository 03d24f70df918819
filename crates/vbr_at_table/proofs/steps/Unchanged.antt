-- What changes no list and moves no epoch.
use Rattle.std.proofs.Common.{◌≡◌, ℕ, ◌+◌, ◌==◌, Bool, true, false, Option, Some, None, refl, sym, ◌∙◌}
use Rattle.std.specs.Prelude.{◌&&◌}
use Rattle.vbr_machine.specs.Start.{IsStart}
use Rattle.vbr_machine.specs.Accounts.{after_giving_up, happens, own_entries}
use Rattle.vbr_machine.specs.Chronicles.{Raises}
use Rattle.vbr_machine.specs.Disturbances.{one_if, own_changes, own_changes_in}
use Rattle.vbr_machine.specs.Incarnations.{Incarnations}
use Rattle.vbr_machine.specs.Machine.{World}
use Rattle.vbr_machine.specs.Runs.{Begins, IsRun}
use Rattle.vbr_machine.specs.declared.event.Step.{Step}
use Rattle.vbr_machine.specs.declared.event.Step.TheVariants.{Raise}
use Rattle.vbr_machine.specs.declared.knowledge.Holding.{Holding}
use Rattle.vbr_machine.specs.declared.knowledge.Holding.TheVariants.{Free, Unlinked, InHand}
use Rattle.vbr_machine.proofs.Lemmas.{own_unchanged, since, step_changes_none}
use Rattle.vbr_slots.specs.steps.Calls.{AddsNone, IsSame}
use Rattle.vbr_slots.specs.views.Views.{Did, Trace}
use Rattle.vbr_at_table.specs.costs.StepKinds.{ChangesNone}

pub none_counted : (b : Bool) → one_if (b && false) + 0 ≡ 0
none_counted true = refl
none_counted false = refl

pub did_unchanged : {step : Step} {p q : Trace} {r : ℕ} → Did step p q r →
    ((w : World) (a : Incarnations) (bucket : ℕ) →
    own_changes_in p.start p.who bucket a (happens p.start w a p.who step) ≡ 0) → ChangesNone p q
did_unchanged {step} {p} {q} d none = record {
  same = λ bucket.
      (λ i. own_changes (d.same.1 i) (d.seen i) (d.same.3 i) bucket)
      ∙ step_changes_none p.start p.seen d.rest p.who bucket step d.none (λ w a. none w a bucket);
}

-- a raise changes none, whether its slot is free or in hand
pub raise_unchanged : {slot : ℕ} {p q : Trace} {r : ℕ} → Did (Raise slot) p q r → ChangesNone p q
raise_unchanged {slot} {p} d = did_unchanged d (λ w a bucket. raised a bucket ((w.know p.who).own slot))
  where
    both : (b : Bool) → one_if (b && false) + (one_if (b && false) + 0) ≡ 0
    both true = refl
    both false = refl

    raised : (a : Incarnations) (bucket : ℕ) (own : Option Holding) →
        own_changes_in p.start p.who bucket a (after_giving_up a p.who slot (Raises slot) own) ≡ 0
    raised a bucket None = none_counted (p.who == p.who)
    raised a bucket (Some (Free stamp)) = none_counted (p.who == p.who)
    raised a bucket (Some (Unlinked reread)) = none_counted (p.who == p.who)
    raised a bucket (Some (InHand known)) = both (p.who == p.who)

pub unchanged_on : {p q r : Trace} → ChangesNone p q → ChangesNone q r → ChangesNone p r
unchanged_on x y = record { same = λ bucket. y.same bucket ∙ x.same bucket }

-- what adds nothing to the chronicle
pub unchanged_by_none : {p q : Trace} → IsStart p.start → IsRun p.start p.passes q.seen → IsSame p q →
    Begins p.seen q.seen → AddsNone p q → ChangesNone p q
unchanged_by_none {p} {q} is ok s b x =
    let own : own_entries p.start q.seen p.who ≡ own_entries p.start p.seen p.who =
    sym (λ i. own_entries (s.start i) q.seen (s.who i)) ∙ x.entries in
    record {
      same = λ bucket.
          (λ i. own_changes (s.start i) q.seen (s.who i) bucket)
          ∙ own_unchanged (since p.start p.passes p.seen q.seen is ok b) p.who bucket own;
    }
