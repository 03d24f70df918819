-- The steps of a call, one piece after another.
use Rattle.std.proofs.Common.{◌≡◌, ℕ, ◌+◌, ◌<◌, ◌≤◌, Bool, true, false, arith, subst, sym, ◌∙◌, ⊎_elim}
use Rattle.std.proofs.lemmas.Bool.{cases_lt}
use Rattle.vbr_machine.specs.declared.event.Step.{Step}
use Rattle.vbr_slots.specs.steps.Calls.{Took}
use Rattle.vbr_slots.specs.views.Views.{Trace, PassView, Did}
use Rattle.vbr_slots.proofs.Lemmas.{did_took, took_none, took_on}
use Rattle.vbr_at_table.specs.pools.Pieces.{Uses}
use Rattle.vbr_at_table.specs.costs.WithinBudget.{CountsSteps}
use Rattle.vbr_at_table.specs.declared.budget.TheConstants.{PIECE}

pub counts_none : (p : Trace) (n : ℕ) → CountsSteps p p n n
counts_none p n = record { steps = 0; sum = omega arith; took = took_none p }

pub counts_one : {step : Step} {p q : Trace} {r : ℕ} (n : ℕ) → Did step p q r → CountsSteps p q n (n + 1)
counts_one n d = record { steps = 1; sum = omega arith; took = did_took d }

pub counts_on : {p q r : Trace} {a b c : ℕ} → CountsSteps p q a b → CountsSteps q r b c → CountsSteps p r a c
counts_on x y =
    record {
      steps = x.steps + y.steps;
      sum = (let e = x.sum in let f = y.sum in omega arith);
      took = took_on x.steps y.steps x.took y.took;
    }

pub uses_on : {p q r : PassView} {budget a b c m n : ℕ} → Uses p q budget a b m → Uses q r budget b c n →
    Uses p r budget a c (m + n)
uses_on x y =
    record {
      counts = counts_on x.counts y.counts;
      within = y.within;
      at_most = (let e = x.at_most in let f = y.at_most in omega arith);
    }

pub uses_more : {p q : PassView} {budget a b m : ℕ} (n : ℕ) → m ≤ n → Uses p q budget a b m → Uses p q budget a b n
uses_more n le x = record { counts = x.counts; within = x.within; at_most = (let e = x.at_most in omega arith) }

-- counted from none
pub took_all : {p q : Trace} {used : ℕ} → CountsSteps p q 0 used → Took p q used
took_all {p} {q} {used} x = subst (Took p q) (let e = x.sum in omega arith) x.took

-- a budget that doesn't afford a piece has no room for it
pub no_room : (used budget : ℕ) (b : Bool) → b ≡ false → (used + PIECE ≤ budget → b ≡ true) → budget < used + PIECE
no_room used budget b e f =
    ⊎_elim (λ (short : budget < used + PIECE). short)
    (λ (fits : used + PIECE ≤ budget). absurd (differ (sym e ∙ f fits))) (cases_lt budget (used + PIECE))
  where
    differ : false ≡ true → ⊥
    differ e = absurd (cc)
