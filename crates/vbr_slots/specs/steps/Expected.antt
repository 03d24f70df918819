-- What the steps show that expect a word: exchanges, and the loads that answer a call.
use Rattle.std.specs.Prelude.{◌≡◌, ◌≢◌, ℕ, None}
use Rattle.vbr_words.specs.declared.place.At.{At}
use Rattle.vbr_machine.specs.declared.event.Step.{Step}
use Rattle.vbr_machine.specs.declared.event.Step.TheVariants.{Publish, Replace}
use Rattle.vbr_slots.specs.views.Views.{PassView, Did, KeepsPool}

-- the step found the word that was expected; the pool and the hand stay
pub record Finds (step : Step) (p q : PassView) (expected : ℕ) : Type 0 where
  pub did : Did step p.trace q.trace expected
  pub keeps : KeepsPool p q

-- the step found another word than the expected one; the pool and the hand stay
pub record FindsOther (step : Step) (p q : PassView) (expected found : ℕ) : Type 0 where
  pub did : Did step p.trace q.trace found
  pub unexpected : found ≢ expected
  pub keeps : KeepsPool p q

-- the incarnation in hand is linked behind a place where the expected word was found; the pool stays, and nothing is in hand any more
pub record Publishes (pred : At) (expected slot : ℕ) (p q : PassView) : Type 0 where
  pub did : Did (Publish pred expected slot) p.trace q.trace expected
  pub pool : q.pool ≡ p.pool
  pub hand : q.hand ≡ None

-- the incarnation in hand is linked in place of a node whose link word was the expected one; the pool stays, and nothing is in hand any more
pub record ReplacesNode (slot expected new : ℕ) (p q : PassView) : Type 0 where
  pub did : Did (Replace slot expected new) p.trace q.trace expected
  pub pool : q.pool ≡ p.pool
  pub hand : q.hand ≡ None
