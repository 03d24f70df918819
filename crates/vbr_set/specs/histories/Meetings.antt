-- What two passes share after they have met.
use Rattle.std.specs.Prelude.{◌≡◌, ℕ}
use Rattle.vbr_machine.specs.Opened.{opening_keys}
use Rattle.vbr_machine.specs.History.{IsLegal}
use Rattle.vbr_machine.specs.Runs.{BeginsFor}
use Rattle.vbr_machine.specs.Calls.{own_calls}
use Rattle.vbr_slots.specs.steps.Calls.{Quiet, made_by}
use Rattle.vbr_machine.specs.declared.event.Step.TheVariants.{ReadEpoch}
use Rattle.vbr_slots.specs.views.Views.{Did, KeepsPool, PassView, Trace}
use Rattle.vbr_at_table.specs.Soundness.{HasSafeRun}
use Rattle.vbr_set.specs.histories.Histories.{calls_of, ExchangesAreRight, ReadsAreRight}

-- the pass made no call; what it has then seen begins with what the other has seen, and has no other event of it; its calls are legal from the opening keys, and the calls of the other are exactly those that it has made
pub record Shares (p other q : Trace) : Type 0 where
  pub quiet : Quiet p q
  pub begins : BeginsFor other.who other.seen q.seen
  pub legal : IsLegal (opening_keys q.start) (calls_of q.start q.seen)
  pub theirs : own_calls q.start q.seen other.who ≡ made_by other
  pub exchanges : ExchangesAreRight q.start q.seen
  pub reads : ReadsAreRight q.start q.seen

-- a pass has met another: it made one step, a load of the epoch, and no call; its slots are as they were; what it has then seen is a safe run, which begins with what the other has seen and has no other event of it
pub record HasMet (p other q : PassView) : Type 0 where
  pub step : (epoch : ℕ) × Did ReadEpoch p.trace q.trace epoch
  pub pool : KeepsPool p q
  pub met : BeginsFor other.trace.who other.trace.seen q.trace.seen
  pub shares : Shares p.trace other.trace q.trace
  pub safe : HasSafeRun q.trace
