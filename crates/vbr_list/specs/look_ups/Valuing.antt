-- Reading the value of a node, if nodes have values. Only contracts of private functions cite this.
use Rattle.std.specs.Prelude.{◌≡◌, ℕ, true}
use Rattle.vbr_words.specs.declared.place.At.{At}
use Rattle.vbr_slots.specs.views.Views.{PassView, knows}
use Rattle.vbr_at_table.specs.reads.KeptKnowledge.{Keeps}
use Rattle.vbr_at_table.specs.reads.Reading.{RollsBack}
use Rattle.vbr_at_table.specs.answers.Values.{ValueAt}
use Rattle.vbr_at_table.specs.declared.rollback.Rollback.{Rollback}

-- the value of the node at a place is known, if nodes have values, and what the pass knew it knows
pub record ReadsValue (p q : PassView) (place : At) (found : ℕ) : Type 0 where
  pub keeps : Keeps (knows p.trace) (knows q.trace)
  pub value : p.trace.start.shape.values ≡ true → ValueAt (knows q.trace) place found

-- nodes have values, and the epoch has moved
pub record LosesValue (p q : PassView) (rollback : Rollback) : Type 0 where
  pub some : p.trace.start.shape.values ≡ true
  pub rolls : RollsBack p q rollback
