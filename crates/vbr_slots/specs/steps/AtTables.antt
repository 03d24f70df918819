-- A pass at its table: what it is, and what stays of it from step to step.
use Rattle.std.specs.Prelude.{◌≡◌}
use Rattle.vbr_words.specs.declared.nodes.Nodes.{Ghosts}
use Rattle.vbr_slots.specs.declared.at_table.AtTable.{AtTable}
use Rattle.vbr_slots.specs.views.Views.{PassView, Trace}

-- the pass
abbrev pub pass_of : {N : Type 0} {kind : Ghosts N} → AtTable N kind → PassView
pass_of at = at.stepper.now

-- what it has seen
abbrev pub trace_of : {N : Type 0} {kind : Ghosts N} → AtTable N kind → Trace
trace_of at = at.stepper.now.trace

-- it is the same pass at the same table
pub record IsSameTable {N : Type 0} {kind : Ghosts N} (c d : AtTable N kind) : Type 0 where
  pub pass : d.stepper.ghost_name ≡ c.stepper.ghost_name
  pub slots : d.slots ≡ c.slots
