-- What contracts see of a token, and what a pass has seen that caught up.
use Rattle.std.specs.Prelude.{◌≡◌, List, ◌++◌}
use Rattle.atomic_table.specs.Seated.{TableId}
use Rattle.vbr_machine.specs.Runs.{IsRun, NoneOf}
use Rattle.vbr_machine.specs.declared.event.Event.{Event}
use Rattle.vbr_slots.specs.views.Views.{Trace, knows, steps_of}

-- a token: which table it is of, and the events of the run that it tells
pub record SeenView : Type 0 where
  pub table : TableId
  pub seen : List Event

-- the pass made no step; it has seen what others did since, which the machine accepted as a run, and knows what it knew
pub record Since (p q : Trace) : Type 0 where
  pub rest : List Event
  pub none : NoneOf p.who rest
  pub seen : q.seen ≡ p.seen ++ rest
  pub is_run : IsRun p.start p.passes q.seen
  pub know : knows q ≡ knows p
  pub same : (q.table ≡ p.table) × (q.start ≡ p.start) × (q.passes ≡ p.passes) × (q.who ≡ p.who)
  pub steps : steps_of q ≡ steps_of p
